-- A page that grows record by record, and a text that grows part by part.
use Rattle.std.proofs.Common.{◌≡◌, ◌≢◌, ◌==◌, ◌^◌, ◌∙◌, ◌<◌, ◌≤◌, ◌+◌, ◌-◌, ◌∷◌, ◌++◌, [], ℕ, zero, suc, List, Some, true, false, not, min, refl, get_or, length, length-append, map, replicate, take, ap, sym, arith, append_assoc}
use Rattle.std.specs.Prelude.{Vec, codes, flat_map}
use Rattle.std.specs.Fmt.{decimal}
use Rattle.std.specs.Global.{Global}
use Rattle.std.specs.Io.KnownBytes.{Appends}
use Rattle.csv.proofs.WriteFacts.{blank-more, row-final, row-more}
use Rattle.csv.specs.Writing.{default_writer, field_text, fields_written, has_written, is_blank, next_sep, row_body, tail_text, text_written, writer_setup}
use Rattle.csv.specs.declared.writer.QuoteStyle.TheVariants as style
use Rattle.csv.specs.declared.writer.Writer.{Writer}
use Rattle.csv.specs.declared.writer.WriterBuilder.{WriterBuilder}
use Rattle.std.proofs.lemmas.Grind.{flat_map-append}
use Rattle.std.proofs.lemmas.List.{append-nil, length-map, length-take-le, map-append, take_all, take_more}
use Rattle.day_text.specs.Records.{Row}
use Rattle.road_graph.specs.Roads.{Roads}
use Rattle.road_graph.specs.declared.segment.Segment.{Segment}
use Rattle.day_writer.specs.Orders.{name_at}
use Rattle.day_writer.specs.Rows.{segment_row}
use Rattle.day_writer.specs.Texts.{joined, line, row, text_of}
use Rattle.day_writer.specs.Writers.{GoesOn, IsBehind, IsBetweenRecords, given_text}

-- before a record, the writer is behind none of its fields
pub starts : (w : Writer (Vec ℕ Global)) → IsBetweenRecords w → IsBehind (given_text (Some w)) [] w
unfolding is_blank
starts w ready = record { setup = ready.setup; given = sym (append-nil (given_text (Some w))); count = ready.fields; blank = rw ready.blank refl }

-- the style of the default writer quotes as needed
is_plain : (w : Writer (Vec ℕ Global)) → writer_setup w ≡ default_writer → (writer_setup w).style ≢ style.NonNumeric
is_plain w setup e = absurd (cc (ap (λ (s : WriterBuilder). s.style) setup))

-- behind one field more
pub goes_on : (old new : Writer (Vec ℕ Global)) (text field : List ℕ) (fields : Row) → length fields < 100 → IsBehind text fields old
    → (((writer_setup old).style ≢ style.NonNumeric) → Appends (text_written (λ v. Some v.items) old) (text_written (λ v. Some v.items) new) (next_sep (writer_setup old) (fields_written old) ++ field_text (writer_setup old) field))
    → writer_setup new ≡ writer_setup old → fields_written new ≡ min (fields_written old + 1) (2 ^ 64 - 1)
    → (has_written old ≡ false → ((writer_setup old).style ≢ style.NonNumeric) → has_written new ≡ not (length (field_text (writer_setup old) field) == 0))
    → (has_written old ≡ true → has_written new ≡ true)
    → IsBehind text (fields ++ (field ∷ [])) new
goes_on old new text field fields few behind wrote same counted shows stays =
    let plain = is_plain old behind.setup in
    let size = length-append fields (field ∷ []) in
    let more : List ℕ = next_sep default_writer (length fields) ++ field_text default_writer field in
    let adds : given_text (Some new) ≡ given_text (Some old) ++ more = rw (behind.setup, behind.count) at (wrote plain) in record {
      setup = same ∙ behind.setup;
      given = adds ∙ (ap (λ (t : List ℕ). t ++ more) behind.given ∙ (append_assoc text (row_body default_writer fields) more ∙ ap (λ (t : List ℕ). text ++ t) (sym (row-more default_writer fields field))));
      count = counted ∙ rw behind.count (omega (arith, size, few));
      blank = rw size (blank-more default_writer fields field (has_written old) (has_written new) behind.blank (λ w. rw behind.setup at (shows w plain)) stays);
    }

-- behind a record that has ended
pub row_ends : (old new : Writer (Vec ℕ Global)) (text : List ℕ) (fields : Row) → IsBehind text fields old
    → Appends (text_written (λ v. Some v.items) old) (text_written (λ v. Some v.items) new) (tail_text (writer_setup old) (has_written old) (fields_written old))
    → given_text (Some new) ≡ text ++ line fields
unfolding line
row_ends old new text fields behind ends =
    row-final (Some text) (text_written (λ v. Some v.items) old) (text_written (λ v. Some v.items) new) default_writer fields (has_written old) (fields_written old) behind.given
    (rw (← behind.count) at behind.blank) (rw behind.setup at ends)

-- behind the next of some things, by its text
pub fields_more : {A : Type 0} (make : A → List ℕ) (xs : List A) (i : ℕ) (d : A) (text kind item : List ℕ) (old new : Writer (Vec ℕ Global)) → i < length xs → length xs ≤ 7 → item ≡ make (get_or xs i d)
    → IsBehind text (kind ∷ map make (take i xs)) old → GoesOn old item new → IsBehind text (kind ∷ map make (take (i + 1) xs)) new
fields_more {A} make xs i d text kind item old new low few is behind goes =
    let size = length-map (take i xs) make in
    let front = length-take-le i xs (omega (arith, low)) in
    let more : map make (take (i + 1) xs) ≡ map make (take i xs) ++ (item ∷ []) = rw (take_more xs i d low, is) (map-append make (take i xs) (get_or xs i d ∷ [])) in
    rw more (goes text (kind ∷ map make (take i xs)) (omega (arith, size, front, low, few)) behind)

-- one field more, of those that are left
pub blanks_more : (fields new all : Row) (i n : ℕ) → i < n → fields ++ replicate (n - i) [] ≡ all → new ≡ fields ++ ([] ∷ []) → new ++ replicate (n - (i + 1)) [] ≡ all
blanks_more fields new all i n h same is =
    let e : n - i ≡ suc (n - (i + 1)) = omega arith in
    rw is (append_assoc fields ([] ∷ []) (replicate (n - (i + 1)) []) ∙ (rw e at same))

-- and none is left
pub blanks_end : (fields all : Row) (i n : ℕ) → n ≤ i → fields ++ replicate (n - i) [] ≡ all → fields ≡ all
blanks_end fields all i n h same = let e : n - i ≡ 0 = omega arith in sym (append-nil fields) ∙ (rw e at same)

-- one part more behind a byte
joined_last : {A : Type 0} (between : ℕ) (text : A → List ℕ) (x : A) (xs : List A) (last : A) → joined between text ((x ∷ xs) ++ (last ∷ [])) ≡ joined between text (x ∷ xs) ++ (between ∷ text last)
joined_last between text x xs last = ap (λ t. text x ++ t) (rest xs) ∙ sym (append_assoc (text x) (flat_map (λ y. between ∷ text y) xs) (between ∷ text last))
  where
    rest : (ys : List _) → flat_map (λ y. between ∷ text y) (ys ++ (last ∷ [])) ≡ flat_map (λ y. between ∷ text y) ys ++ (between ∷ text last)
    rest [] = append-nil (between ∷ text last)
    rest (y ∷ ys) = ap (λ t. (between ∷ text y) ++ t) (rest ys) ∙ sym (append_assoc (between ∷ text y) (flat_map (λ z. between ∷ text z) ys) (between ∷ text last))

joined_more : {A : Type 0} (between : ℕ) (text : A → List ℕ) (xs : List A) (i : ℕ) (d : A) → 1 ≤ i → i < length xs → joined between text (take (i + 1) xs) ≡ joined between text (take i xs) ++ (between ∷ text (get_or xs i d))
joined_more between text [] i d some low = absurd (omega arith)
joined_more between text (x ∷ xs) zero d some low = absurd (omega arith)
joined_more between text (x ∷ xs) (suc i) d some low = ap (joined between text) (take_more (x ∷ xs) (suc i) d low) ∙ joined_last between text x (take i xs) (get_or xs i d)

-- the first part
pub first_part : {A : Type 0} (between : ℕ) (text : A → List ℕ) (xs : List A) (d : A) (old new : List ℕ) → 1 ≤ length xs → new ≡ old ++ text (get_or xs 0 d) → new ≡ old ++ joined between text (take 1 xs)
first_part between text [] d old new some h = absurd (omega arith)
first_part between text (x ∷ xs) d old new some h = h ∙ ap (λ t. old ++ t) (sym (append-nil (text x)))

-- one part more
pub next_part : {A : Type 0} (between : ℕ) (text : A → List ℕ) (xs : List A) (d : A) (i : ℕ) (old out behind new : List ℕ) → 1 ≤ i → i < length xs → out ≡ old ++ joined between text (take i xs) → behind ≡ out ++ (between ∷ []) → new ≡ behind ++ text (get_or xs i d)
    → new ≡ old ++ joined between text (take (i + 1) xs)
next_part between text xs d i old out behind new some low h k l =
    let whole : new ≡ (old ++ joined between text (take i xs)) ++ (between ∷ text (get_or xs i d)) = rw (l, k, h) (append_assoc (old ++ joined between text (take i xs)) (between ∷ []) (text (get_or xs i d))) in
    whole ∙ (append_assoc old (joined between text (take i xs)) (between ∷ text (get_or xs i d)) ∙ ap (λ t. old ++ t) (sym (joined_more between text xs i d some low)))

-- and all parts
pub last_part : {A : Type 0} (between : ℕ) (text : A → List ℕ) (xs : List A) (i : ℕ) (old out : List ℕ) → length xs ≤ i → out ≡ old ++ joined between text (take i xs) → out ≡ old ++ joined between text xs
last_part {A} between text xs i old out far h = h ∙ ap (λ (l : List A). old ++ joined between text l) (take_all i xs far)

-- the records of one thing more
flat_more : {A : Type 0} (rows : A → List Row) (xs : List A) (x : A) → flat_map line (flat_map rows (xs ++ (x ∷ []))) ≡ flat_map line (flat_map rows xs) ++ flat_map line (rows x)
flat_more rows xs x =
    ap (flat_map line) (flat_map-append rows xs (x ∷ []) ∙ ap (λ (l : List Row). flat_map rows xs ++ l) (append-nil (rows x)))
    ∙ flat_map-append line (flat_map rows xs) (rows x)

pub rows_more : {A : Type 0} (rows : A → List Row) (xs : List A) (i : ℕ) (d x : A) (old page new : List ℕ) → i < length xs → get_or xs i d ≡ x → page ≡ old ++ text_of (flat_map rows (take i xs)) → new ≡ page ++ text_of (rows x)
    → new ≡ old ++ text_of (flat_map rows (take (i + 1) xs))
rows_more {A} rows xs i d x old page new low at h k =
    let more : take (i + 1) xs ≡ take i xs ++ (x ∷ []) = take_more xs i d low ∙ ap (λ (y : A). take i xs ++ (y ∷ [])) at in
    rw (k, h) (append_assoc old (text_of (flat_map rows (take i xs))) (text_of (rows x)))
    ∙ ap (λ t. old ++ t) (sym (ap (λ (l : List A). text_of (flat_map rows l)) more ∙ flat_more rows (take i xs) x))

pub rows_all : {A : Type 0} (rows : A → List Row) (xs : List A) (i : ℕ) (old page : List ℕ) → length xs ≤ i → page ≡ old ++ text_of (flat_map rows (take i xs)) → page ≡ old ++ text_of (flat_map rows xs)
rows_all {A} rows xs i old page far h = h ∙ ap (λ (l : List A). old ++ text_of (flat_map rows l)) (take_all i xs far)

-- the record of one thing more
map_more : {A : Type 0} (make : A → Row) (xs : List A) (x : A) → text_of (map make (xs ++ (x ∷ []))) ≡ text_of (map make xs) ++ line (make x)
map_more make [] x = append-nil (line (make x))
map_more make (y ∷ xs) x = ap (λ t. line (make y) ++ t) (map_more make xs x) ∙ sym (append_assoc (line (make y)) (text_of (map make xs)) (line (make x)))

pub row_more : {A : Type 0} (make : A → Row) (xs : List A) (i : ℕ) (d x : A) (old page new : List ℕ) → i < length xs → get_or xs i d ≡ x → page ≡ old ++ text_of (map make (take i xs)) → new ≡ page ++ line (make x)
    → new ≡ old ++ text_of (map make (take (i + 1) xs))
row_more {A} make xs i d x old page new low at h k =
    let more : take (i + 1) xs ≡ take i xs ++ (x ∷ []) = take_more xs i d low ∙ ap (λ (y : A). take i xs ++ (y ∷ [])) at in
    rw (k, h) (append_assoc old (text_of (map make (take i xs))) (line (make x)))
    ∙ ap (λ t. old ++ t) (sym (ap (λ (l : List A). text_of (map make l)) more ∙ map_more make (take i xs) x))

pub row_all : {A : Type 0} (make : A → Row) (xs : List A) (i : ℕ) (old page : List ℕ) → length xs ≤ i → page ≡ old ++ text_of (map make (take i xs)) → page ≡ old ++ text_of (map make xs)
row_all {A} make xs i old page far h = h ∙ ap (λ (l : List A). old ++ text_of (map make l)) (take_all i xs far)

-- the record of a segment, by the names of the nodes that it joins
pub segment_written : (roads : Roads) (s : Segment) (page new from to : List ℕ) → name_at roads.nodes s.from ≡ from → name_at roads.nodes s.to ≡ to → new ≡ page ++ line (row (codes "segment" ∷ s.name ∷ from ∷ to ∷ decimal s.feet ∷ []))
    → new ≡ page ++ line (segment_row roads s)
segment_written roads s page new from to f t h =
    h ∙ (ap (λ (x : List ℕ). page ++ line (row (codes "segment" ∷ s.name ∷ x ∷ to ∷ decimal s.feet ∷ []))) (sym f)
    ∙ ap (λ (x : List ℕ). page ++ line (row (codes "segment" ∷ s.name ∷ name_at roads.nodes s.from ∷ x ∷ decimal s.feet ∷ []))) (sym t))

-- the whole day, kind by kind
pub day_written : (p0 p1 p2 p3 p4 p5 p6 p7 p8 p9 : List ℕ) (first last : Row) (a b c d e f g : List Row)
    → p1 ≡ p0 ++ line first → p2 ≡ p1 ++ text_of a → p3 ≡ p2 ++ text_of b → p4 ≡ p3 ++ text_of c → p5 ≡ p4 ++ text_of d → p6 ≡ p5 ++ text_of e → p7 ≡ p6 ++ text_of f → p8 ≡ p7 ++ text_of g → p9 ≡ p8 ++ line last
    → p9 ≡ p0 ++ text_of (first ∷ ((a ++ (b ++ c)) ++ (d ++ (e ++ (f ++ (g ++ last ∷ []))))))
day_written p0 p1 p2 p3 p4 p5 p6 p7 p8 p9 first last a b c d e f g h1 h2 h3 h4 h5 h6 h7 h8 h9 =
    rw (h9, h8, h7, h6, h5, h4, h3, h2, h1) (simp (append_assoc, flat_map-append, append-nil))
