-- A word that is read is the text of what was read.
use Rattle.std.proofs.Common.{◌≡◌, ◌∙◌, ◌<◌, ◌+◌, ◌^◌, ◌∷◌, ◌++◌, [], ℕ, List, Option, Some, None, Bool, true, false, cond, eqb, leb, refl, ap, sym, subst, arith, length, map}
use Rattle.std.specs.Prelude.{codes, option_map, option_and_then, not, IfOk, IfSome, Result, Ok, Err}
use Rattle.std.specs.Result.{result_ok}
use Rattle.std.specs.Fmt.{decimal}
use Rattle.std.specs.Cmp.{first_so, second_so}
use Rattle.std.specs.List.{AllByRecursion, join_with_byte}
use Rattle.std.specs.Str.{bytes_eq}
use Rattle.std.proofs.lemmas.Bool.{leb-true, ltb-true}
use Rattle.std.proofs.lemmas.List.{append-nil}
use Rattle.std.proofs.lemmas.List.Splits.{join_with_byte-slice_split}
use Rattle.std.proofs.lemmas.Slice.Eq.{bytes_eq-Decides}
use Rattle.influence_line.specs.Fractions.{Ratio, ratio_text}
use Rattle.permit_days.specs.Days.{day_of_month as day_in_month, has_shape, is_day, is_day_text, month_of, year_of}
use Rattle.permit_days.specs.declared.refusal.DayRefusal.{DayRefusal}
use Rattle.permit_days.specs.declared.refusal.DayRefusal.TheVariants.{Shape, NoSuchDay}
use Rattle.journal_text.specs.Words.{Words, group, index, joined, list_text, routes_text}
use Rattle.journal_reader.specs.Words.{IsTextOf, all_of, day_spelled, fraction_of, group_of, if_few, is_empty, list_of, number32, number_spelled, pair_of, parts, place_of, routes_spelled, wide_of, word_at}
use Rattle.journal_reader.specs.Fits.{FitsDay, FitsIndex, FitsIndices, FitsNumbers, FitsRatio, FitsRoutes}
use Rattle.journal_reader.proofs.Pieces.{split_some}
use Rattle.journal_reader.proofs.Lowest.{lowest_from}

-- steps of a reader
bind_some : {A B : Type 0} (o : Option A) (f : A → Option B) (y : B) → option_and_then f o ≡ Some y → (x : A) × (o ≡ Some x) × (f x ≡ Some y)
bind_some None f y e = absurd (cc e)
bind_some (Some x) f y e = (x, refl, e)

map_some : {A B : Type 0} (o : Option A) (f : A → B) (y : B) → option_map f o ≡ Some y → (x : A) × (o ≡ Some x) × (f x ≡ y)
map_some None f y e = absurd (cc e)
map_some (Some x) f y e = (x, refl, cc)

if_some : {A : Type 0} (b : Bool) (x : A) (y : A) → cond b (Some x) None ≡ Some y → (b ≡ true) × (x ≡ y)
if_some true x y e = (refl, cc)
if_some false x y e = absurd (cc e)

pub number_only : (bound : ℕ) (word : List ℕ) (n : ℕ) → number_spelled bound word ≡ Some n → (word ≡ decimal n) × (n < bound)
unfolding number_spelled
number_only bound word n e =
    let (passed, is) = if_some _ _ n e in
    (sym ((bytes_eq-Decides _ word).0 (first_so _ _ passed)) ∙ ap decimal is, subst (λ k. k < bound) is (ltb-true _ bound (second_so _ _ passed)))

pub place_only : (word : List ℕ) (i : ℕ) → place_of word ≡ Some i → (word ≡ index i) × (i < 65536)
unfolding place_of
place_only word i e =
    let (n, read, rest) = bind_some (number_spelled (2 ^ 32) word) _ i e in
    let (passed, is) = if_some _ _ i rest in
    let l = leb-true 1 n (first_so (leb 1 n) (leb n 65536) passed) in
    let h = leb-true n 65536 (second_so (leb 1 n) (leb n 65536) passed) in
    let k : n ≡ i + 1 = omega arith in
    ((number_only (2 ^ 32) word n read).0 ∙ ap decimal k, omega arith)

no_parts : (sep : ℕ) (word : List ℕ) → parts sep word ≡ [] → ⊥
no_parts sep word e = let f : is_empty (parts sep word) ≡ false = split_some (λ x. eqb x sep) word in let t : is_empty (parts sep word) ≡ true = ap is_empty e in cc (f, t)

module _ {A : Type 0} (read : List ℕ → Option A) (text : A → List ℕ) (Fits : A → Type 0) (only : (w : List ℕ) (x : A) → read w ≡ Some x → (w ≡ text x) × Fits x) where
  all_only : (ws : Words) (xs : List A) → all_of read ws ≡ Some xs → (ws ≡ map text xs) × AllByRecursion Fits xs
  all_only [] xs e = let is : [] ≡ xs = cc in subst (λ (ys : List A). ([] ≡ map text ys) × AllByRecursion Fits ys) is (refl, tt)
  all_only (w ∷ ws) xs e =
      let (x, first, rest) = bind_some (read w) _ xs e in
      let (more, others, is) = map_some (all_of read ws) (λ ys. x ∷ ys) xs rest in
      let (spelled, fits) = only w x first in
      let (all_spelled, all_fit) = all_only ws more others in
      subst (λ (ys : List A). (w ∷ ws ≡ map text ys) × AllByRecursion Fits ys) is (cc, (fits, all_fit))

  joined_is : (sep : ℕ) (x : A) (xs : List A) → join_with_byte sep (map text (x ∷ xs)) ≡ joined sep text (x ∷ xs)
  joined_is sep x [] = simp append-nil
  joined_is sep x (y ∷ xs) = ap (λ t. text x ++ (sep ∷ t)) (joined_is sep y xs)

  parts_only : (sep : ℕ) (word : List ℕ) (xs : List A) → all_of read (parts sep word) ≡ Some xs → (word ≡ joined sep text xs) × AllByRecursion Fits xs × (0 < length xs)
  parts_only sep word xs e =
      let (spelled, fits) = all_only (parts sep word) xs e in
      let whole : word ≡ join_with_byte sep (map text xs) = sym (join_with_byte-slice_split sep word) ∙ ap (join_with_byte sep) spelled in
      by xs spelled whole fits
    where
      by : (ys : List A) → parts sep word ≡ map text ys → word ≡ join_with_byte sep (map text ys) → AllByRecursion Fits ys → (word ≡ joined sep text ys) × AllByRecursion Fits ys × (0 < length ys)
      by [] s w f = absurd (no_parts sep word s)
      by (y ∷ ys) s w f = (w ∙ joined_is sep y ys, f, omega arith)

pub list_only : (read : List ℕ → Option ℕ) (text : ℕ → List ℕ) (Fits : ℕ → Type 0) → ((w : List ℕ) (x : ℕ) → read w ≡ Some x → (w ≡ text x) × Fits x) → (word xs : List ℕ) → list_of read word ≡ Some xs → (word ≡ list_text text xs) × AllByRecursion Fits xs
unfolding list_of
list_only read text Fits only word xs e = by (bytes_eq word (codes "-")) refl e
  where
    by : (b : Bool) → bytes_eq word (codes "-") ≡ b → cond b (Some []) (all_of read (parts 44 word)) ≡ Some xs → (word ≡ list_text text xs) × AllByRecursion Fits xs
    by true t h = let is : [] ≡ xs = cc in subst (λ (ys : List ℕ). (word ≡ list_text text ys) × AllByRecursion Fits ys) is ((bytes_eq-Decides word (codes "-")).0 t, tt)
    by false t h = let (spelled, fits, some) = parts_only read text Fits only 44 word xs h in at_least xs spelled fits some
      where
        at_least : (ys : List ℕ) → word ≡ joined 44 text ys → AllByRecursion Fits ys → 0 < length ys → (word ≡ list_text text ys) × AllByRecursion Fits ys
        at_least [] s f n = absurd (omega arith)
        at_least (y ∷ ys) s f n = (s, f)

pub numbers_only : (word xs : List ℕ) → list_of number32 word ≡ Some xs → (word ≡ list_text decimal xs) × FitsNumbers xs
numbers_only word xs e = list_only number32 decimal (λ n. n < 2 ^ 32) (number_only (2 ^ 32)) word xs e

pub indices_only : (word xs : List ℕ) → list_of place_of word ≡ Some xs → (word ≡ list_text index xs) × FitsIndices xs
indices_only word xs e = list_only place_of index (λ i. i < 65536) place_only word xs e

pub routes_only : (word : List ℕ) (routes : List (List ℕ)) → routes_spelled word ≡ Some routes → (word ≡ routes_text routes) × FitsRoutes routes
unfolding routes_spelled
routes_only word routes e =
    let (all, read, rest) = bind_some (all_of (list_of place_of) (parts 47 word)) if_few routes e in
    let (passed, is) = if_some (leb (length all) 8) all routes rest in
    let (spelled, fits, some) = parts_only (list_of place_of) (list_text index) FitsIndices indices_only 47 word all read in
    subst (λ (r : List (List ℕ)). (word ≡ routes_text r) × FitsRoutes r) is (spelled, (record { some = omega (arith, some); few = leb-true (length all) 8 passed }, fits))

-- two parts
pub pair_only : {A B : Type 0} (sep : ℕ) (one : List ℕ → Option A) (two : List ℕ → Option B) (word : List ℕ) (p : A × B) → pair_of sep one two word ≡ Some p
    → (a b : List ℕ) × (word ≡ a ++ (sep ∷ b)) × (one a ≡ Some p.0) × (two b ≡ Some p.1)
unfolding pair_of
pair_only sep one two word p e =
    let (a, first, e1) = bind_some (word_at (parts sep word)) _ p e in
    let (b, second, e2) = bind_some (word_at a.1) _ p e1 in
    let (x, is_x, e3) = bind_some (one a.0) _ p e2 in
    let (y, is_y, e4) = bind_some (two b.0) _ p e3 in
    let (done, is) = if_some _ _ p e4 in
    let whole : word ≡ join_with_byte sep (a.0 ∷ b.0 ∷ []) = sym (join_with_byte-slice_split sep word) ∙ ap (join_with_byte sep) (cons_of (parts sep word) a first ∙ ap (λ t. a.0 ∷ t) (cons_of a.1 b second ∙ ap (λ t. b.0 ∷ t) (empty_of b.1 done))) in
    (a.0, b.0, whole, is_x ∙ ap (λ (q : _). Some q.0) is, is_y ∙ ap (λ (q : _). Some q.1) is)
  where
    cons_of : (ws : Words) (a : List ℕ × Words) → word_at ws ≡ Some a → ws ≡ a.0 ∷ a.1
    cons_of [] a h = absurd (cc h)
    cons_of (w ∷ ws) a h = let is : (w, ws) ≡ a = cc in ap (λ (q : List ℕ × Words). q.0 ∷ q.1) is

    empty_of : (ws : Words) → is_empty ws ≡ true → ws ≡ []
    empty_of [] h = refl
    empty_of (w ∷ ws) h = absurd (cc h)

pub fraction_only : (word : List ℕ) (f : Ratio) → fraction_of word ≡ Some f → (word ≡ ratio_text f) × FitsRatio f
unfolding fraction_of
fraction_only word f e =
    let (p, read, rest) = bind_some (pair_of 47 wide_of wide_of word) _ f e in
    let (lowest, is) = if_some _ _ f rest in
    let (a, b, whole, one, two) = pair_only 47 wide_of wide_of word p read in
    let n = number_only (2 ^ 128) a p.0 one in
    let d = number_only (2 ^ 128) b p.1 two in
    subst (λ (g : Ratio). (word ≡ ratio_text g) × FitsRatio g) is (whole ∙ ap (λ t. t ++ (47 ∷ b)) n.0 ∙ ap (λ t. decimal p.0 ++ (47 ∷ t)) d.0, (n.1, d.1, lowest_from _ lowest))

pub group_only : (word : List ℕ) (g : ℕ × ℕ) → group_of word ≡ Some g → (word ≡ group g.0 g.1) × FitsIndex g.0 × FitsIndex g.1
unfolding group_of
group_only word g read =
    let (a, b, whole, one, two) = pair_only 45 place_of place_of word g read in
    let i = place_only a g.0 one in
    let j = place_only b g.1 two in
    (whole ∙ ap (λ t. t ++ (45 ∷ b)) i.0 ∙ ap (λ t. index g.0 ++ (45 ∷ t)) j.0, i.1, j.1)

pub day_only : (word day : List ℕ) → day_spelled word ≡ Some day → (word ≡ day) × FitsDay day
unfolding day_spelled
day_only word day e = by (has_shape word) (is_day (year_of word) (month_of word) (day_in_month word)) refl refl e
  where
    by : (a b : Bool) → has_shape word ≡ a → is_day (year_of word) (month_of word) (day_in_month word) ≡ b → result_ok {E = DayRefusal} (cond (not a) (Err Shape) (cond (not b) (Err NoSuchDay) (Ok word))) ≡ Some day → (word ≡ day) × FitsDay day
    by true true p q k = let is : word ≡ day = cc in (is, subst (λ (d : List ℕ). is_day_text d ≡ true) is (rw (p, q) refl))
    by true false p q k = absurd (cc k)
    by false b p q k = absurd (cc k)

-- the same of what was found
found_so : {A : Type 0} (P : A → Type 0) (found read : Option A) → ((x : A) → read ≡ Some x → P x) → found ≡ read → IfSome found P
found_so P None read h e = tt
found_so P (Some x) read h e = h x (sym e)

pub numbers_found : {E : Type 0} (word : List ℕ) (found : Result (Option (List ℕ)) E) → IfOk found (λ xs. xs ≡ list_of number32 word) → IfOk found (IsTextOf (list_text decimal) FitsNumbers word)
numbers_found word (Ok found) e = found_so _ found _ (numbers_only word) e
numbers_found word (Err why) e = tt

pub indices_found : {E : Type 0} (word : List ℕ) (found : Result (Option (List ℕ)) E) → IfOk found (λ xs. xs ≡ list_of place_of word) → IfOk found (IsTextOf (list_text index) FitsIndices word)
indices_found word (Ok found) e = found_so _ found _ (indices_only word) e
indices_found word (Err why) e = tt

pub fraction_found : (word : List ℕ) (found : Option Ratio) → found ≡ fraction_of word → IfSome found (λ f. (word ≡ ratio_text f) × FitsRatio f)
fraction_found word found e = found_so _ found _ (fraction_only word) e

pub group_found : (word : List ℕ) (found : Option (ℕ × ℕ)) → found ≡ group_of word → IfSome found (λ g. (word ≡ group g.0 g.1) × FitsIndex g.0 × FitsIndex g.1)
group_found word found e = found_so _ found _ (group_only word) e

pub day_found : (word : List ℕ) (found : Option (List ℕ)) → found ≡ day_spelled word → IfSome found (λ day. (word ≡ day) × FitsDay day)
day_found word found e = found_so _ found _ (day_only word) e
