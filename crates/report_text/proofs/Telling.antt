-- From the line of a refusal its row and its cause are told.
use Rattle.std.proofs.Common.{◌≡◌, ◌∙◌, ◌∷◌, ◌++◌, ◌+◌, ◌%◌, ◌<◌, ◌≤◌, ◌^◌, [], ℕ, List, Bool, true, false, Option, Some, None, refl, ap, sym, arith}
use Rattle.std.specs.Prelude.{◌&&◌, nat_lt, codes, if◌then◌else◌, IfSome}
use Rattle.std.specs.List.{list_all}
use Rattle.std.specs.Fmt.{decimal}
use Rattle.std.specs.Str.{bytes_eq}
use Rattle.std.proofs.lemmas.Bool.{ltb-true}
use Rattle.std.proofs.lemmas.Bool.Decides.{nat_tests}
use Rattle.std.proofs.lemmas.Fmt.{decimal_by_steps, decimal_injective}
use Rattle.std.proofs.lemmas.List.{append_cancel_left, append_cancel_right}
use Rattle.std.proofs.lemmas.List.Folds.{list_all-append}
use Rattle.day_text.specs.declared.refusal.Cause.{Cause}
use Rattle.day_text.specs.declared.refusal.Cause.TheVariants as why
use Rattle.day_text.specs.declared.refusal.RecordCause.{RecordCause}
use Rattle.day_text.specs.declared.refusal.RecordCause.TheVariants as bad
use Rattle.day_text.specs.declared.refusal.Kind.{Kind}
use Rattle.day_text.specs.declared.refusal.Kind.TheVariants as kind
use Rattle.report_text.specs.RefusalLines.{ending, cause_number_of, word_of}
use Rattle.report_text.specs.RefusalLaws.{RefusalLinesDiffer}

-- a byte that is no space and no line feed, and texts of such bytes
abbrev is_letter : ℕ → Bool
is_letter b = nat_lt 32 b

abbrev are_letters : List ℕ → Bool
are_letters text = list_all is_letter text

both : (a b : Bool) → (a && b) ≡ true → (a ≡ true) × (b ≡ true)
both true b e = (refl, e)
both false b e = absurd (cc)

is_over : (b : ℕ) (bs : List ℕ) → are_letters (b ∷ bs) ≡ true → 32 < b
is_over b bs e = ltb-true 32 b (both (is_letter b) (are_letters bs) e).0

one_digit : (n : ℕ) → n < 10 → are_letters ((48 + n) ∷ []) ≡ true
one_digit n h = grind (arith, nat_tests)

more_digits : (n : ℕ) (ds : List ℕ) → are_letters ds ≡ true → are_letters (ds ++ ((48 + n % 10) ∷ [])) ≡ true
more_digits n ds h = rw (list_all-append is_letter ds ((48 + n % 10) ∷ [])) (rw h (one_digit (n % 10) (omega arith)))

decimal_letters : (n : ℕ) → n < 2 ^ 64 → are_letters (decimal n) ≡ true
decimal_letters n h = decimal_by_steps (λ _ ds. are_letters ds ≡ true) one_digit (λ n ds _ is. more_digits n ds is) n h

-- two texts of letters, each in front of a byte that is none, end at the same place
cut : (xs ys t u : List ℕ) (x y : ℕ) → are_letters xs ≡ true → are_letters ys ≡ true → x ≤ 32 → y ≤ 32
    → xs ++ x ∷ t ≡ ys ++ y ∷ u → (xs ≡ ys) × (x ∷ t ≡ y ∷ u)
cut [] [] t u x y a b small small' e = (refl, e)
cut [] (c ∷ ys) t u x y a b small small' e =
    let same : x ≡ c = cc in absurd (omega (arith, is_over c ys b))
cut (c ∷ xs) [] t u x y a b small small' e =
    let same : c ≡ y = cc in absurd (omega (arith, is_over c xs a))
cut (c ∷ xs) (d ∷ ys) t u x y a b small small' e =
    let same : c ≡ d = cc in
    let more : xs ++ x ∷ t ≡ ys ++ y ∷ u = cc in
    let rest = cut xs ys t u x y (both (is_letter c) (are_letters xs) a).1 (both (is_letter d) (are_letters ys) b).1 small small' more in
    ((let first : c ∷ xs ≡ d ∷ ys = cc in first), rest.1)

same_first : (x y : ℕ) (t u : List ℕ) → x ∷ t ≡ y ∷ u → x ≡ y
same_first x y t u e = cc

abbrev IsSmall : Option ℕ → Type 0
IsSmall number = IfSome number (λ n. n < 2 ^ 64)

-- the word of a line and its number are told
ends : (w w' : List ℕ) (o o' : Option ℕ) → are_letters w ≡ true → are_letters w' ≡ true → IsSmall o → IsSmall o'
    → w ++ ending o ≡ w' ++ ending o' → (w ≡ w') × (o ≡ o')
ends w w' None None a a' n n' e =
    ((cut w w' [] [] 10 10 a a' (omega arith) (omega arith) e).0, refl)
ends w w' None (Some m) a a' n n' e =
    let h = cut w w' [] (decimal m ++ 10 ∷ []) 10 32 a a' (omega arith) (omega arith) e in
    absurd (omega (arith, same_first 10 32 [] (decimal m ++ 10 ∷ []) h.1))
ends w w' (Some m) None a a' n n' e =
    let h = cut w w' (decimal m ++ 10 ∷ []) [] 32 10 a a' (omega arith) (omega arith) e in
    absurd (omega (arith, same_first 32 10 (decimal m ++ 10 ∷ []) [] h.1))
ends w w' (Some m) (Some k) a a' n n' e =
    let h = cut w w' (decimal m ++ 10 ∷ []) (decimal k ++ 10 ∷ []) 32 32 a a' (omega arith) (omega arith) e in
    let more : decimal m ++ 10 ∷ [] ≡ decimal k ++ 10 ∷ [] = cc in
    (h.0, ap Some (decimal_injective m k n n' (append_cancel_right (decimal m) (decimal k) (10 ∷ []) more)))

abbrev or_zero : Option ℕ → ℕ
or_zero None = 0
or_zero (Some n) = n

-- the cause of a word and a number
abbrev bad_told : List ℕ → ℕ → RecordCause
bad_told w n =
    if bytes_eq w (codes "fields") then bad.Fields
    else (if bytes_eq w (codes "kind") then bad.Kind
    else (if bytes_eq w (codes "order") then bad.Order
    else (if bytes_eq w (codes "extra") then bad.Extra
    else (if bytes_eq w (codes "field") then bad.Field n
    else (if bytes_eq w (codes "same") then bad.Same
    else (if bytes_eq w (codes "unknown") then bad.Unknown n
    else (if bytes_eq w (codes "range") then bad.Range n
    else (if bytes_eq w (codes "train") then bad.Train n
    else (if bytes_eq w (codes "same-place") then bad.SamePlace
    else (if bytes_eq w (codes "broken-route") then bad.BrokenRoute
    else (if bytes_eq w (codes "day-order") then bad.DayOrder
    else (if bytes_eq w (codes "annual-days") then bad.AnnualDays
    else bad.End))))))))))))

abbrev told : List ℕ → Option ℕ → Cause
told w o =
    if bytes_eq w (codes "nodes") then why.TooMany kind.Nodes
    else (if bytes_eq w (codes "segments") then why.TooMany kind.Segments
    else (if bytes_eq w (codes "spans") then why.TooMany kind.Spans
    else (if bytes_eq w (codes "spans-of-segment") then why.TooMany kind.SpansOfSegment
    else (if bytes_eq w (codes "trucks") then why.TooMany kind.Trucks
    else (if bytes_eq w (codes "actors") then why.TooMany kind.Actors
    else (if bytes_eq w (codes "commands") then why.TooMany kind.Commands
    else (if bytes_eq w (codes "probes") then why.TooMany kind.Probes
    else why.Bad (bad_told w (or_zero o)))))))))

-- the word of a cause is of letters, and the cause is told
abbrev IsTold : Cause → Type 0
IsTold cause = (are_letters (word_of cause) ≡ true) × (told (word_of cause) (cause_number_of cause) ≡ cause)

bad_is_told : (cause : RecordCause) → IsTold (why.Bad cause)
bad_is_told bad.Fields = (refl, refl)
bad_is_told bad.Kind = (refl, refl)
bad_is_told bad.Order = (refl, refl)
bad_is_told bad.Extra = (refl, refl)
bad_is_told (bad.Field at) = (refl, refl)
bad_is_told bad.Same = (refl, refl)
bad_is_told (bad.Unknown at) = (refl, refl)
bad_is_told (bad.Range at) = (refl, refl)
bad_is_told (bad.Train rule) = (refl, refl)
bad_is_told bad.SamePlace = (refl, refl)
bad_is_told bad.BrokenRoute = (refl, refl)
bad_is_told bad.DayOrder = (refl, refl)
bad_is_told bad.AnnualDays = (refl, refl)
bad_is_told bad.End = (refl, refl)

kind_is_told : (k : Kind) → IsTold (why.TooMany k)
kind_is_told kind.Nodes = (refl, refl)
kind_is_told kind.Segments = (refl, refl)
kind_is_told kind.Spans = (refl, refl)
kind_is_told kind.SpansOfSegment = (refl, refl)
kind_is_told kind.Trucks = (refl, refl)
kind_is_told kind.Actors = (refl, refl)
kind_is_told kind.Commands = (refl, refl)
kind_is_told kind.Probes = (refl, refl)

is_told : (cause : Cause) → IsTold cause
is_told (why.Bad cause) = bad_is_told cause
is_told (why.TooMany k) = kind_is_told k

pub lines_differ : RefusalLinesDiffer
lines_differ row row' cause cause' small small' n n' e =
    let behind = append_cancel_left (codes "refused: record ") _ _ e in
    let rows = cut (decimal row) (decimal row') (word_of cause ++ ending (cause_number_of cause)) (word_of cause' ++ ending (cause_number_of cause')) 32 32 (decimal_letters row small) (decimal_letters row' small') (omega arith) (omega arith) behind in
    let causes : word_of cause ++ ending (cause_number_of cause) ≡ word_of cause' ++ ending (cause_number_of cause') = cc in
    let same = ends (word_of cause) (word_of cause') (cause_number_of cause) (cause_number_of cause') (is_told cause).0 (is_told cause').0 n n' causes in (
      decimal_injective row row' small small' rows.0,
      sym (is_told cause).1 ∙ (ap (λ w. told w (cause_number_of cause)) same.0 ∙ (ap (λ o. told (word_of cause') o) same.1 ∙ (is_told cause').1)),
    )
