-- Where records lead the judge of day files.
use Rattle.std.proofs.Common.{◌≡◌, ◌∙◌, ◌+◌, ◌∷◌, ◌++◌, [], ℕ, List, Result, Ok, Err, map, refl, ap, sym, subst, append_assoc}
use Rattle.std.specs.Prelude.{flat_map}
use Rattle.std.specs.List.{AllByRecursion}
use Rattle.std.proofs.lemmas.List.{append-nil}
use Rattle.day_text.specs.Records.{Row, go_on, judge_record, judged}
use Rattle.day_text.specs.declared.refusal.Cause.{Cause}
use Rattle.day_text.specs.Days.{judge_day}
use Rattle.day_writer.proofs.Judge.{DayProgress, DaySoFar, open_day}
use Rattle.day_writer.proofs.Plain.{IsPlainRow, all_rows, plain_record}

-- the records lead from one place to another
abbrev pub LeadsFrom : DayProgress → List Row → DayProgress → Type 0
LeadsFrom p rows q = (k : ℕ) → (j : ℕ) × (judged judge_day k p rows ≡ Ok (j, q))

pub from_append : (p q r : DayProgress) (xs ys : List Row) → LeadsFrom p xs q → LeadsFrom q ys r → LeadsFrom p (xs ++ ys) r
from_append p q r xs ys h i k =
    let (j, e) = h k in
    let (l, f) = i j in
    (l, joined xs k p e ∙ f)
  where
    joined : {j : ℕ} (zs : List Row) (k : ℕ) (s : DayProgress) → judged judge_day k s zs ≡ Ok (j, q) → judged judge_day k s (zs ++ ys) ≡ judged judge_day j q ys
    joined {j} [] k s e =
        let left : ℕ × DayProgress = (k, s) in
        let right : ℕ × DayProgress = (j, q) in
        let same : left ≡ right = cc in
        ap (λ (x : ℕ × DayProgress). judged judge_day x.0 x.1 ys) same
    joined {j} (z ∷ zs) k s e = by (judge_record judge_day s z) e (λ next g. joined zs (k + 1) next g)
      where
        by : (o : Result DayProgress Cause) → go_on k o (λ next. judged judge_day (k + 1) next zs) ≡ Ok (j, q) → ((next : DayProgress) → judged judge_day (k + 1) next zs ≡ Ok (j, q) → judged judge_day (k + 1) next (zs ++ ys) ≡ judged judge_day j q ys) → go_on k o (λ next. judged judge_day (k + 1) next (zs ++ ys)) ≡ judged judge_day j q ys
        by (Ok next) g more = more next g
        by (Err c) g more = absurd (cc g)

pub from_one : (p q : DayProgress) (fields : Row) → IsPlainRow fields → judge_day p fields ≡ Ok q → LeadsFrom p (fields ∷ []) q
from_one p q fields plain h k = (k + 1, rw (plain_record fields plain, h) refl)

-- the records lead from what was said so far to this, and are of ASCII
pub record Goes (d : DaySoFar) (rows : List Row) (e : DaySoFar) : Type 0 where
  pub leads : LeadsFrom (open_day d) rows (open_day e)
  pub plain : AllByRecursion IsPlainRow rows

pub goes_none : (d : DaySoFar) → Goes d [] d
goes_none d = record { leads = λ k. (k, refl); plain = tt }

pub goes_one : (d e : DaySoFar) (fields : Row) → IsPlainRow fields → judge_day (open_day d) fields ≡ Ok (open_day e) → Goes d (fields ∷ []) e
goes_one d e fields plain h = record { leads = from_one (open_day d) (open_day e) fields plain h; plain = (plain, tt) }

pub goes_then : (d e f : DaySoFar) (xs ys : List Row) → Goes d xs e → Goes e ys f → Goes d (xs ++ ys) f
goes_then d e f xs ys h i = record {
  leads = from_append (open_day d) (open_day e) (open_day f) xs ys h.leads i.leads;
  plain = all_rows xs ys h.plain i.plain;
}

pub goes_to : (d e f : DaySoFar) (rows : List Row) → Goes d rows e → e ≡ f → Goes d rows f
goes_to d e f rows h same = subst (λ (x : DaySoFar). Goes d rows x) same h

-- Thing by thing: the records of each lead from what stands where it is the next one to what stands where it is the last one. What
-- stands is told by the things so far and those that are left.
module _ {A : Type 0} (all : List A) (at : List A → List A → DaySoFar) where
  end_here : (front : List A) → front ++ [] ≡ all → at front [] ≡ at all []
  end_here front e = ap (λ (l : List A). at l []) (sym (append-nil front) ∙ e)

  next_front : (front : List A) (x : A) (rest : List A) → front ++ (x ∷ rest) ≡ all → (front ++ (x ∷ [])) ++ rest ≡ all
  next_front front x rest e = append_assoc front (x ∷ []) rest ∙ e

  each_from : (rows : A → List Row) → ((front : List A) (x : A) (rest : List A) → front ++ (x ∷ rest) ≡ all → Goes (at front (x ∷ rest)) (rows x) (at (front ++ (x ∷ [])) rest))
      → (rest front : List A) → front ++ rest ≡ all → Goes (at front rest) (flat_map rows rest) (at all [])
  each_from rows step [] front e = goes_to (at front []) (at front []) (at all []) [] (goes_none (at front [])) (end_here front e)
  each_from rows step (x ∷ rest) front e =
      goes_then (at front (x ∷ rest)) (at (front ++ (x ∷ [])) rest) (at all []) (rows x) (flat_map rows rest) (step front x rest e)
      (each_from rows step rest (front ++ (x ∷ [])) (next_front front x rest e))

  pub goes_each : (rows : A → List Row) → ((front : List A) (x : A) (rest : List A) → front ++ (x ∷ rest) ≡ all → Goes (at front (x ∷ rest)) (rows x) (at (front ++ (x ∷ [])) rest))
      → Goes (at [] all) (flat_map rows all) (at all [])
  goes_each rows step = each_from rows step all [] refl

  map_from : (make : A → Row) → ((front : List A) (x : A) (rest : List A) → front ++ (x ∷ rest) ≡ all → Goes (at front (x ∷ rest)) (make x ∷ []) (at (front ++ (x ∷ [])) rest))
      → (rest front : List A) → front ++ rest ≡ all → Goes (at front rest) (map make rest) (at all [])
  map_from make step [] front e = goes_to (at front []) (at front []) (at all []) [] (goes_none (at front [])) (end_here front e)
  map_from make step (x ∷ rest) front e =
      goes_then (at front (x ∷ rest)) (at (front ++ (x ∷ [])) rest) (at all []) (make x ∷ []) (map make rest) (step front x rest e)
      (map_from make step rest (front ++ (x ∷ [])) (next_front front x rest e))

  -- the same, where each thing has one record
  pub goes_map : (make : A → Row) → ((front : List A) (x : A) (rest : List A) → front ++ (x ∷ rest) ≡ all → Goes (at front (x ∷ rest)) (make x ∷ []) (at (front ++ (x ∷ [])) rest))
      → Goes (at [] all) (map make all) (at all [])
  goes_map make step = map_from make step all [] refl
