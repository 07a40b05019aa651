-- The entries of a history up to one that is no step.
use Rattle.std.proofs.Common.{◌≡◌, ◌<◌, ◌≤◌, ◌+◌, ◌++◌, ◌∷◌, [], ℕ, List, length, take, drop, get_or, ap, sym, subst, refl, ◌∙◌, arith, inl, inr, ◌⊎◌}
use Rattle.std.proofs.lemmas.List.{take-append-drop, take-take, take_more}
use Rattle.std.proofs.lemmas.Bool.{cases_lt}
use Rattle.trip_analysis.specs.Bases.{BaseLists}
use Rattle.office_words.specs.declared.entry.Entry.{Entry}
use Rattle.office_core.specs.Machine.{IsLegal, Step, after_entry, machine_of, opened}
use Rattle.office_core.proofs.Histories.{last_step, legal_more}
use Rattle.office_core.proofs.Prefixes.{legal_front}
use Rattle.journal_audit.specs.declared.verdict.Verdict.TheVariants.{Bad, Legal}
use Rattle.journal_audit.specs.Verdicts.{IsFirstBad, VerdictsAreOne}

-- the front of a legal history is legal
pub front_legal : (base : BaseLists) (day : List ℕ) (es : List Entry) (n : ℕ) → IsLegal base day es → IsLegal base day (take n es)
front_legal base day es n legal = legal_front base (opened day) (take n es) (drop n es) (subst (IsLegal base day) (sym (take-append-drop n es)) legal)

-- one entry more
pub step_legal : (base : BaseLists) (day : List ℕ) (es : List Entry) (e : Entry) → IsLegal base day es → Step base (machine_of base day es) e (after_entry base (machine_of base day es) e) → IsLegal base day (es ++ e ∷ [])
step_legal base day es e legal step = legal_more base day es e legal step.asked step.answer

pub legal_step : (base : BaseLists) (day : List ℕ) (es : List Entry) (e : Entry) → IsLegal base day (es ++ e ∷ []) → Step base (machine_of base day es) e (after_entry base (machine_of base day es) e)
legal_step base day es e legal = let step = last_step base day es e legal in record { asked = step.asked; answer = step.answer; next_is = refl }

-- the first entry with which a history is not legal
pub first_bad : (base : BaseLists) (day : List ℕ) (es : List Entry) (n : ℕ) (e : Entry) → n < length es → e ≡ get_or es n e → IsLegal base day (take n es)
    → (Step base (machine_of base day (take n es)) e (after_entry base (machine_of base day (take n es)) e) → ⊥) → IsFirstBad base day es n
first_bad base day es n e there is before fails = record {
  there = there;
  before = before;
  bad = λ legal. fails (legal_step base day (take n es) e (subst (IsLegal base day) (take_more es n e there ∙ ap (λ (e : Entry). take n es ++ e ∷ []) (sym is)) legal));
}

-- of two first bad entries none is before the other
not_before : (base : BaseLists) (day : List ℕ) (es : List Entry) (m n : ℕ) → IsFirstBad base day es m → IsFirstBad base day es n → m < n → ⊥
not_before base day es m n one other lt =
    one.bad (subst (IsLegal base day) (take-take (m + 1) n es (omega (arith, lt))) (front_legal base day (take n es) (m + 1) other.before))

one_place : (base : BaseLists) (day : List ℕ) (es : List Entry) (m n : ℕ) → IsFirstBad base day es m → IsFirstBad base day es n → m ≡ n
one_place base day es m n one other = by (cases_lt m n) (cases_lt n m)
  where
    by : (m < n) ⊎ (n ≤ m) → (n < m) ⊎ (m ≤ n) → m ≡ n
    by (inl lt) other_way = absurd (not_before base day es m n one other lt)
    by (inr le) (inl gt) = absurd (not_before base day es n m other one gt)
    by (inr le) (inr ge) = omega (arith, le, ge)

pub verdicts_one : VerdictsAreOne
verdicts_one base day es Legal Legal v w = refl
verdicts_one base day es Legal (Bad n) v w = absurd (w.bad (front_legal base day es (n + 1) v))
verdicts_one base day es (Bad m) Legal v w = absurd (v.bad (front_legal base day es (m + 1) w))
verdicts_one base day es (Bad m) (Bad n) v w = ap Bad (one_place base day es m n v w)
