-- What is said of a history of any length, by the audit of as many entries as an office can have.
use Rattle.std.proofs.Common.{◌≡◌, ◌⊎◌, ◌<◌, ◌≤◌, ◌+◌, ℕ, List, length, take, refl, ap, sym, subst, arith, inl, inr}
use Rattle.std.proofs.lemmas.Bool.{cases_lt}
use Rattle.std.proofs.lemmas.List.{length-take, take_all, take-take}
use Rattle.trip_analysis.specs.Bases.{BaseLists}
use Rattle.office_words.specs.declared.entry.Entry.{Entry}
use Rattle.journal_audit.specs.declared.verdict.Verdict.{Verdict}
use Rattle.journal_audit.specs.declared.verdict.Verdict.TheVariants.{Bad, Legal}
use Rattle.journal_audit.specs.Verdicts.{IsVerdict}
use Rattle.journal_audit.proofs.Fronts.{front_legal}
use Rattle.clerk_program.specs.WholeJournals.{IsFirstOutside, IsOfficeHistory, IsOfficeVerdict}

module _ (base : BaseLists) (day : List ℕ) (es : List Entry) where
  front_kept : (n : ℕ) → IsOfficeHistory base day es → IsOfficeHistory base day (take n es)
  front_kept n h = record { legal = front_legal base day es n h.legal; room = omega (arith, h.room, length-take n es) }

module _ (base : BaseLists) (day : List ℕ) (es : List Entry) where
  not_before : (m n : ℕ) → IsFirstOutside base day es m → IsFirstOutside base day es n → m < n → ⊥
  not_before m n one other less =
      one.outside (subst (IsOfficeHistory base day) (take-take (m + 1) n es (omega (arith, less))) (front_kept base day (take n es) (m + 1) other.before))

  one_place : (m n : ℕ) → IsFirstOutside base day es m → IsFirstOutside base day es n → m ≡ n
  one_place m n one other = by (cases_lt m n) (cases_lt n m)
    where
      by : (m < n) ⊎ (n ≤ m) → (n < m) ⊎ (m ≤ n) → m ≡ n
      by (inl less) other_way = absurd (not_before m n one other less)
      by (inr le) (inl more) = absurd (not_before n m other one more)
      by (inr le) (inr ge) = omega (arith, le, ge)

  -- one verdict is right
  pub office_verdicts_one : (v w : Verdict) → IsOfficeVerdict base day es v → IsOfficeVerdict base day es w → v ≡ w
  office_verdicts_one Legal Legal v w = refl
  office_verdicts_one Legal (Bad n) v w = absurd (w.outside (front_kept base day es (n + 1) v))
  office_verdicts_one (Bad m) Legal v w = absurd (v.outside (front_kept base day es (m + 1) w))
  office_verdicts_one (Bad m) (Bad n) v w = ap Bad (one_place m n v w)

  -- a first bad entry among so many is the first one with which an office cannot have the history
  pub bad_here : (most n : ℕ) → most ≤ 1000000 → IsVerdict base day (take most es) (Bad n) → IsOfficeVerdict base day es (Bad n)
  bad_here most n few bad =
      let many = length-take most es in
      record {
        there = omega (arith, bad.there, many);
        before = record {
          legal = subst (λ (l : List Entry). IsVerdict base day l Legal) (take-take n most es (omega (arith, bad.there, many))) bad.before;
          room = omega (arith, bad.there, many, few, length-take n es);
        };
        outside = λ h. bad.bad (subst (λ (l : List Entry). IsVerdict base day l Legal) (sym (take-take (n + 1) most es (omega (arith, bad.there, many)))) h.legal);
      }

  -- as many entries as an office can have are legal, and there are more
  pub too_many : (most : ℕ) → most ≡ 1000000 → most < length es → IsVerdict base day (take most es) Legal → IsOfficeVerdict base day es (Bad most)
  too_many most is more legal = record {
    there = more;
    before = record { legal = legal; room = omega (arith, length-take most es, is) };
    outside = λ h. omega (arith, h.room, length-take (most + 1) es, more, is);
  }

  -- all entries are legal, and there are not more
  pub all_kept : (most : ℕ) → most ≤ 1000000 → length es ≤ most → IsVerdict base day (take most es) Legal → IsOfficeVerdict base day es Legal
  all_kept most few all legal = record {
    legal = subst (λ (l : List Entry). IsVerdict base day l Legal) (take_all most es all) legal;
    room = omega (arith, few, all);
  }

  -- the first entry outside stands among the first 1,000,001
  pub within : (n : ℕ) → IsOfficeVerdict base day es (Bad n) → n ≤ 1000000
  within n bad = omega (arith, bad.there, bad.before.room, length-take n es)
