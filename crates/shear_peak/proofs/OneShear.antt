-- A train has one peak end shear on a span, with one place.
use Rattle.std.proofs.Common.{◌≡◌, ℕ, List, arith, refl, ap, sym, ◌∙◌, subst, ℤ, inl, inr}
use Rattle.std.proofs.lemmas.Bool.{cases_lt}
use Rattle.axle_train.specs.declared.axle.Axle.{Axle}
use Rattle.axle_train.specs.Trains.{axle_at}
use Rattle.influence_line.specs.Fractions.{Ratio}
use Rattle.influence_line.specs.Peaks.{IsTrainPlaced}
use Rattle.influence_line.specs.declared.placing.End.{End}
use Rattle.influence_line.specs.declared.placing.End.TheVariants.{Left, Right}
use Rattle.influence_line.proofs.Unique.{shear_unique}
use Rattle.shear_peak.specs.Ends.{IsFirstToReach, lead_to}
use Rattle.shear_peak.specs.Laws.{ShearPeakIsOne}
use Rattle.shear_peak.specs.declared.ShearPeak.{ShearPeak}

module _ (axles : List Axle) (span num den : ℕ) where
  -- the left end comes before the right
  same_end : (e e' : End) (lead lead' : ℤ) → IsFirstToReach axles span e lead num den → IsFirstToReach axles span e' lead' num den → e ≡ e'
  same_end Left Left lead lead' p r = refl
  same_end Right Right lead lead' p r = refl
  same_end Left Right lead lead' p r = absurd (r.left_first refl p.k p.within p.reaches)
  same_end Right Left lead lead' p r = absurd (p.left_first refl r.k r.within r.reaches)

  -- and the axles in their order
  same_lead : (e : End) (lead lead' : ℤ) → IsFirstToReach axles span e lead num den → IsFirstToReach axles span e lead' num den → lead ≡ lead'
  same_lead e lead lead' p r =
      let axle : p.k ≡ r.k = elim (cases_lt p.k r.k) [
        | inl before ↦ absurd (r.earlier p.k before p.reaches)
        | inr from ↦ elim (cases_lt r.k p.k) [ inl before ↦ absurd (p.earlier r.k before r.reaches) | inr to ↦ omega arith ]
      ] in
      p.lead_is ∙ (ap (λ k. lead_to span e (axle_at axles k).place) axle ∙ sym r.lead_is)

peak_same : (a b : ShearPeak) → a.value ≡ b.value → a.lead ≡ b.lead → a.end ≡ b.end → a ≡ b
peak_same a b h k l = λ i. record { value = h i; lead = k i; end = l i }

pub shear_peak_is_one : ShearPeakIsOne
shear_peak_is_one axles span a b some p r =
    let value = shear_unique (IsTrainPlaced axles) span a.value b.value some p.lowest r.lowest p.peak r.peak in
    let second = subst (λ (f : Ratio). IsFirstToReach axles span b.end b.lead f.num f.den) (sym value) r.first in
    let end = same_end axles span a.value.num a.value.den a.end b.end a.lead b.lead p.first second in
    let at_end = subst (λ (e : End). IsFirstToReach axles span e b.lead a.value.num a.value.den) (sym end) second in
    peak_same a b value (same_lead axles span a.value.num a.value.den a.end a.lead b.lead p.first at_end) end
