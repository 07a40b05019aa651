-- Laws of fractions, of peaks and of a load that moves, in the subject's own words.
use Rattle.std.specs.Prelude.{◌≡◌, ℕ, ◌*◌, ◌≤◌, List, ◌∷◌, ◌++◌, ℤ, pos, ◌≤ℤ◌, ◌⊎◌}
use Rattle.axle_train.specs.declared.axle.Axle.{Axle}
use Rattle.axle_train.specs.Bounds.{IsTrain}
use Rattle.influence_line.specs.Fractions.{Ratio, IsLowest, IsSmall, IsComparable}
use Rattle.influence_line.specs.Placed.{Load, moment_sum}
use Rattle.influence_line.specs.Peaks.{IsPeakMoment, IsPeakShear}
use Rattle.influence_line.specs.Spans.{IsSpanLength}

-- two fractions in lowest terms that have one value are one fraction
abbrev pub EqualFractionsAreOne : Type 0
EqualFractionsAreOne = (f g : Ratio) → IsLowest f → IsLowest g → f.num * g.den ≡ g.num * f.den → f ≡ g

-- any two fractions of the size that peaks have can be compared
abbrev pub SmallFractionsCompare : Type 0
SmallFractionsCompare = (f g : Ratio) → IsSmall f → IsSmall g → IsComparable f g

-- two fractions in lowest terms that are both the peak moment of these placements on a span are one fraction
abbrev pub PeakMomentIsOne : (ℕ → List Load → Type 0) → Type 0
PeakMomentIsOne Allowed = (span : ℕ) (f g : Ratio) → 1 ≤ span → IsLowest f → IsLowest g → IsPeakMoment Allowed span f.num f.den → IsPeakMoment Allowed span g.num g.den → f ≡ g

-- the same of the peak end shear
abbrev pub PeakShearIsOne : (ℕ → List Load → Type 0) → Type 0
PeakShearIsOne Allowed = (span : ℕ) (f g : Ratio) → 1 ≤ span → IsLowest f → IsLowest g → IsPeakShear Allowed span f.num f.den → IsPeakShear Allowed span g.num g.den → f ≡ g

-- a function of a train and a span gives this peak, in lowest terms and of the size that peaks have
abbrev pub GivesThePeak : (List Axle → ℕ → Ratio → Type 0) → (List Axle → ℕ → Ratio) → Type 0
GivesThePeak IsPeak peak_of = (axles : List Axle) (span : ℕ) → IsTrain axles → IsSpanLength span → IsPeak axles span (peak_of axles span) × IsSmall (peak_of axles span)

-- and no other fraction in lowest terms is this peak
abbrev pub GivesTheOnlyPeak : (List Axle → ℕ → Ratio → Type 0) → (List Axle → ℕ → Ratio) → Type 0
GivesTheOnlyPeak IsPeak peak_of = (axles : List Axle) (span : ℕ) (f : Ratio) → IsTrain axles → IsSpanLength span → IsLowest f → IsPeak axles span f → f ≡ peak_of axles span

-- from x to y is towards z, and not past it
abbrev pub IsTowards : ℤ → ℤ → ℤ → Type 0
IsTowards x y z = ((x ≤ℤ y) × (y ≤ℤ z)) ⊎ ((z ≤ℤ y) × (y ≤ℤ x))

-- a load that moves towards the section, and not past it, never lowers the moment there, whatever else stands on the span; it may come from off the span
abbrev pub NearerIsNoLess : Type 0
NearerIsNoLess = (n section weight : ℕ) (x y : ℤ) (before after : List Load) → section ≤ n → IsTowards x y (pos section) →
    moment_sum n section (before ++ record { at = x; weight = weight } ∷ after) ≤ moment_sum n section (before ++ record { at = y; weight = weight } ∷ after)
