-- A peak is one by every fraction of its value.
use Rattle.std.proofs.Common.{◌≡◌, ℕ, ◌*◌, ◌<◌, ◌≤◌, List, arith, ap}
use Rattle.std.proofs.Math.Nat.{eq_of_mul-eq-mul_right}
use Rattle.influence_line.specs.Placed.{Load}
use Rattle.influence_line.specs.Peaks.{IsPeakMoment, IsPeakShear}
use Rattle.influence_line.proofs.Cross.{cross_trans}

-- a moment by another fraction of the same value
pub cancel_den : (M n d num den Q : ℕ) → num * d ≡ n * den → 0 < d → M * d ≡ n * Q → M * den ≡ num * Q
cancel_den M n d num den Q e p h = eq_of_mul-eq-mul_right d p (M * den) (num * Q) (omega (arith, ap (λ t. t * den) h, ap (λ t. t * Q) e))

pub moment_by : (Allowed : ℕ → List Load → Type 0) (span n d num den : ℕ) → 1 ≤ den → num * d ≡ n * den → IsPeakMoment Allowed span n d → IsPeakMoment Allowed span num den
moment_by Allowed span n d num den some e h =
    let r = h.reached in
    record {
      some = some;
      reached = (r.0, r.1, r.2, r.3, r.4, r.5, cancel_den _ n d num den _ e h.some r.6);
      greatest = λ q section loads a b c. cross_trans _ _ n d num den (h.greatest q section loads a b c) (omega (arith, e)) h.some;
    }

pub shear_by : (Allowed : ℕ → List Load → Type 0) (span n d num den : ℕ) → 1 ≤ den → num * d ≡ n * den → IsPeakShear Allowed span n d → IsPeakShear Allowed span num den
shear_by Allowed span n d num den some e h =
    let r = h.reached in
    record {
      some = some;
      reached = (r.0, r.1, r.2, r.3, r.4, cancel_den _ n d num den _ e h.some r.5);
      greatest = λ q end loads a b. cross_trans _ _ n d num den (h.greatest q end loads a b) (omega (arith, e)) h.some;
    }
