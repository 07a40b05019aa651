-- The best axle's reaction is the peak.
use Rattle.std.proofs.Common.{◌≡◌, ℕ, ◌*◌, ◌<◌, ◌≤◌, List, length, arith, refl, ap, sym, ◌∙◌, ℤ}
use Rattle.std.proofs.Math.Nat.{mul-le-mul_left, mul-le-mul_right, eq_of_mul-eq-mul_right}
use Rattle.axle_train.specs.declared.axle.Axle.{Axle}
use Rattle.axle_train.specs.Bounds.{IsTrain}
use Rattle.axle_train.specs.Trains.{axle_at}
use Rattle.influence_line.specs.Placed.{placed}
use Rattle.influence_line.specs.Reactions.{reaction_sum}
use Rattle.influence_line.specs.Peaks.{IsPeakShear, IsTrainPlaced}
use Rattle.influence_line.specs.declared.placing.End.{End}
use Rattle.influence_line.specs.declared.placing.End.TheVariants.{Left, Right}
use Rattle.shear_peak.specs.declared.Candidate.{Candidate}
use Rattle.shear_peak.specs.Ends.{lead_to, reaction_to, IsFirstBest, IsFirstBestAt, IsFirstToReach}
use Rattle.shear_peak.proofs.Supports.{below_some_axle}

scaled : (r q rk value num den span : ℕ) → r ≤ q * rk → rk ≤ value → num * span ≡ value * den → 0 < span → r * den ≤ num * (q * span)
scaled r q rk value num den span h k e p = omega (arith, mul-le-mul_right den h, mul-le-mul_left (q * den) k, ap (λ t. q * t) e)

-- a value that no axle at a support exceeds, and that one reaches, is the peak
pub is_peak : (span : ℕ) (axles : List Axle) (best : Candidate) (num den : ℕ) → 0 < span → IsTrain axles → IsFirstBest axles span best → 1 ≤ den → num * span ≡ best.value * den → IsPeakShear (IsTrainPlaced axles) span num den
is_peak span axles best num den some train is_best den_some e =
    let lead = lead_to span best.end (axle_at axles best.axle).place in
    record {
      some = den_some;
      reached = (1, best.end, placed 1 lead axles, omega arith, (lead, refl), omega (arith, ap (λ t. t * den) is_best.here.reached, e));
      greatest = λ q at others h is_placed.
          let b = below_some_axle q span 0 at is_placed.0 axles train.rising (omega (arith, train.many)) in
          rw is_placed.1 (scaled (reaction_sum (q * span) at (placed q is_placed.0 axles)) q (reaction_to axles span at b.0) best.value num den span b.2 (is_best.greatest at b.0 b.1) e some);
    }

both_ends : (axles : List Axle) (span most : ℕ) → ((i : ℕ) → i < length axles → reaction_to axles span Left i ≤ most) → ((i : ℕ) → i < length axles → reaction_to axles span Right i ≤ most) → (e : End) (i : ℕ) → i < length axles → reaction_to axles span e i ≤ most
both_ends axles span most left right Left = left
both_ends axles span most left right Right = right

-- the best of the right end, where it is above that of the left one
pub right_best : (axles : List Axle) (span : ℕ) (left right : Candidate) → left.end ≡ Left → right.end ≡ Right → IsFirstBestAt axles span left → IsFirstBestAt axles span right → left.value < right.value → IsFirstBest axles span right
right_best axles span left right at_left at_right l r more = record {
  here = r;
  greatest = both_ends axles span right.value (λ i h. omega (arith, more, rw at_left at (l.greatest i h))) (rw at_right at r.greatest);
  left_first = λ _ i h. omega (arith, more, rw at_left at (l.greatest i h));
}

below_misses : (r value num den span : ℕ) → r < value → num * span ≡ value * den → 1 ≤ den → r * den ≡ num * span → ⊥
below_misses r value num den span h e p k =
    let same : r ≡ value = eq_of_mul-eq-mul_right den p r value (k ∙ e) in omega arith

pub is_first : (span : ℕ) (axles : List Axle) (best : Candidate) (lead : ℤ) (num den : ℕ) → IsFirstBest axles span best → lead ≡ lead_to span best.end (axle_at axles best.axle).place → num * span ≡ best.value * den → 1 ≤ den → IsFirstToReach axles span best.end lead num den
is_first span axles best lead num den is_best l e p = record {
  k = best.axle;
  within = is_best.here.within;
  lead_is = l;
  reaches = ap (λ t. t * den) (sym is_best.here.reached) ∙ sym e;
  earlier = λ i h. below_misses (reaction_to axles span best.end i) best.value num den span (is_best.here.first i h) e p;
  left_first = λ r i h. below_misses (reaction_to axles span Left i) best.value num den span (is_best.left_first r i h) e p;
}
