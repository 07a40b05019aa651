-- The bounds of a peak.
use Rattle.std.proofs.Common.{◌≡◌, ℕ, ◌+◌, ◌-◌, ◌*◌, ◌<◌, ◌≤◌, ◌^◌, List, arith, ℤ, pos, ◌+ℤ◌}
use Rattle.std.proofs.Math.Nat.{mul-le-mul}
use Rattle.std.proofs.lemmas.Int.{ints}
use Rattle.axle_train.specs.declared.axle.Axle.{Axle}
use Rattle.axle_train.specs.Bounds.{IsTrain}
use Rattle.axle_train.specs.Trains.{axle_at}
use Rattle.influence_line.specs.declared.placing.Place.{Place}
use Rattle.influence_line.proofs.Products.{product_most}
use Rattle.moment_peak.specs.Runs.{run_weight, run_moment, vertex_value}
use Rattle.moment_peak.specs.Vertices.{IsVertex}
use Rattle.moment_peak.proofs.Runs.{weight_of}
use Rattle.moment_peak.proofs.RunSums.{sum_part}
use Rattle.moment_peak.proofs.BestBounds.{inside_left, inside_right, run_loaded}

-- a value is at most the square of the weight times the span
pub value_most : (span R D E : ℕ) → 0 < vertex_value span R D E → vertex_value span R D E ≤ R * span * (R * span)
unfolding vertex_value
value_most span R D E h =
    let left = inside_left span R D E h in
    let right = inside_right span R D E h in
    let v = R * span + D - E in
    let u = R * span + E - D in
    let both : v + u ≡ 2 * (R * span) = omega arith in
    let most = rw both at (product_most v u) in
    omega (arith, most)

pub run_light : (axles : List Axle) (first last : ℕ) → IsTrain axles → run_weight axles first last ≤ 2000000
run_light axles first last train = omega (arith, sum_part weight_of axles first (last + 1 - first), train.gross)

-- the numbers of a vertex
pub record VertexBounds (span place : ℕ) (at : Place) : Type 0 where
  pub scale : 1 ≤ at.q
  pub fine : at.q ≤ 4000000
  pub short : at.section < 2 ^ 35
  pub under : at.lead +ℤ pos (at.q * place) ≡ pos at.section

pub under_from : (R span S p q section : ℕ) (lead : ℤ) → q ≡ 2 * R → section + S ≡ R * span + R * p → lead +ℤ pos (S + R * p) ≡ pos (R * span) → lead +ℤ pos (q * p) ≡ pos section
under_from R span S p q section lead scale at h = rw scale (omega (arith, ints, h))

pub vertex_bounds : (axles : List Axle) (span k first last : ℕ) (at : Place) → span ≤ 6000 → IsTrain axles → IsVertex axles span k first last at → VertexBounds span (axle_at axles k).place at
vertex_bounds axles span k first last at long train v =
    let light = run_light axles first last train in
    let loaded = run_loaded axles k first last train.each v.is_run in
    let fine : at.q ≤ 4000000 = omega (arith, v.scale) in
    let most = mul-le-mul fine long in
    record {
      scale = omega (arith, v.scale);
      fine = fine;
      short = omega (arith, v.on, most);
      under = under_from (run_weight axles first last) span (run_moment axles first last) (axle_at axles k).place at.q at.section at.lead v.scale v.section v.lead;
    }
