-- A place at its coarsest scale.
use Rattle.std.proofs.Common.{◌≡◌, ℕ, zero, suc, ◌+◌, ◌*◌, ◌/◌, ◌<◌, ◌≤◌, List, arith, refl, ap, sym, ◌∙◌, ℤ, pos, ◌+ℤ◌, ◌-ℤ◌, ◌*ℤ◌}
use Rattle.std.specs.Int.{IsGcd}
use Rattle.std.proofs.Math.Nat.{div-mul_cancel, mul_comm, eq_of_mul-eq-mul_right, mul-pos, mul_assoc, le_of_mul-le-mul_left, mul-le-mul_left, mul-le-mul_right}
use Rattle.std.proofs.lemmas.Int.{ints}
use borrow.Author.Differences.{up, down}
use Rattle.axle_train.specs.declared.axle.Axle.{Axle}
use Rattle.influence_line.specs.declared.placing.Place.{Place}
use Rattle.influence_line.specs.Places.{IsLead}
use Rattle.influence_line.specs.Placed.{moment_sum, placed}
use Rattle.influence_line.proofs.Lowest.{gcd_pos, gcd_quotients}
use Rattle.moment_peak.specs.Vertices.{IsLowestPlace, HasMomentAt}
use Rattle.moment_peak.proofs.Finer.{moment_scaled}

lead_scaled : (g q section behind : ℕ) (lead small : ℤ) → lead +ℤ pos (g * q * behind) ≡ pos (g * section) → small ≡ pos section -ℤ pos (q * behind) → lead ≡ pos g *ℤ small
lead_scaled g q section behind lead small h e =
    let s : up small + q * behind ≡ section + down small = omega (arith, ints, e) in
    omega (arith, ints, h, ap (λ t. g * t) s)

pub lowest_place : (whole small : Place) (g behind : ℕ) → IsGcd whole.section whole.q g → 1 ≤ whole.q → small.q ≡ whole.q / g → small.section ≡ whole.section / g → small.lead ≡ pos small.section -ℤ pos (small.q * behind) → whole.lead +ℤ pos (whole.q * behind) ≡ pos whole.section → IsLowestPlace whole small
lowest_place whole small g behind gcd some q section lead under =
    let scale : whole.q ≡ g * small.q = rw q (sym (div-mul_cancel g gcd.1) ∙ mul_comm (whole.q / g) g) in
    let at : whole.section ≡ g * small.section = rw section (sym (div-mul_cancel g gcd.0) ∙ mul_comm (whole.section / g) g) in
    record {
      divisor = g;
      some = gcd_pos whole.section whole.q g gcd some;
      scale = scale;
      section = at;
      lead = lead_scaled g small.q small.section behind whole.lead small.lead (rw (scale, at) at under) lead;
      coprime = rw (q, section) (gcd_quotients whole.section whole.q g gcd some);
    }

cancel_square : (g M num den q span : ℕ) → 0 < g → g * g * M * den ≡ num * (g * q * (g * q) * span) → M * den ≡ num * (q * q * span)
cancel_square g M num den q span h e = eq_of_mul-eq-mul_right (g * g) (mul-pos h h) (M * den) (num * (q * q * span)) (omega (arith, e))

-- it has the same moment
pub reaches_lowest : (axles : List Axle) (span num den : ℕ) (whole small : Place) → IsLowestPlace whole small → whole.section ≤ whole.q * span → HasMomentAt axles span num den whole → HasMomentAt axles span num den small
reaches_lowest axles span num den whole small l on r =
    let g = l.divisor in
    let length : whole.q * span ≡ g * (small.q * span) = rw l.scale (mul_assoc g small.q span) in
    let within : small.section ≤ small.q * span = le_of_mul-le-mul_left {m = small.section} {n = small.q * span} {k = g} (rw (l.section, length) at on) l.some in
    let scaled = moment_scaled g small.q (small.q * span) small.section small.lead axles l.some within in
    let same : moment_sum (whole.q * span) whole.section (placed whole.q whole.lead axles) ≡ g * g * moment_sum (small.q * span) small.section (placed small.q small.lead axles) = rw (length, l.section, l.scale, l.lead) scaled in
    cancel_square g (moment_sum (small.q * span) small.section (placed small.q small.lead axles)) num den small.q span l.some (ap (λ t. t * den) (sym same) ∙ r ∙ rw l.scale refl)

-- it is on the span too
pub lowest_on : (span : ℕ) (whole small : Place) → IsLowestPlace whole small → whole.section ≤ whole.q * span → small.section ≤ small.q * span
lowest_on span whole small l on =
    let length : whole.q * span ≡ l.divisor * (small.q * span) = rw l.scale (mul_assoc l.divisor small.q span) in
    le_of_mul-le-mul_left {m = small.section} {n = small.q * span} {k = l.divisor} (rw (l.section, length) at on) l.some

scale_some : (g q : ℕ) → 1 ≤ g * q → 1 ≤ q
scale_some g zero h = absurd (omega arith)
scale_some g (suc q) h = omega arith

-- its lead is one that a train may stand at
pub lowest_lead : (span behind : ℕ) (whole small : Place) → IsLowestPlace whole small → 1 ≤ whole.q → whole.q ≤ 4000000 → behind ≤ 3000 → small.section ≤ small.q * span → small.lead +ℤ pos (small.q * behind) ≡ pos small.section → IsLead span small.q small.lead
lowest_lead span behind whole small l some fine near on under =
    let far : small.q * behind ≤ small.q * 3000 = mul-le-mul_left small.q near in
    record {
      scale = scale_some l.divisor small.q (omega (arith, l.scale, some));
      fine = omega (arith, l.scale, fine, mul-le-mul_right small.q (let one : 1 ≤ l.divisor = l.some in one));
      from = omega (arith, ints, under, far);
      to = omega (arith, ints, under, on);
    }
