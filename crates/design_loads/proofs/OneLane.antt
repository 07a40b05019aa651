-- The effects of the lane load by each fraction of their value; they are its peaks, and no others are.
use Rattle.std.proofs.Common.{◌≡◌, ℕ, ◌+◌, ◌*◌, ◌<◌, ◌≤◌, arith}
use Rattle.std.proofs.Math.Nat.{le_antisymm, mul-le-mul, mul-pos}
use Rattle.influence_line.specs.Fractions.{Ratio, IsLowest, IsRatio, IsSmall}
use Rattle.influence_line.proofs.Lowest.{lowest_least, lowest_unique}
use Rattle.influence_line.proofs.LowestTerms.{lowest_is, lowest_same}
use Rattle.influence_line.specs.Greatest.{lowest_of}
use Rattle.influence_line.proofs.Cross.{cross_trans}
use Rattle.design_loads.specs.LanePeaks.{IsPeakLaneMoment, IsPeakLaneShear, AreLaneEffects}
use Rattle.design_loads.specs.SpanEffects.{lane_of}
use Rattle.design_loads.specs.Laws.{LaneIsOne, LaneIsThePeaks}
use Rattle.design_loads.proofs.WholeSpan.{lane_moment_is_peak, lane_shear_is_peak}

-- m over whole is at most num over den, or is it, where it is so of another fraction n over d of this value
bounded_as : (m whole n d num den : ℕ) → num * d ≡ n * den → 0 < d → m * d ≤ n * whole → m * den ≤ num * whole
bounded_as m whole n d num den e some h = cross_trans m whole n d num den h (omega (arith, e)) some

reached_as : (m whole n d num den : ℕ) → num * d ≡ n * den → 0 < d → m * d ≡ n * whole → m * den ≡ num * whole
reached_as m whole n d num den e some h =
    le_antisymm (bounded_as m whole n d num den e some (omega (arith, h)))
    (cross_trans num den n d m whole (omega (arith, e)) (omega (arith, h)) some)

lane_moment_as : (span n d num den : ℕ) → 0 < d → 1 ≤ den → num * d ≡ n * den → IsPeakLaneMoment span n d
    → IsPeakLaneMoment span num den
lane_moment_as span n d num den some den_some e is =
    let r = is.reached in
    record {
      some = den_some;
      reached = (r.0, r.1, r.2, r.3, reached_as _ _ n d num den e some r.4);
      greatest = λ section lane within placed. bounded_as _ _ n d num den e some (is.greatest section lane within placed);
    }

lane_shear_as : (span n d num den : ℕ) → 0 < d → 1 ≤ den → num * d ≡ n * den → IsPeakLaneShear span n d
    → IsPeakLaneShear span num den
lane_shear_as span n d num den some den_some e is =
    let r = is.reached in
    record {
      some = den_some;
      reached = (r.0, r.1, r.2, reached_as _ _ n d num den e some r.3);
      greatest = λ end lane placed. bounded_as _ _ n d num den e some (is.greatest end lane placed);
    }

square_some : (q span : ℕ) → 1 ≤ q → 1 ≤ span → 0 < 3 * q * q * span
square_some q span h k = let three : 0 < 3 = omega arith in mul-pos (mul-pos (mul-pos three h) h) k

cube_some : (q span : ℕ) → 1 ≤ q → 1 ≤ span → 0 < 3 * q * q * q * span
cube_some q span h k = let three : 0 < 3 = omega arith in mul-pos (mul-pos (mul-pos (mul-pos three h) h) h) k

moment_at_most : (span n d num den : ℕ) → 1 ≤ span → IsPeakLaneMoment span n d → IsPeakLaneMoment span num den → n * den ≤ num * d
moment_at_most span n d num den some a b =
    let r = a.reached in
    cross_trans n d _ _ num den (omega (arith, r.4)) (b.greatest r.0 r.1 r.2 r.3) (cube_some r.1.q span r.3.scale some)

-- two peak moments of the lane load have one value
pub lane_moment_same : (span n d num den : ℕ) → 1 ≤ span → IsPeakLaneMoment span n d → IsPeakLaneMoment span num den
    → n * den ≡ num * d
lane_moment_same span n d num den some a b =
    le_antisymm (moment_at_most span n d num den some a b) (moment_at_most span num den n d some b a)

shear_at_most : (span n d num den : ℕ) → 1 ≤ span → IsPeakLaneShear span n d → IsPeakLaneShear span num den → n * den ≤ num * d
shear_at_most span n d num den some a b =
    let r = a.reached in
    cross_trans n d _ _ num den (omega (arith, r.3)) (b.greatest r.0 r.1 r.2) (square_some r.1.q span r.2.scale some)

pub lane_shear_same : (span n d num den : ℕ) → 1 ≤ span → IsPeakLaneShear span n d → IsPeakLaneShear span num den
    → n * den ≡ num * d
lane_shear_same span n d num den some a b =
    le_antisymm (shear_at_most span n d num den some a b) (shear_at_most span num den n d some b a)

small_moment : (span : ℕ) (f : Ratio) → span ≤ 6000 → IsLowest f → IsRatio f (20 * span * span + 13500 * span) 3 → IsSmall f
small_moment span f long lowest value =
    let least = lowest_least f (20 * span * span + 13500 * span) 3 lowest (omega arith) value in
    let square : span * span ≤ 6000 * 6000 = mul-le-mul long long in
    record { lowest = lowest; num = omega (arith, least.0, square); den = omega (arith, least.1) }

small_shear : (span : ℕ) (f : Ratio) → span ≤ 6000 → IsLowest f → IsRatio f (80 * span + 78000) 3 → IsSmall f
small_shear span f long lowest value =
    let least = lowest_least f (80 * span + 78000) 3 lowest (omega arith) value in
    record { lowest = lowest; num = omega (arith, least.0); den = omega (arith, least.1) }

-- what has both of these values, in lowest terms, is the effects of the lane load
pub lane_effects : (span : ℕ) (moment shear : Ratio) → 1 ≤ span → span ≤ 6000
    → IsLowest moment → IsRatio moment (20 * span * span + 13500 * span) 3 → IsLowest shear → IsRatio shear (80 * span + 78000) 3
    → AreLaneEffects span (record { moment = moment; shear = shear })
lane_effects span moment shear some long low_moment moment_is low_shear shear_is =
    let moment_peak = lane_moment_is_peak span some in
    let shear_peak = lane_shear_is_peak span some in
    record {
      moment = lane_moment_as span _ 3 moment.num moment.den (omega arith) low_moment.some moment_is moment_peak;
      shear = lane_shear_as span _ 3 shear.num shear.den (omega arith) low_shear.some shear_is shear_peak;
      small = record {
        moment = small_moment span moment long low_moment moment_is;
        shear = small_shear span shear long low_shear shear_is;
      };
    }

pub lane_is_the_peaks : LaneIsThePeaks
unfolding lane_of
lane_is_the_peaks span some long =
    let moment : Ratio = record { num = 20 * span * span + 13500 * span; den = 3 } in
    let shear : Ratio = record { num = 80 * span + 78000; den = 3 } in
    lane_effects span (lowest_of moment) (lowest_of shear) some long
    (lowest_is moment (omega arith)) (lowest_same moment (omega arith))
    (lowest_is shear (omega arith)) (lowest_same shear (omega arith))

pub lane_is_one : LaneIsOne
lane_is_one span e some long peaks =
    let f = lane_of span in
    let are = lane_is_the_peaks span some long in
    let moment = lane_moment_same span e.moment.num e.moment.den f.moment.num f.moment.den some peaks.moment are.moment in
    let shear = lane_shear_same span e.shear.num e.shear.den f.shear.num f.shear.den some peaks.shear are.shear in
    λ i. record {
      moment = lowest_unique e.moment f.moment peaks.small.moment.lowest are.small.moment.lowest moment i;
      shear = lowest_unique e.shear f.shear peaks.small.shear.lowest are.small.shear.lowest shear i;
    }
