-- The greatest of the peaks of the three design loads, and the first load that reaches it, are one.
use Rattle.std.proofs.Common.{◌≡◌, ℕ, ◌*◌, ◌≤◌, arith, refl}
use Rattle.std.proofs.Math.Nat.{le_antisymm}
use Rattle.influence_line.specs.Fractions.{Ratio}
use Rattle.influence_line.specs.Peaks.{IsTrainPlaced, IsHs20Placed}
use Rattle.influence_line.proofs.Lowest.{lowest_unique}
use Rattle.influence_line.proofs.Unique.{HasOneValue, moment_has_one, shear_has_one}
use Rattle.influence_line.proofs.Cross.{cross_trans}
use Rattle.design_loads.specs.LanePeaks.{IsPeakLaneMoment, IsPeakLaneShear}
use Rattle.design_loads.specs.Military.{military_axles}
use Rattle.design_loads.specs.Greatest.{LoadComesBefore, IsPeakMomentBy, IsPeakShearBy, IsGreatest, AreGreatest}
use Rattle.design_loads.specs.declared.governing.By.{By}
use Rattle.design_loads.specs.declared.governing.By.TheVariants.{Truck, Lane, Military}
use Rattle.design_loads.specs.declared.governing.GreatestEffects.{GreatestEffects}
use Rattle.design_loads.proofs.OneLane.{lane_moment_same, lane_shear_same}

lane_moment_has_one : (span : ℕ) → 1 ≤ span → HasOneValue (λ f. IsPeakLaneMoment span f.num f.den)
lane_moment_has_one span some = record {
  some = λ f is. is.some;
  same = λ f g a b. lane_moment_same span f.num f.den g.num g.den some a b;
}

lane_shear_has_one : (span : ℕ) → 1 ≤ span → HasOneValue (λ f. IsPeakLaneShear span f.num f.den)
lane_shear_has_one span some = record {
  some = λ f is. is.some;
  same = λ f g a b. lane_shear_same span f.num f.den g.num g.den some a b;
}

-- each design load's peak has one value
abbrev pub HaveOneValue : (By → Ratio → Type 0) → Type 0
HaveOneValue IsPeakBy = (by : By) → HasOneValue (IsPeakBy by)

pub moments_have_one : (span : ℕ) → 1 ≤ span → HaveOneValue (IsPeakMomentBy span)
moments_have_one span some Truck = moment_has_one IsHs20Placed span some
moments_have_one span some Lane = lane_moment_has_one span some
moments_have_one span some Military = moment_has_one (IsTrainPlaced military_axles) span some

pub shears_have_one : (span : ℕ) → 1 ≤ span → HaveOneValue (IsPeakShearBy span)
shears_have_one span some Truck = shear_has_one IsHs20Placed span some
shears_have_one span some Lane = lane_shear_has_one span some
shears_have_one span some Military = shear_has_one (IsTrainPlaced military_axles) span some

at_most : (IsPeakBy : By → Ratio → Type 0) (f g : Ratio) (a b : By) → HaveOneValue IsPeakBy
    → IsGreatest IsPeakBy f a → IsGreatest IsPeakBy g b → f.num * g.den ≤ g.num * f.den
at_most IsPeakBy f g a b one is other =
    let peak = other.most a in
    let same = (one a).same f peak.0 is.reached peak.1 in
    let some = (one a).some peak.0 peak.1 in
    cross_trans f.num f.den peak.0.num peak.0.den g.num g.den (omega (arith, same)) peak.2 some

-- two greatest effects have one value
pub greatest_same : (IsPeakBy : By → Ratio → Type 0) (f g : Ratio) (a b : By) → HaveOneValue IsPeakBy
    → IsGreatest IsPeakBy f a → IsGreatest IsPeakBy g b → f.num * g.den ≡ g.num * f.den
greatest_same IsPeakBy f g a b one is other =
    le_antisymm (at_most IsPeakBy f g a b one is other) (at_most IsPeakBy g f b a one other is)

-- none of the loads before the first reaches it
not_before : (IsPeakBy : By → Ratio → Type 0) (f g : Ratio) (a b : By) → HaveOneValue IsPeakBy
    → IsGreatest IsPeakBy f a → IsGreatest IsPeakBy g b → LoadComesBefore a b → ⊥
not_before IsPeakBy f g a b one is other before =
    let peak = other.first a before in
    let same = (one a).same f peak.0 is.reached peak.1 in
    let up = at_most IsPeakBy g f b a one other is in
    let some = (one a).some f is.reached in
    let no_less : g.num * peak.0.den ≤ peak.0.num * g.den =
    cross_trans g.num g.den f.num f.den peak.0.num peak.0.den up (omega (arith, same)) some in
    omega (arith, no_less, peak.2)

same_place : (a b : By) → (LoadComesBefore a b → ⊥) → (LoadComesBefore b a → ⊥) → a ≡ b
same_place Truck Truck h k = refl
same_place Truck Lane h k = absurd (h (omega arith))
same_place Truck Military h k = absurd (h (omega arith))
same_place Lane Truck h k = absurd (k (omega arith))
same_place Lane Lane h k = refl
same_place Lane Military h k = absurd (h (omega arith))
same_place Military Truck h k = absurd (k (omega arith))
same_place Military Lane h k = absurd (k (omega arith))
same_place Military Military h k = refl

-- two greatest effects are named after one load
same_load : (IsPeakBy : By → Ratio → Type 0) (f g : Ratio) (a b : By) → HaveOneValue IsPeakBy
    → IsGreatest IsPeakBy f a → IsGreatest IsPeakBy g b → a ≡ b
same_load IsPeakBy f g a b one is other =
    same_place a b (not_before IsPeakBy f g a b one is other) (not_before IsPeakBy g f b a one other is)

abbrev pub put_together : Ratio → By → Ratio → By → GreatestEffects
put_together m mb s sb = record { moment = m; moment_by = mb; shear = s; shear_by = sb }

-- on a span there is one
pub greatest_unique : (span : ℕ) (e f : GreatestEffects) → 1 ≤ span → AreGreatest span e → AreGreatest span f → e ≡ f
greatest_unique span e f some a b =
    let moments = moments_have_one span some in
    let shears = shears_have_one span some in
    let moment = greatest_same (IsPeakMomentBy span) e.moment f.moment e.moment_by f.moment_by moments a.moment b.moment in
    let shear = greatest_same (IsPeakShearBy span) e.shear f.shear e.shear_by f.shear_by shears a.shear b.shear in
    λ i. record {
      moment = lowest_unique e.moment f.moment a.small.moment.lowest b.small.moment.lowest moment i;
      moment_by = same_load (IsPeakMomentBy span) e.moment f.moment e.moment_by f.moment_by moments a.moment b.moment i;
      shear = lowest_unique e.shear f.shear a.small.shear.lowest b.small.shear.lowest shear i;
      shear_by = same_load (IsPeakShearBy span) e.shear f.shear e.shear_by f.shear_by shears a.shear b.shear i;
    }
