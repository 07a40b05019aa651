-- The greater of two effects, taken twice, gives the greatest of three and the first that reaches it.
use Rattle.std.proofs.Common.{◌≡◌, ℕ, ◌*◌, ◌<◌, ◌≤◌, arith, refl, ap, sym, subst, ◌∙◌, inl, inr}
use Rattle.std.proofs.lemmas.Bool.{cases_lt}
use Rattle.std.proofs.lemmas.Bool.Decides.{nat_tests}
use Rattle.axle_train.specs.Bounds.{IsTrain}
use Rattle.influence_line.specs.Fractions.{Ratio, IsSmall}
use Rattle.influence_line.proofs.Cross.{cross_trans}
use Rattle.hs20_truck.specs.Effects.{effects_of, design_of}
use Rattle.hs20_truck.proofs.OneEffects.{effects_are_the_peaks, design_is_the_peaks}
use Rattle.span_rating.specs.declared.loading.Effects.{Effects}
use Rattle.design_loads.specs.Military.{military_axles}
use Rattle.design_loads.specs.Greatest.{IsGreatest, IsPeakMomentBy, IsPeakShearBy, HasPeakUpTo, HasPeakBelow, LoadComesBefore}
use Rattle.design_loads.specs.SpanEffects.{greater_of, governing_of, lane_of, greatest_of}
use Rattle.design_loads.specs.Laws.{GreatestIsOfThePeaks, GreatestIsOne}
use Rattle.design_loads.specs.declared.governing.By.{By}
use Rattle.design_loads.specs.declared.governing.By.TheVariants.{Truck, Lane, Military}
use Rattle.design_loads.specs.declared.governing.EffectBy.{EffectBy}
use Rattle.design_loads.proofs.OneLane.{lane_is_the_peaks}
use Rattle.design_loads.proofs.OneGreatest.{greatest_unique, put_together}

-- a fraction is no more than another, or less
abbrev IsNoMore : Ratio → Ratio → Type 0
IsNoMore f g = f.num * g.den ≤ g.num * f.den

abbrev IsBelow : Ratio → Ratio → Type 0
IsBelow f g = f.num * g.den < g.num * f.den

below_from : (a b c : Ratio) → 1 ≤ a.den → IsNoMore a b → IsBelow b c → IsBelow a c
below_from a b c some up below =
    elim (cases_lt (a.num * c.den) (c.num * a.den)) [
      | inl less ↦ less
      | inr no_less ↦ absurd (omega (arith, below, cross_trans c.num c.den a.num a.den b.num b.den no_less up some))
    ]

the_first : (one other : EffectBy) → IsNoMore other.effect one.effect → greater_of one other ≡ one
the_first one other h = grind (arith, nat_tests)

the_other : (one other : EffectBy) → IsBelow one.effect other.effect → greater_of one other ≡ other
the_other one other h = grind (arith, nat_tests)

-- the greater of two small effects is small
pub greater_small : (one other : EffectBy) → IsSmall one.effect → IsSmall other.effect → IsSmall (greater_of one other).effect
greater_small one other a b =
    elim (cases_lt (one.effect.num * other.effect.den) (other.effect.num * one.effect.den)) [
      | inl less ↦ subst (λ (g : EffectBy). IsSmall g.effect) (sym (the_other one other less)) b
      | inr no_less ↦ subst (λ (g : EffectBy). IsSmall g.effect) (sym (the_first one other no_less)) a
    ]

-- the peaks of the three loads
pub record ArePeaks (IsPeakBy : By → Ratio → Type 0) (t l m : Ratio) : Type 0 where
  pub truck : IsPeakBy Truck t
  pub lane : IsPeakBy Lane l
  pub military : IsPeakBy Military m

most_of : (IsPeakBy : By → Ratio → Type 0) (t l m effect : Ratio) → ArePeaks IsPeakBy t l m
    → IsNoMore t effect → IsNoMore l effect → IsNoMore m effect → (other : By) → HasPeakUpTo (IsPeakBy other) effect
most_of IsPeakBy t l m effect are h k n Truck = (t, are.truck, h)
most_of IsPeakBy t l m effect are h k n Lane = (l, are.lane, k)
most_of IsPeakBy t l m effect are h k n Military = (m, are.military, n)

before_lane : (IsPeakBy : By → Ratio → Type 0) (t effect : Ratio) → IsPeakBy Truck t → IsBelow t effect
    → (other : By) → LoadComesBefore other Lane → HasPeakBelow (IsPeakBy other) effect
before_lane IsPeakBy t effect is below Truck before = (t, is, below)
before_lane IsPeakBy t effect is below Lane before = absurd (omega (arith, before))
before_lane IsPeakBy t effect is below Military before = absurd (omega (arith, before))

before_military : (IsPeakBy : By → Ratio → Type 0) (t l effect : Ratio) → IsPeakBy Truck t → IsPeakBy Lane l
    → IsBelow t effect → IsBelow l effect → (other : By) → LoadComesBefore other Military → HasPeakBelow (IsPeakBy other) effect
before_military IsPeakBy t l effect is lane_is below lane_below Truck before = (t, is, below)
before_military IsPeakBy t l effect is lane_is below lane_below Lane before = (l, lane_is, lane_below)
before_military IsPeakBy t l effect is lane_is below lane_below Military before = absurd (omega (arith, before))

truck_governs : (IsPeakBy : By → Ratio → Type 0) (t l m : Ratio) → ArePeaks IsPeakBy t l m
    → IsNoMore l t → IsNoMore m t → IsGreatest IsPeakBy t Truck
truck_governs IsPeakBy t l m are h k = record {
  reached = are.truck;
  most = most_of IsPeakBy t l m t are (omega arith) h k;
  first = λ other before. absurd (omega (arith, before));
}

lane_governs : (IsPeakBy : By → Ratio → Type 0) (t l m : Ratio) → ArePeaks IsPeakBy t l m
    → IsBelow t l → IsNoMore m l → IsGreatest IsPeakBy l Lane
lane_governs IsPeakBy t l m are h k = record {
  reached = are.lane;
  most = most_of IsPeakBy t l m l are (omega (arith, h)) (omega arith) k;
  first = before_lane IsPeakBy t l are.truck h;
}

military_governs : (IsPeakBy : By → Ratio → Type 0) (t l m : Ratio) → ArePeaks IsPeakBy t l m
    → IsBelow t m → IsBelow l m → IsGreatest IsPeakBy m Military
military_governs IsPeakBy t l m are h k = record {
  reached = are.military;
  most = most_of IsPeakBy t l m m are (omega (arith, h)) (omega (arith, k)) (omega arith);
  first = before_military IsPeakBy t l m are.truck are.lane h k;
}

-- what is chosen is the greatest
chosen : (IsPeakBy : By → Ratio → Type 0) (t l m : Ratio) → 1 ≤ t.den → 1 ≤ l.den → ArePeaks IsPeakBy t l m
    → IsGreatest IsPeakBy (governing_of t l m).effect (governing_of t l m).by
chosen IsPeakBy t l m t_some l_some are =
    let truck : EffectBy = record { effect = t; by = Truck } in
    let lane : EffectBy = record { effect = l; by = Lane } in
    let military : EffectBy = record { effect = m; by = Military } in
    let IsOne : EffectBy → Type 0 = λ g. IsGreatest IsPeakBy g.effect g.by in
    let after : EffectBy → EffectBy = λ g. greater_of g military in
    elim (cases_lt (t.num * l.den) (l.num * t.den)) [
      | inl over ↦ let second = ap after (the_other truck lane over) in elim (cases_lt (l.num * m.den) (m.num * l.den)) [
        | inl above ↦
            let below = below_from t l m t_some (omega (arith, over)) above in
            subst IsOne (sym (second ∙ the_other lane military above)) (military_governs IsPeakBy t l m are below above)
        | inr up ↦ subst IsOne (sym (second ∙ the_first lane military up)) (lane_governs IsPeakBy t l m are over up)
      ]
      | inr under ↦ let first = ap after (the_first truck lane under) in elim (cases_lt (t.num * m.den) (m.num * t.den)) [
        | inl above ↦
            let below = below_from l t m l_some under above in
            subst IsOne (sym (first ∙ the_other truck military above)) (military_governs IsPeakBy t l m are above below)
        | inr up ↦ subst IsOne (sym (first ∙ the_first truck military up)) (truck_governs IsPeakBy t l m are under up)
      ]
    ]

pub chosen_small : (t l m : Ratio) → IsSmall t → IsSmall l → IsSmall m → IsSmall (governing_of t l m).effect
chosen_small t l m a b c =
    let truck : EffectBy = record { effect = t; by = Truck } in
    let lane : EffectBy = record { effect = l; by = Lane } in
    greater_small (greater_of truck lane) (record { effect = m; by = Military }) (greater_small truck lane a b) c

military_is_train : IsTrain military_axles
military_is_train = record {
  many = omega arith;
  few = omega arith;
  first = refl;
  rising = (omega arith, (omega arith, tt));
  each = (omega arith, omega arith, omega arith, (omega arith, omega arith, omega arith, tt));
  gross = omega arith;
}

pub greatest_is_of_the_peaks : GreatestIsOfThePeaks
unfolding greatest_of
greatest_is_of_the_peaks span some long =
    let truck = design_is_the_peaks span some long in
    let lane = lane_is_the_peaks span some long in
    let military = effects_are_the_peaks military_axles span military_is_train some long in
    let d = design_of span in
    let l = lane_of span in
    let m = effects_of military_axles span in
    record {
      moment = chosen (IsPeakMomentBy span) d.moment l.moment m.moment truck.small.moment.lowest.some lane.small.moment.lowest.some
          (record { truck = truck.moment; lane = lane.moment; military = military.moment });
      shear = chosen (IsPeakShearBy span) d.shear l.shear m.shear truck.small.shear.lowest.some lane.small.shear.lowest.some
          (record { truck = truck.shear; lane = lane.shear; military = military.shear });
      small = record {
        moment = chosen_small d.moment l.moment m.moment truck.small.moment lane.small.moment military.small.moment;
        shear = chosen_small d.shear l.shear m.shear truck.small.shear lane.small.shear military.small.shear;
      };
    }

pub greatest_is_one : GreatestIsOne
greatest_is_one span greatest some long are =
    greatest_unique span greatest (greatest_of span) some are (greatest_is_of_the_peaks span some long)

-- what is put together of the two choices is the function of the span
pub put_together_is : (span : ℕ) (truck lane military : Effects) (moment shear : EffectBy)
    → truck ≡ design_of span → lane ≡ lane_of span → military ≡ effects_of military_axles span
    → moment ≡ governing_of truck.moment lane.moment military.moment → shear ≡ governing_of truck.shear lane.shear military.shear
    → put_together moment.effect moment.by shear.effect shear.by ≡ greatest_of span
unfolding greatest_of
put_together_is span truck lane military moment shear t l m by_moment by_shear = rw (by_moment, by_shear, t, l, m) refl
