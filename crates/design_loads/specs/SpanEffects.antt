-- The effects of the lane load and the greatest effects as functions of the span.
use Rattle.std.specs.Prelude.{ℕ, ◌+◌, ◌*◌, if◌then◌else◌}
use Rattle.influence_line.specs.Fractions.{Ratio}
use Rattle.influence_line.specs.Greatest.{lowest_of, ratio_le}
use Rattle.span_rating.specs.declared.loading.Effects.{Effects}
use Rattle.hs20_truck.specs.Effects.{effects_of, design_of}
use Rattle.design_loads.specs.Military.{military_axles}
use Rattle.design_loads.specs.declared.governing.By.TheVariants.{Truck, Lane, Military}
use Rattle.design_loads.specs.declared.governing.EffectBy.{EffectBy}
use Rattle.design_loads.specs.declared.governing.GreatestEffects.{GreatestEffects}

-- the effects of the lane load on a span of so many inches: the moment with the whole span loaded and the concentrated load at
-- midspan, and the shear with the whole span loaded and the concentrated load at the support
unfoldable pub lane_of : ℕ → Effects
lane_of span = record {
  moment = lowest_of (record { num = 20 * span * span + 13500 * span; den = 3 });
  shear = lowest_of (record { num = 80 * span + 78000; den = 3 });
}

-- of two effects the greater, and of equal ones the first
abbrev pub greater_of : EffectBy → EffectBy → EffectBy
greater_of one other = if ratio_le other.effect one.effect then one else other

-- of the effects of the three design loads the greatest, and of equal ones the first
abbrev pub governing_of : Ratio → Ratio → Ratio → EffectBy
governing_of truck lane military =
    let first = greater_of (record { effect = truck; by = Truck }) (record { effect = lane; by = Lane }) in
    greater_of first (record { effect = military; by = Military })

-- the greatest effects on a span of so many inches, and the load that each is of
unfoldable pub greatest_of : ℕ → GreatestEffects
greatest_of span =
    let truck = design_of span in
    let lane = lane_of span in
    let military = effects_of military_axles span in
    let moment = governing_of truck.moment lane.moment military.moment in
    let shear = governing_of truck.shear lane.shear military.shear in
    record { moment = moment.effect; moment_by = moment.by; shear = shear.effect; shear_by = shear.by }
