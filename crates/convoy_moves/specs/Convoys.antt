-- Equal trucks that follow each other over a span, where they may stand, and the closest of these placements as one train.
use Rattle.std.specs.Prelude.{◌≡◌, ℕ, ◌+◌, ◌-◌, ◌*◌, ◌≤◌, List, [], ◌∷◌, length, map, flat_map, ℤ, pos, ◌+ℤ◌, ◌≤ℤ◌}
use Rattle.std.specs.List.{range_with_len}
use Rattle.axle_train.specs.declared.axle.Axle.{Axle}
use Rattle.axle_train.specs.Bounds.{IsTrain}
use Rattle.axle_train.specs.Trains.{axle_at}
use Rattle.influence_line.specs.Placed.{Load, placed}

-- equal trucks: the axles of one, how many trucks there are, and the least gap between two in inches, from the last axle of the
-- one to the first axle of the next
pub record EqualTrucks : Type 0 where
  pub axles : List Axle
  pub trucks : ℕ
  pub gap : ℕ

-- so many trucks with these axles, and this gap between two
abbrev pub convoy_of : List Axle → ℕ → ℕ → EqualTrucks
convoy_of axles trucks gap = record { axles = axles; trucks = trucks; gap = gap }

-- what may be asked about: 2 to 16 trucks and a gap of 1 to 3,000 inches
abbrev pub IsConvoySize : ℕ → ℕ → Type 0
IsConvoySize trucks gap = (2 ≤ trucks) × (trucks ≤ 16) × (1 ≤ gap) × (gap ≤ 3000)

-- how many inches the last axle of a truck stands behind its first
abbrev pub last_place : List Axle → ℕ
last_place axles = (axle_at axles (length axles - 1)).place

-- how many inches the first axle of a truck stands at least behind the first axle of the truck in front
abbrev pub truck_spacing : EqualTrucks → ℕ
truck_spacing c = last_place c.axles + c.gap

-- each of these leads is at least so many units behind the one before it, and the first of them behind `lead`
abbrev pub AreBehind : ℕ → ℤ → List ℤ → Type 0
AreBehind units lead [] = Unit {0}
AreBehind units lead (next ∷ rest) = ((lead +ℤ pos units) ≤ℤ next) × AreBehind units next rest

-- each lead is at least so many units behind the lead before it
abbrev pub AreApart : ℕ → List ℤ → Type 0
AreApart units [] = Unit {0}
AreApart units (lead ∷ rest) = AreBehind units lead rest

-- the loads of trucks with these axles, the first axle of each at its lead, in units of 1/q inch
abbrev pub convoy_loads : ℕ → List Axle → List ℤ → List Load
convoy_loads q axles leads = flat_map (λ lead. placed q lead axles) leads

-- the placements of a convoy: each truck stands at a lead of its own, on the span, partly off it or wholly, and at least the
-- spacing of the trucks behind the lead of the truck in front
abbrev pub IsConvoyPlaced : EqualTrucks → ℕ → List Load → Type 0
IsConvoyPlaced c q loads =
    (leads : List ℤ) × (length leads ≡ c.trucks) × AreApart (q * truck_spacing c) leads
    × (loads ≡ convoy_loads q c.axles leads)

-- these axles, so many inches further back
abbrev pub moved_back : ℕ → List Axle → List Axle
moved_back inches axles = map (λ a. record { place = inches + a.place; weight = a.weight }) axles

-- the closest convoy as one train: truck k, counted from 0, stands k times the spacing of the trucks behind the first
abbrev pub closest_axles : EqualTrucks → List Axle
closest_axles c = flat_map (λ k. moved_back (k * truck_spacing c) c.axles) (range_with_len 0 c.trucks)

-- wherever this train stands, its loads are those of a placement of the convoy
abbrev pub StandsAsConvoy : EqualTrucks → List Axle → Type 0
StandsAsConvoy c train = (q : ℕ) (lead : ℤ) → IsConvoyPlaced c q (placed q lead train)

-- what a convoy keeps: one of its trucks is a train, and beside it stands the closest convoy
pub record IsConvoyKept (c : EqualTrucks) (closest : List Axle) : Type 0 where
  pub truck : IsTrain c.axles
  pub together : closest ≡ closest_axles c
