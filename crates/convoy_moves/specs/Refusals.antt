-- The limits of a convoy, and what each refusal says. The limits are those of a train, since the closest convoy is to be one.
use Rattle.std.specs.Prelude.{ℕ, ◌+◌, ◌-◌, ◌*◌, ◌<◌, ◌≤◌, nat_lt, if◌then◌else◌, List, length, sum_by, Option, Some, None}
use Rattle.axle_train.specs.declared.axle.Axle.{Axle}
use Rattle.convoy_moves.specs.Convoys.{EqualTrucks, last_place}
use Rattle.convoy_moves.specs.declared.refusal.ConvoyRefusal.{ConvoyRefusal}
use Rattle.convoy_moves.specs.declared.refusal.ConvoyRefusal.TheVariants.{TooManyAxles, TooLong, Gross}

-- how many axles so many trucks have together
abbrev pub axles_together : List Axle → ℕ → ℕ
axles_together axles trucks = trucks * length axles

-- how many inches the last axle of all stands behind the first, with just this gap between two trucks
abbrev pub closest_length : List Axle → ℕ → ℕ → ℕ
closest_length axles trucks gap = trucks * last_place axles + (trucks - 1) * gap

-- how many pounds so many trucks weigh together
abbrev pub gross_together : List Axle → ℕ → ℕ
gross_together axles trucks = trucks * sum_by (λ a. a.weight) axles

-- no limit is passed
pub record FitsTogether (c : EqualTrucks) : Type 0 where
  pub few : axles_together c.axles c.trucks ≤ 32
  pub short : closest_length c.axles c.trucks c.gap ≤ 3000
  pub light : gross_together c.axles c.trucks ≤ 2000000

-- the first limit that is passed is that of the axles
abbrev pub HasTooManyAxles : EqualTrucks → Type 0
HasTooManyAxles c = 32 < axles_together c.axles c.trucks

-- the first limit that is passed is that of the length
abbrev pub IsConvoyTooLong : EqualTrucks → Type 0
IsConvoyTooLong c = (axles_together c.axles c.trucks ≤ 32) × (3000 < closest_length c.axles c.trucks c.gap)

-- the first limit that is passed is that of the weight
abbrev pub IsTooHeavy : EqualTrucks → Type 0
IsTooHeavy c =
    (axles_together c.axles c.trucks ≤ 32) × (closest_length c.axles c.trucks c.gap ≤ 3000)
    × (2000000 < gross_together c.axles c.trucks)

-- the first limit that is passed, if one is
abbrev pub first_refusal : EqualTrucks → Option ConvoyRefusal
first_refusal c =
    if nat_lt 32 (axles_together c.axles c.trucks) then Some TooManyAxles
    else (if nat_lt 3000 (closest_length c.axles c.trucks c.gap) then Some TooLong
    else (if nat_lt 2000000 (gross_together c.axles c.trucks) then Some Gross else None))

-- the number of a refusal, by the order of the limits
abbrev pub refusal_number : ConvoyRefusal → ℕ
refusal_number TooManyAxles = 1
refusal_number TooLong = 2
refusal_number Gross = 3
