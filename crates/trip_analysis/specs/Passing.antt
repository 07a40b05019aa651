-- Which segments a truck of the fleet may pass in a state of the roads, and how many are tested.
use Rattle.std.specs.Prelude.{ℕ, ◌+◌, ◌≤◌, Bool, List, [], ◌∷◌, map, length, Option, Some, None, is_none}
use Rattle.std.specs.List.{range_with_len}
use Rattle.restriction_log.specs.States.{InForce}
pub use Rattle.clearance_rules.specs.declared.limit.Limit.{Limit}
use Rattle.clearance_rules.specs.Loads.{is_legal}
use Rattle.clearance_rules.specs.Limits.{limit_of}
use Rattle.trip_analysis.specs.declared.failing.Failing.{Failing}
use Rattle.trip_analysis.specs.Bases.{BaseLists, truck_of}

-- whether a truck of the fleet is legal and needs no permit
abbrev pub needs_none : BaseLists → ℕ → Bool
needs_none base truck = is_legal (truck_of base truck).load

-- the first limit of a segment that fails a truck of the fleet
abbrev pub limit_for : BaseLists → InForce → ℕ → ℕ → Option Limit
limit_for base state truck s = limit_of base.roads state (truck_of base truck).load s

-- whether a truck of the fleet may pass a segment: no limit fails
abbrev pub is_passable : BaseLists → InForce → ℕ → ℕ → Bool
is_passable base state truck s = is_none (limit_for base state truck s)

-- for each segment whether a truck may pass it
abbrev pub flags_of : BaseLists → InForce → ℕ → List Bool
flags_of base state truck = map (is_passable base state truck) (range_with_len 0 (length base.roads.segments))

-- the segment with its failing limit, where it has one, or else what the rest has
abbrev pub first_or : Option Limit → ℕ → Option Failing → Option Failing
first_or (Some limit) s rest = Some (record { segment = s; limit = limit })
first_or None s rest = rest

-- the first of these segments that fails, with its first failing limit
abbrev pub first_on : BaseLists → InForce → ℕ → List ℕ → Option Failing
first_on base state truck [] = None
first_on base state truck (s ∷ rest) = first_or (limit_for base state truck s) s (first_on base state truck rest)

-- so many segments were tested before and now: the count did not fall, and rose by at most this
pub record TestsAtMost (most before now : ℕ) : Type 0 where
  pub no_fewer : before ≤ now
  pub no_more : now ≤ before + most
