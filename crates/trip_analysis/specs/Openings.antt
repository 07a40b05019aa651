-- What a base keeps beside its roads and its fleet.
use Rattle.std.specs.Prelude.{◌≡◌, ℕ, Bool, List, Option, IfSome, All}
use Rattle.std.specs.declared.alloc.Global.{Global}
use Rattle.std.specs.declared.vec.Vec.{Vec}
use Rattle.restriction_log.specs.States.{base_of}
use Rattle.route_search.specs.Heights.{AreHeights}
use Rattle.trip_analysis.specs.declared.base.Base.TheInside.{Inside}
use Rattle.trip_analysis.specs.declared.opening.Opening.{Opening}
use Rattle.trip_analysis.specs.Bases.{BaseLists, IsBase}
use Rattle.trip_analysis.specs.Passing.{flags_of}

-- the roads and the trucks of a base
abbrev pub lists_in : Inside → BaseLists
lists_in b = record { roads = b.network; fleet = b.fleet.items }

-- for each segment whether a truck may pass it before anything is posted
abbrev pub flags_at_first : BaseLists → ℕ → List Bool
flags_at_first base truck = flags_of base (base_of base.roads) truck

-- these are the flags of their truck before anything is posted
abbrev pub IsOpening : BaseLists → Opening → Type 0
IsOpening base opening = opening.flags.items ≡ flags_at_first base opening.truck

-- it is so of each of these, if there are any
abbrev pub AreOpenings : BaseLists → Option (Vec Opening Global) → Type 0
AreOpenings base openings = IfSome openings (λ list. All (IsOpening base) list.items)

-- what a base keeps is so of its own roads and trucks: the flags of each truck of which they are kept are those before anything
-- is posted, and heights, where they are kept, bound the lengths of walks
pub record IsBaseKept (b : Inside) : Type 0 where
  pub base : IsBase (lists_in b)
  pub openings : AreOpenings (lists_in b) b.openings
  pub heights : IfSome b.heights (AreHeights b.network.segments)
