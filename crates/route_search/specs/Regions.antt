-- The part of a network around a node, as passable walks join it.
use Rattle.std.specs.Prelude.{ℕ, Bool, false, not, ◌&&◌, List, Option, IfNone, IfSome, slice_index_or}
use Rattle.road_graph.specs.Roads.{Roads}
use Rattle.route_search.specs.declared.walks.Way.TheVariants.{Back, Forth}
use Rattle.route_search.specs.declared.region.Reached.{Reached}
use Rattle.route_search.specs.declared.region.Region.{Region}
use Rattle.route_search.specs.declared.shortest.Shortest.{Shortest}
use Rattle.route_search.specs.Walks.{AreReached, CanReach, every, flagged}
use Rattle.route_search.specs.Founds.{IsShortest}
use Rattle.route_search.specs.Reaching.{AreMarked}

-- these are the nodes that walks from the root reach, by their marks and by their numbers
pub record AreReachedFrom (roads : Roads) (may : ℕ → Bool) (root : ℕ) (reached : Reached) : Type 0 where
  pub marks : AreMarked Forth roads may root reached.marks.items
  pub numbers : AreReached roads.segments may root reached.numbers

-- a region is that of the root: what passable walks and any walks from it reach, and whence passable walks lead to it
pub record IsRegion (roads : Roads) (passable : List Bool) (root : ℕ) (region : Region) : Type 0 where
  pub passable_is : AreReachedFrom roads (flagged passable) root region.passable
  pub any_is : AreReachedFrom roads every root region.any
  pub back_is : AreMarked Back roads (flagged passable) root region.leading_in.items

-- passable walks lead from the root to a node and back
pub record IsJoined (roads : Roads) (passable : List Bool) (root v : ℕ) : Type 0 where
  pub forth : CanReach roads.segments (flagged passable) root v
  pub back : CanReach roads.segments (flagged passable) v root

-- the start is joined to the root, and no passable walk leads from it to the goal
pub record IsCutOff (roads : Roads) (passable : List Bool) (root a b : ℕ) : Type 0 where
  pub joined : IsJoined roads passable root a
  pub none : CanReach roads.segments (flagged passable) a b → ⊥

-- whether the marks of a region say so
abbrev pub is_cut_off : Region → ℕ → ℕ → Bool
is_cut_off region a b = slice_index_or region.passable.marks.items a false && (slice_index_or region.leading_in.items a false && not (slice_index_or region.passable.marks.items b false))

-- what is told of a trip is what is found for it
abbrev pub IsToldOfTrip : Roads → List Bool → ℕ → ℕ → Option Shortest → Type 0
IsToldOfTrip roads passable a b told = IfSome told (IsShortest roads passable a b)

-- nothing is told only where the trip is not cut off
abbrev pub IsToldAll : Roads → List Bool → ℕ → ℕ → ℕ → Option Shortest → Type 0
IsToldAll roads passable root a b told = IfNone told (IsCutOff roads passable root a b → ⊥)
