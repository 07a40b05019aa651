-- Which states are of a network.
use Rattle.std.specs.Prelude.{◌≡◌, true, List}
use Rattle.road_graph.specs.Roads.{Roads, IsRoads}
use Rattle.restriction_log.specs.declared.change.Change.{Change}
use Rattle.restriction_log.specs.Changes.{takes, AreTaken}
use Rattle.restriction_log.specs.States.{InForce, AreOf, base_of, state_after, state_of}

-- the base of a network is of it
abbrev pub BaseIsOf : Type 0
BaseIsOf = (roads : Roads) → IsRoads roads → AreOf roads (base_of roads)

-- a state of a network stays of it by a change that the network takes
abbrev pub StaysOf : Type 0
StaysOf = (roads : Roads) (state : InForce) (change : Change) → AreOf roads state → takes roads change ≡ true
    → AreOf roads (state_after state change)

-- the state after postings that the network takes is of it
abbrev pub StateIsOf : Type 0
StateIsOf = (roads : Roads) (changes : List Change) → IsRoads roads → AreTaken roads changes
    → AreOf roads (state_of roads changes)
