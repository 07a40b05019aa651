-- What an office is about, as plain lists.
use Rattle.std.specs.Prelude.{ℕ, ◌≤◌, List, [], length, slice_index_or, All}
use Rattle.axle_train.specs.declared.axle.Axle.{Axle}
use Rattle.axle_train.specs.Bounds.{IsTrain}
use Rattle.road_graph.specs.Roads.{Roads}
use Rattle.trip_analysis.specs.declared.base.Truck.{Truck}

-- a road network, and trucks that are numbered by their places, from 0
pub record BaseLists : Type 0 where
  pub roads : Roads
  pub fleet : List Truck

-- what stands past the last truck: nothing
abbrev pub no_truck : Truck
no_truck = record { name = []; carrier = []; load = record { height = 0; width = 0; length = 0; train = [] } }

-- the truck of a number
abbrev pub truck_of : BaseLists → ℕ → Truck
truck_of base number = slice_index_or base.fleet number no_truck

-- its axles
abbrev pub train_of : BaseLists → ℕ → List Axle
train_of base number = (truck_of base number).load.train

-- each truck of the fleet has a train of axles within the bounds of trains
abbrev pub AreTrains : BaseLists → Type 0
AreTrains base = All (λ t. IsTrain t.load.train) base.fleet

-- what a base keeps: at most 64 trucks, each with such a train
pub record IsBase (base : BaseLists) : Type 0 where
  pub few : length base.fleet ≤ 64
  pub trains : AreTrains base
