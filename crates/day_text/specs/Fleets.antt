-- The trucks and the actors of a day file: what their records add, or the first cause for which they are refused.
use Rattle.std.specs.Prelude.{ℕ, not, nat_lt, List, [], ◌∷◌, ◌++◌, length, map, Result, Ok}
use Rattle.road_graph.specs.Roads.{has_name}
use Rattle.day_text.specs.Causes.{◌>>=◌, demand, limit}
use Rattle.day_text.specs.Forms.{Name, said_in}
use Rattle.day_text.specs.Records.{Row}
use Rattle.day_text.specs.Trucks.{load_of, truck_fields_of}
use Rattle.day_text.specs.declared.truck.TruckFields.{TruckFields}
use Rattle.trip_analysis.specs.declared.base.Truck.{Truck}
use Rattle.day_text.specs.declared.refusal.Cause.{Cause}
use Rattle.day_text.specs.declared.refusal.RecordCause.TheVariants as bad
use Rattle.day_text.specs.declared.refusal.Kind.TheVariants as kind

-- the names of some trucks
abbrev pub truck_names : List Truck → List (List ℕ)
truck_names trucks = map (λ t. t.name) trucks

-- how many actors a day file may have
abbrev pub most_actors : ℕ
most_actors = 16

-- one truck more, of which these are the fields
abbrev pub fleet_with : List Truck → TruckFields → Result (List Truck) Cause
fleet_with trucks t = do
  a ← demand (not (has_name t.name (truck_names trucks))) bad.Same
  load ← load_of t.height t.width t.length t.axles
  b ← limit (nat_lt (length trucks) 64) kind.Trucks
  Ok (trucks ++ record { name = t.name; carrier = t.carrier; load = load } ∷ [])

-- truck,NAME,CARRIER,HEIGHT,WIDTH,LENGTH,AXLES
unfoldable pub fleet_of : List Truck → Row → Result (List Truck) Cause
fleet_of trucks fields = truck_fields_of fields >>= fleet_with trucks

-- actor,NAME
unfoldable pub actors_of : List (List ℕ) → Row → Result (List (List ℕ)) Cause
actors_of actors fields = do
  (name, rest) ← said_in (Name ∷ []) fields
  a ← demand (not (has_name name actors)) bad.Same
  b ← limit (nat_lt (length actors) most_actors) kind.Actors
  Ok (actors ++ name ∷ [])
