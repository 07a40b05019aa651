-- The trucks and the actors that are written are read.
use Rattle.std.proofs.Common.{◌≡◌, ◌<◌, ◌≤◌, ◌∷◌, ◌++◌, [], ℕ, List, Ok, true, false, length, map, refl, arith}
use Rattle.std.specs.Prelude.{◌&&◌}
use Rattle.std.specs.Cmp.{first_so, second_so}
use Rattle.std.proofs.lemmas.Bool.{leb-true, lt-ltb}
use Rattle.csv.specs.Records.{field_at}
use Rattle.axle_train.specs.Bounds.{IsTrain}
use Rattle.clearance_rules.specs.Loads.{is_cross_section, is_length}
use Rattle.road_graph.specs.Roads.{has_name}
use Rattle.trip_analysis.specs.declared.base.Truck.{Truck}
use Rattle.day_text.specs.Bounds.{IsSized}
use Rattle.day_text.specs.Days.{DayParts, judge_day}
use Rattle.day_text.specs.Fleets.{actors_of, fleet_of, truck_names}
use Rattle.day_text.specs.Named.{HasCarrier, IsName}
use Rattle.day_text.specs.Trucks.{load_of, truck_fields_of}
use Rattle.day_writer.specs.Rows.{actor_row, truck_row}
use Rattle.day_writer.specs.Writable.{IsWritable}
use Rattle.day_writer.proofs.Judge.{DaySoFar, open_day}
use Rattle.day_writer.proofs.Leading.{Goes, goes_map, goes_one}
use Rattle.day_writer.proofs.Leaves.{name_ok, name_plain, number_ok}
use Rattle.day_writer.proofs.Lists.{all_here, few_here, fresh_here, map_here}
use Rattle.day_writer.proofs.Plain.{number_plain}
use Rattle.day_writer.proofs.RoadsRead.{bare, on_day}
use Rattle.day_writer.proofs.Trains.{axles_plain, axles_read, train_small, train_taken}

-- a size is small
section_small : (n : ℕ) → is_cross_section n ≡ true → n ≤ 999
section_small n h = leb-true n 999 (second_so _ _ h)

length_small : (n : ℕ) → is_length n ≡ true → n ≤ 9999
length_small n h = leb-true n 9999 (second_so _ _ h)

module _ (file : DayParts) (h : IsWritable file) where
  abbrev pub on_roads : DaySoFar
  on_roads = on_day file.day file.base.roads.nodes file.base.roads.segments file.base.roads.spans

  -- the same roads on which no limit is set yet
  abbrev pub on_bare : DaySoFar
  on_bare = on_day file.day file.base.roads.nodes (map bare file.base.roads.segments) file.base.roads.spans

  abbrev so_far_trucks : List Truck → List Truck → DaySoFar
  so_far_trucks front rest = record on_bare { fleet = front }

  truck_goes : (front : List Truck) (t : Truck) (rest : List Truck) → front ++ (t ∷ rest) ≡ file.base.fleet
      → Goes (so_far_trucks front (t ∷ rest)) (truck_row t ∷ []) (so_far_trucks (front ++ (t ∷ [])) rest)
  unfolding fleet_of truck_fields_of load_of field_at
  truck_goes front t rest e =
      let fleet = file.base.fleet in
      let names_are = map_here (λ (u : Truck). u.name) front t rest fleet e in
      let good : IsName t.name = all_here IsName (truck_names front) t.name (truck_names rest) (truck_names fleet) names_are h.names.trucks in
      let carrier : IsName t.carrier = all_here HasCarrier front t rest fleet e h.names.carriers in
      let train : IsTrain t.load.train = all_here (λ (u : Truck). IsTrain u.load.train) front t rest fleet e h.bounds.base.trains in
      let sizes : IsSized t = all_here IsSized front t rest fleet e h.bounds.sizes in
      let both = first_so (is_cross_section t.load.height && is_cross_section t.load.width) (is_length t.load.length) sizes in
      let high = first_so (is_cross_section t.load.height) (is_cross_section t.load.width) both in
      let wide = second_so (is_cross_section t.load.height) (is_cross_section t.load.width) both in
      let long = second_so (is_cross_section t.load.height && is_cross_section t.load.width) (is_length t.load.length) sizes in
      let a = section_small t.load.height high in
      let b = section_small t.load.width wide in
      let c = length_small t.load.length long in
      let small = train_small t.load.train train in
      let some : 1 ≤ length t.load.train = omega (arith, train.many) in
      let fresh : has_name t.name (truck_names front) ≡ false = fresh_here (truck_names front) t.name (truck_names rest) (truck_names fleet) names_are h.names.each_truck in
      let room : length front < length fleet = few_here front t rest fleet e in
      let most : length fleet ≤ 64 = h.bounds.base.few in
      let judges : judge_day (open_day (so_far_trucks front (t ∷ rest))) (truck_row t) ≡ Ok (open_day (so_far_trucks (front ++ (t ∷ [])) rest)) =
      rw (name_ok t.name good, name_ok t.carrier carrier, number_ok t.load.height (omega arith), number_ok t.load.width (omega arith), number_ok t.load.length (omega arith), axles_read t.load.train some small, fresh, high, wide, long, train_taken t.load.train train, lt-ltb (length front) 64 (omega arith)) refl in
      goes_one (so_far_trucks front (t ∷ rest)) (so_far_trucks (front ++ (t ∷ [])) rest) (truck_row t)
      (refl, (refl, (name_plain t.name good, (name_plain t.carrier carrier, (number_plain t.load.height (omega arith), (number_plain t.load.width (omega arith), (number_plain t.load.length (omega arith), (axles_plain t.load.train small, (refl, tt))))))))) judges

  pub trucks_go : Goes on_bare (map truck_row file.base.fleet) (record on_bare { fleet = file.base.fleet })
  trucks_go = goes_map file.base.fleet so_far_trucks truck_row truck_goes

  abbrev so_far_actors : List (List ℕ) → List (List ℕ) → DaySoFar
  so_far_actors front rest = record on_bare { fleet = file.base.fleet; actors = front }

  actor_goes : (front : List (List ℕ)) (name : List ℕ) (rest : List (List ℕ)) → front ++ (name ∷ rest) ≡ file.actors
      → Goes (so_far_actors front (name ∷ rest)) (actor_row name ∷ []) (so_far_actors (front ++ (name ∷ [])) rest)
  unfolding actors_of field_at
  actor_goes front name rest e =
      let good = all_here IsName front name rest file.actors e h.names.actors in
      let fresh : has_name name front ≡ false = fresh_here front name rest file.actors e h.names.each_actor in
      let room : length front < length file.actors = few_here front name rest file.actors e in
      let most : length file.actors ≤ 16 = h.kept.few_actors in
      let judges : judge_day (open_day (so_far_actors front (name ∷ rest))) (actor_row name) ≡ Ok (open_day (so_far_actors (front ++ (name ∷ [])) rest)) =
      rw (name_ok name good, fresh, lt-ltb (length front) 16 (omega arith)) refl in
      goes_one (so_far_actors front (name ∷ rest)) (so_far_actors (front ++ (name ∷ [])) rest) (actor_row name)
      (refl, (refl, (name_plain name good, (refl, (refl, (refl, (refl, (refl, (refl, tt))))))))) judges

  pub actors_go : Goes (record on_bare { fleet = file.base.fleet }) (map actor_row file.actors) (record on_bare { fleet = file.base.fleet; actors = file.actors })
  actors_go = goes_map file.actors so_far_actors actor_row actor_goes
