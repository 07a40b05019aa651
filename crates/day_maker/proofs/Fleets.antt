-- The trucks and the actors that are made are accepted.
use Rattle.std.proofs.Common.{◌≡◌, ◌∙◌, ◌<◌, ◌≤◌, ◌+◌, ◌%◌, ◌∷◌, ◌++◌, [], ℕ, List, Ok, Some, None, false, refl, ap, sym, arith, length}
use Rattle.std.specs.Prelude.{codes}
use Rattle.std.specs.Fmt.{decimal}
use Rattle.std.specs.List.{AllByRecursion}
use Rattle.std.proofs.lemmas.Fmt.{decimal_digit}
use Rattle.std.proofs.lemmas.List.{length-map, map-append}
use Rattle.std.proofs.lemmas.Bool.{le-leb, lt-ltb}
use Rattle.csv.specs.Records.{field_at}
use Rattle.axle_train.specs.declared.axle.Axle.{Axle}
use Rattle.axle_train.specs.Refusals.{refusal_of}
use Rattle.road_graph.specs.Roads.{has_name, segment_names}
use Rattle.trip_analysis.specs.declared.base.Truck.{Truck}
use Rattle.day_text.specs.Fields.{name_field}
use Rattle.day_text.specs.Days.{judge_day}
use Rattle.day_text.specs.Fleets.{actors_of, fleet_of, truck_names}
use Rattle.day_text.specs.Trucks.{load_of, truck_fields_of}
use Rattle.day_maker.specs.Making.{◌>>=◌, ◌>>◌, draw, each, put}
use Rattle.day_maker.specs.Made.{actor, actor_name, actors, axles, carrier_name, truck, truck_name, trucks}
use Rattle.day_writer.specs.Texts.{axles_text, row}
use Rattle.day_maker.proofs.Axles.{axles_small, axles_some, is_train}
use Rattle.day_writer.proofs.Trains.{IsSmall, axles_plain, axles_read}
use Rattle.day_writer.proofs.Judge.{DaySoFar, open_day}
use Rattle.day_maker.proofs.Leading.{Leads, leads_draw, leads_drawn, leads_nothing, leads_put, leads_then}
use Rattle.day_maker.proofs.Leaves.{numbered_ok}
use Rattle.day_writer.proofs.Leaves.{number_ok}
use Rattle.day_maker.proofs.Plain.{numbered_plain}
use Rattle.day_maker.proofs.Segments.{HasNodes}
use Rattle.day_maker.proofs.Spans.{HasEast, InSpans}
use Rattle.day_writer.proofs.Plain.{IsPlain, number_plain}

-- the roads are there, and these trucks and actors, and at most so many commands
pub record InTraffic (z : ℕ) (ts names : List (List ℕ)) (n : ℕ) (d : DaySoFar) : Type 0 where
  pub nodes : HasNodes z d.network.nodes
  pub east : HasEast z (segment_names d.network.segments)
  pub fleet : truck_names d.fleet ≡ ts
  pub actors : d.actors ≡ names
  pub orders : length d.orders ≤ n

pub traffic_begins : (z : ℕ) (d : DaySoFar) → InSpans z (z + 1) 0 d → InTraffic z [] [] 0 d
traffic_begins z d at = record {
  nodes = at.nodes;
  east = at.east;
  fleet = rw at.fleet refl;
  actors = at.actors;
  orders = rw at.orders (omega arith);
}

-- axles that are a truck's
pub record IsGood (train : List Axle) : Type 0 where
  pub small : AllByRecursion IsSmall train
  pub some : 1 ≤ length train
  pub sound : refusal_of train ≡ None

abbrev truck_row : ℕ → ℕ → ℕ → List Axle → List (List ℕ)
truck_row t height width train = row (codes "truck" ∷ truck_name t ∷ carrier_name (t % 2) ∷ decimal height ∷ decimal width ∷ decimal 900 ∷ axles_text train ∷ [])

abbrev made_truck : ℕ → ℕ → ℕ → List Axle → Truck
made_truck t height width train = record { name = truck_name t; carrier = carrier_name (t % 2); load = record { height = height; width = width; length = 900; train = train } }

truck_put : (z t height width : ℕ) (train : List Axle) (before : List (List ℕ)) → t < 100 → length before < 64 → has_name (truck_name t) before ≡ false → 1 ≤ height → height ≤ 999 → 1 ≤ width → width ≤ 999 → IsGood train
    → Leads (InTraffic z before [] 0) (put (truck_row t height width train)) (InTraffic z (before ++ truck_name t ∷ []) [] 0)
unfolding fleet_of truck_fields_of load_of field_at
truck_put z t height width train before small few fresh low high narrow wide good =
    leads_put (InTraffic z before [] 0) (InTraffic z (before ++ truck_name t ∷ []) [] 0) (truck_row t height width train)
    (refl, (refl, (numbered_plain 116 t refl small, (numbered_plain 99 (t % 2) refl (omega arith), (number_plain height (omega arith), (number_plain width (omega arith), (number_plain 900 (omega arith), (axles_plain train good.small, (refl, tt)))))))))
    (λ d at. (record d { fleet = d.fleet ++ made_truck t height width train ∷ [] }, judges d at, goes d at))
  where
    judges : (d : DaySoFar) → InTraffic z before [] 0 d → judge_day (open_day d) (truck_row t height width train) ≡ Ok (open_day (record d { fleet = d.fleet ++ made_truck t height width train ∷ [] }))
    judges d at =
        let new : has_name (truck_name t) (truck_names d.fleet) ≡ false = rw at.fleet fresh in
        let count : length d.fleet ≡ length before = sym (length-map d.fleet (λ (x : Truck). x.name)) ∙ ap length at.fleet in
        rw (numbered_ok 116 t refl small, numbered_ok 99 (t % 2) refl (omega arith), number_ok height (omega arith), number_ok width (omega arith), number_ok 900 (omega arith), axles_read train good.some good.small, new, le-leb 1 height low, le-leb height 999 high, le-leb 1 width narrow, le-leb width 999 wide, good.sound, lt-ltb (length d.fleet) 64 (omega arith)) refl

    goes : (d : DaySoFar) → InTraffic z before [] 0 d → InTraffic z (before ++ truck_name t ∷ []) [] 0 (record d { fleet = d.fleet ++ made_truck t height width train ∷ [] })
    goes d at = record {
      nodes = at.nodes;
      east = at.east;
      fleet = map-append (λ (x : Truck). x.name) d.fleet (made_truck t height width train ∷ []) ∙ ap (λ (names : List (List ℕ)). names ++ truck_name t ∷ []) at.fleet;
      actors = at.actors;
      orders = at.orders;
    }

truck_leads : (z t : ℕ) (before : List (List ℕ)) → t < 100 → length before < 64 → has_name (truck_name t) before ≡ false → Leads (InTraffic z before [] 0) (truck t) (InTraffic z (before ++ truck_name t ∷ []) [] 0)
unfolding truck
truck_leads z t before small few fresh =
    leads_draw P Q 20 (λ h. draw 60 >>= (λ w. draw 4 >>= (λ m. axles (4 + m) >>= (λ train. put (truck_row t (160 + h) (100 + w) train))))) (omega arith)
    (λ h hh. leads_draw P Q 60 (λ w. draw 4 >>= (λ m. axles (4 + m) >>= (λ train. put (truck_row t (160 + h) (100 + w) train)))) (omega arith)
    (λ w hw. leads_draw P Q 4 (λ m. axles (4 + m) >>= (λ train. put (truck_row t (160 + h) (100 + w) train))) (omega arith)
    (λ m hm. leads_drawn P Q IsGood (axles (4 + m)) (λ train. put (truck_row t (160 + h) (100 + w) train))
    (λ x. record { small = axles_small (4 + m) x (omega arith); some = axles_some (4 + m) x; sound = is_train (4 + m) x (omega arith) (omega arith) })
    (λ train good. truck_put z t (160 + h) (100 + w) train before small few fresh (omega arith) (omega arith) (omega arith) (omega arith) good))))
  where
    P : DaySoFar → Type 0
    P = InTraffic z before [] 0

    Q : DaySoFar → Type 0
    Q = InTraffic z (before ++ truck_name t ∷ []) [] 0

abbrev pub four_trucks : List (List ℕ)
four_trucks = truck_name 1 ∷ truck_name 2 ∷ truck_name 3 ∷ truck_name 4 ∷ []

pub trucks_lead : (z : ℕ) → Leads (InTraffic z [] [] 0) trucks (InTraffic z four_trucks [] 0)
unfolding each
trucks_lead z =
    leads_then (InTraffic z [] [] 0) (InTraffic z (truck_name 1 ∷ []) [] 0) (InTraffic z four_trucks [] 0) (truck 1) (each 2 3 truck)
    (truck_leads z 1 [] (omega arith) (omega arith) refl)
    (leads_then (InTraffic z (truck_name 1 ∷ []) [] 0) (InTraffic z (truck_name 1 ∷ truck_name 2 ∷ []) [] 0) (InTraffic z four_trucks [] 0) (truck 2) (each 3 2 truck)
    (truck_leads z 2 (truck_name 1 ∷ []) (omega arith) (omega arith) (rw (decimal_digit 1 (omega arith), decimal_digit 2 (omega arith)) refl))
    (leads_then (InTraffic z (truck_name 1 ∷ truck_name 2 ∷ []) [] 0) (InTraffic z (truck_name 1 ∷ truck_name 2 ∷ truck_name 3 ∷ []) [] 0) (InTraffic z four_trucks [] 0) (truck 3) (each 4 1 truck)
    (truck_leads z 3 (truck_name 1 ∷ truck_name 2 ∷ []) (omega arith) (omega arith) (rw (decimal_digit 1 (omega arith), decimal_digit 2 (omega arith), decimal_digit 3 (omega arith)) refl))
    (leads_then (InTraffic z (truck_name 1 ∷ truck_name 2 ∷ truck_name 3 ∷ []) [] 0) (InTraffic z four_trucks [] 0) (InTraffic z four_trucks [] 0) (truck 4) (each 5 0 truck)
    (truck_leads z 4 (truck_name 1 ∷ truck_name 2 ∷ truck_name 3 ∷ []) (omega arith) (omega arith) (rw (decimal_digit 1 (omega arith), decimal_digit 2 (omega arith), decimal_digit 3 (omega arith), decimal_digit 4 (omega arith)) refl))
    (leads_nothing (InTraffic z four_trucks [] 0) (InTraffic z four_trucks [] 0) (λ d at. at)))))

-- one actor
actor_leads : (z : ℕ) (ts : List (List ℕ)) (name : List ℕ) (before : List (List ℕ)) → IsPlain name → name_field name ≡ Some name → has_name name before ≡ false → length before < 16
    → Leads (InTraffic z ts before 0) (actor name) (InTraffic z ts (before ++ name ∷ []) 0)
unfolding actors_of field_at
actor_leads z ts name before plain good fresh few =
    leads_put (InTraffic z ts before 0) (InTraffic z ts (before ++ name ∷ []) 0) (row (codes "actor" ∷ name ∷ []))
    (refl, (refl, (plain, (refl, (refl, (refl, (refl, (refl, (refl, tt)))))))))
    (λ d at. (record d { actors = d.actors ++ name ∷ [] }, judges d at, record { nodes = at.nodes; east = at.east; fleet = at.fleet; actors = ap (λ (names : List (List ℕ)). names ++ name ∷ []) at.actors; orders = at.orders }))
  where
    judges : (d : DaySoFar) → InTraffic z ts before 0 d → judge_day (open_day d) (row (codes "actor" ∷ name ∷ [])) ≡ Ok (open_day (record d { actors = d.actors ++ name ∷ [] }))
    judges d at =
        let new : has_name name d.actors ≡ false = rw at.actors fresh in
        let count : length d.actors ≡ length before = ap length at.actors in
        rw (good, new, lt-ltb (length d.actors) 16 (omega arith)) refl

abbrev pub four_actors : List (List ℕ)
four_actors = actor_name 1 ∷ actor_name 2 ∷ actor_name 3 ∷ codes "eng" ∷ []

pub actors_lead : (z : ℕ) (ts : List (List ℕ)) → Leads (InTraffic z ts [] 0) actors (InTraffic z ts four_actors 0)
unfolding actors
actors_lead z ts =
    leads_then (InTraffic z ts [] 0) (InTraffic z ts (actor_name 1 ∷ []) 0) (InTraffic z ts four_actors 0) (actor (actor_name 1)) (actor (actor_name 2) >> (actor (actor_name 3) >> actor (codes "eng")))
    (actor_leads z ts (actor_name 1) [] (numbered_plain 97 1 refl (omega arith)) (numbered_ok 97 1 refl (omega arith)) refl (omega arith))
    (leads_then (InTraffic z ts (actor_name 1 ∷ []) 0) (InTraffic z ts (actor_name 1 ∷ actor_name 2 ∷ []) 0) (InTraffic z ts four_actors 0) (actor (actor_name 2)) (actor (actor_name 3) >> actor (codes "eng"))
    (actor_leads z ts (actor_name 2) (actor_name 1 ∷ []) (numbered_plain 97 2 refl (omega arith)) (numbered_ok 97 2 refl (omega arith)) (rw (decimal_digit 1 (omega arith), decimal_digit 2 (omega arith)) refl) (omega arith))
    (leads_then (InTraffic z ts (actor_name 1 ∷ actor_name 2 ∷ []) 0) (InTraffic z ts (actor_name 1 ∷ actor_name 2 ∷ actor_name 3 ∷ []) 0) (InTraffic z ts four_actors 0) (actor (actor_name 3)) (actor (codes "eng"))
    (actor_leads z ts (actor_name 3) (actor_name 1 ∷ actor_name 2 ∷ []) (numbered_plain 97 3 refl (omega arith)) (numbered_ok 97 3 refl (omega arith)) (rw (decimal_digit 1 (omega arith), decimal_digit 2 (omega arith), decimal_digit 3 (omega arith)) refl) (omega arith))
    (actor_leads z ts (codes "eng") (actor_name 1 ∷ actor_name 2 ∷ actor_name 3 ∷ []) refl refl refl (omega arith))))
