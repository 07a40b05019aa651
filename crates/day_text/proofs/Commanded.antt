-- A command comes from an actor who is there and is within its bounds, and an application is sound for the roads and the trucks so far.
use Rattle.std.proofs.Common.{◌≡◌, ◌≤◌, ◌<◌, ◌∷◌, [], List, ℕ, Bool, true, false, Option, Some, None, Ok, All, length, option_map, refl, subst, arith}
use Rattle.std.specs.Prelude.{◌==◌}
use Rattle.std.specs.List.{concat}
use Rattle.std.proofs.lemmas.Bool.{lt-ltb}
use Rattle.std.proofs.lemmas.List.{length-map}
use Rattle.road_graph.specs.declared.values.What.{What}
use Rattle.road_graph.specs.declared.values.What.TheVariants as limits
use Rattle.road_graph.specs.Ranges.{is_limit, is_rating}
use Rattle.road_graph.specs.Roads.{Roads, segment_names, span_names, number_of as number_named}
use Rattle.road_graph.specs.declared.segment.Segment.{Segment}
use Rattle.restriction_log.specs.Changes.{change_of, flag, takes}
use Rattle.restriction_log.specs.declared.change.Change.TheVariants as change
use Rattle.permit_days.specs.Days.{is_day_text}
use Rattle.trip_analysis.specs.declared.application.Application.{Application}
use Rattle.trip_analysis.specs.declared.base.Truck.{Truck}
use Rattle.trip_analysis.specs.Applications.{AreAskedRoutes, AreAskedThere, AreThere, Sound, application_of, application_refusal}
use Rattle.trip_analysis.specs.Bases.{BaseLists}
use Rattle.trip_analysis.proofs.Joined.{all_joined}
use Rattle.trip_analysis.proofs.Unbroken.{sound_if}
use Rattle.office_words.specs.Commands.{MayCarryOut}
use Rattle.office_words.specs.declared.entry.Command.TheVariants as command
use Rattle.day_text.specs.Causes.{demand, or_bad}
use Rattle.day_text.specs.Fields.{field_of, of_each}
use Rattle.day_text.specs.Forms.{Day, Form, Name, Number, Posted, Routes, said_in}
use Rattle.day_text.specs.Records.{Row}
use Rattle.day_text.specs.declared.posted.Posted.{Posted as PostedWord}
use Rattle.day_text.specs.declared.posted.Posted.TheVariants as posted
use Rattle.day_text.specs.declared.refusal.RecordCause.TheVariants as bad
use Rattle.day_text.proofs.Each.{each_holds}
use Rattle.day_text.proofs.Saying.{all_said}
use Rattle.day_text.proofs.Steps.{Gives, found_some, gives, not_refused, then_gives, was_demanded}
use Rattle.day_text.specs.Bounds.{IsCommandWithin}
use Rattle.day_text.specs.Commands.{applied, apply_fields_of, apply_of, asked_routes_of, cause_of, numbers_of, asked_permit_of, post_of, posting_of, resolved_of, set_day_of, show_of, surrender_of}
use Rattle.day_text.specs.Fleets.{truck_names}
use Rattle.day_text.specs.declared.commands.ApplyFields.{ApplyFields}
use Rattle.day_text.specs.declared.day_so_far.DaySoFar.{DaySoFar}
use Rattle.day_text.specs.declared.orders.Order.{Order}
use Rattle.day_text.proofs.Kept.{named_within, segment_there, span_there}
use Rattle.day_text.proofs.Readings.{IsMaybeDay, each_long, few_in_field, maybe_day, number_fits, there_day}

-- the segments of a route are there, and so are those of some routes
route_within : (known route : List (List ℕ)) (numbers : List ℕ) → numbers_of known route ≡ Some numbers → All (λ i. i < length known) numbers
route_within known route numbers e = each_holds (λ name. number_named name known) (λ i. i < length known) (λ name i is. named_within name known i is) route numbers e

routes_within : (known : List (List ℕ)) (names : List (List (List ℕ))) (routes : List (List ℕ)) → of_each (numbers_of known) names ≡ Some routes → All (λ i. i < length known) (concat routes)
routes_within known names routes e =
    all_joined (λ i. i < length known) routes (each_holds (numbers_of known) (All (λ i. i < length known)) (λ route numbers is. route_within known route numbers is) names routes e)

-- the segments of the asked routes, if there are any, are below a number
abbrev AreBelow : ℕ → Option (List (List ℕ)) → Type 0
AreBelow n None = Unit {0}
AreBelow n (Some routes) = All (λ i. i < n) (concat routes)

asked_within : (known : List (List ℕ)) (names : List (List (List ℕ))) (asked : Option (List (List ℕ))) → asked_routes_of known names ≡ Some asked → AreBelow (length known) asked
asked_within known [] asked e = let same : None ≡ asked = cc in subst (AreBelow (length known)) same tt
asked_within known (route ∷ names) asked e = by (of_each (numbers_of known) (route ∷ names)) (routes_within known (route ∷ names)) e
  where
    by : (o : Option (List (List ℕ))) → ((routes : List (List ℕ)) → o ≡ Some routes → All (λ i. i < length known) (concat routes)) → option_map Some o ≡ Some asked → AreBelow (length known) asked
    by None h e = cc
    by (Some routes) h e = let same : Some routes ≡ asked = cc in subst (AreBelow (length known)) same (h routes refl)

below_there : (roads : Roads) (asked : Option (List (List ℕ))) → AreBelow (length roads.segments) asked → AreAskedThere roads asked
below_there roads None h = tt
below_there roads (Some routes) h = h

-- so are those of the routes that a field asks for
pub asked_there : (roads : Roads) (names : List (List (List ℕ))) (asked : Option (List (List ℕ))) → asked_routes_of (segment_names roads.segments) names ≡ Some asked → AreAskedThere roads asked
asked_there roads names asked e =
    let many : length (segment_names roads.segments) ≡ length roads.segments = length-map roads.segments (λ (s : Segment). s.name) in
    below_there roads asked (subst (λ (n : ℕ). AreBelow n asked) many (asked_within (segment_names roads.segments) names asked e))

-- the roads and the trucks so far
abbrev pub base_of : DaySoFar → BaseLists
base_of d = record { roads = d.network; fleet = d.fleet }

-- the actor of a name is there
actor_within : (d : DaySoFar) (name : List ℕ) (actor : ℕ) → or_bad (bad.Unknown 2) (number_named name d.actors) ≡ Ok actor → actor < length d.actors
actor_within d name actor e = named_within name d.actors actor (found_some (bad.Unknown 2) (number_named name d.actors) actor e)

-- an application that was taken is sound
applied_sound : (d : DaySoFar) (truck from to : ℕ) (asked : Option (List (List ℕ))) (first last : List ℕ) (application : Application)
    → AreThere d.network from to asked → AreAskedRoutes asked → truck < length d.fleet → applied d.network truck from to asked first last ≡ Ok application → Sound (base_of d) application
applied_sound d truck from to asked first last application there few known e =
    let (is, none) = not_refused cause_of (application_of truck from to asked first last) application (application_refusal d.network from to asked first last) e in
    subst (Sound (base_of d)) is (sound_if d.network (application_of truck from to asked first last) there few none (base_of d) refl known)

-- at most eight routes are asked for
few_asked : (known : List (List ℕ)) (routes : List (List (List ℕ))) (asked : Option (List (List ℕ))) → length routes ≤ 8 → asked_routes_of known routes ≡ Some asked → AreAskedRoutes asked
few_asked known [] asked few e = let same : None ≡ asked = cc in subst AreAskedRoutes same tt
few_asked known (route ∷ routes) asked few e = by (of_each (numbers_of known) (route ∷ routes)) refl e
  where
    by : (o : Option (List (List ℕ))) → of_each (numbers_of known) (route ∷ routes) ≡ o → option_map Some o ≡ Some asked → AreAskedRoutes asked
    by None is e = cc
    by (Some found) is e =
        let same : Some found ≡ asked = cc in
        let long = each_long (numbers_of known) (route ∷ routes) found is in
        subst AreAskedRoutes same (record { some = omega (arith, long); few = omega (arith, long, few) })

-- the forms of the fields of an application
abbrev AreForms : ApplyFields → Type 0
AreForms f = IsMaybeDay f.first × IsMaybeDay f.last × (length f.routes ≤ 8)

abbrev apply_forms : List Form
apply_forms = Name ∷ Name ∷ Name ∷ Name ∷ Routes ∷ Day ∷ Day ∷ []

fields_give : (fields : Row) → Gives AreForms (apply_fields_of fields)
unfolding apply_fields_of
fields_give fields = then_gives {r = said_in apply_forms fields} (λ said e.
    let h = (all_said apply_forms fields).ok said e in
    gives AreForms (record { actor = said.0; truck = said.1.0; from = said.1.1.0; to = said.1.1.1.0; routes = said.1.1.1.1.0; first = said.1.1.1.1.1.0; last = said.1.1.1.1.1.1.0 })
    (maybe_day (field_of fields 6) said.1.1.1.1.1.0 h.1.1.1.1.1.0, maybe_day (field_of fields 7) said.1.1.1.1.1.1.0 h.1.1.1.1.1.1.0, few_in_field (field_of fields 5) said.1.1.1.1.0 h.1.1.1.1.0))

-- the roads take the change that a posting gives
flag_small : (b : Bool) → is_limit limits.Closed (flag b) ≡ true
flag_small true = refl
flag_small false = refl

change_taken : (roads : Roads) (what : What) (i value : ℕ) → i < length roads.segments → is_limit what value ≡ true → takes roads (change_of i what value) ≡ true
change_taken roads limits.Closed i value there within = rw (lt-ltb _ _ there) (flag_small (value == 1))
change_taken roads limits.Height i value there within = rw (lt-ltb _ _ there) within
change_taken roads limits.Width i value there within = rw (lt-ltb _ _ there) within
change_taken roads limits.Length i value there within = rw (lt-ltb _ _ there) within
change_taken roads limits.Gross i value there within = rw (lt-ltb _ _ there) within
change_taken roads limits.Allowance i value there within = rw (lt-ltb _ _ there) within
change_taken roads limits.Tridem i value there within = rw (lt-ltb _ _ there) within

posting_gives : (roads : Roads) (what : PostedWord) (item : List ℕ) (value : ℕ) → Gives (λ change. takes roads change ≡ true) (posting_of roads what item value)
unfolding posting_of
posting_gives roads (posted.Limit what) item value =
    then_gives {r = or_bad (bad.Unknown 3) (number_named item (segment_names roads.segments))} (λ i known.
    then_gives {r = demand (is_limit what value) (bad.Range 5)} (λ a within.
    gives (λ change. takes roads change ≡ true) (change_of i what value)
    (change_taken roads what i value (segment_there roads item i (found_some (bad.Unknown 3) _ i known)) (was_demanded (is_limit what value) (bad.Range 5) a within))))
posting_gives roads posted.Rating item value =
    then_gives {r = or_bad (bad.Unknown 3) (number_named item (span_names roads.spans))} (λ i known.
    then_gives {r = demand (is_rating value) (bad.Range 5)} (λ a within.
    gives (λ change. takes roads change ≡ true) (change.Rating i value)
    (rw (lt-ltb _ _ (span_there roads item i (found_some (bad.Unknown 3) _ i known))) (was_demanded (is_rating value) (bad.Range 5) a within))))

-- the command is from an actor who is there, may be given to an office of these roads and trucks, and is within its bounds
pub record IsGood (d : DaySoFar) (o : Order) : Type 0 where
  pub caller : o.actor < length d.actors
  pub sound : MayCarryOut (base_of d) o.command
  pub within : IsCommandWithin d.network o.command

resolved_good : (d : DaySoFar) (f : ApplyFields) → AreForms f → Gives (IsGood d) (resolved_of d f)
unfolding resolved_of
resolved_good d f forms =
    then_gives {r = or_bad (bad.Unknown 2) (number_named f.actor d.actors)} (λ actor actor_is.
    then_gives {r = or_bad (bad.Unknown 3) (number_named f.truck (truck_names d.fleet))} (λ truck truck_is.
    then_gives {r = or_bad (bad.Unknown 4) (number_named f.from d.network.nodes)} (λ from from_is.
    then_gives {r = or_bad (bad.Unknown 5) (number_named f.to d.network.nodes)} (λ to to_is.
    then_gives {r = or_bad (bad.Unknown 6) (asked_routes_of (segment_names d.network.segments) f.routes)} (λ asked asked_is.
    then_gives {r = or_bad (bad.Range 7) f.first} (λ first first_is.
    then_gives {r = or_bad (bad.Range 8) f.last} (λ last last_is.
    then_gives {r = applied d.network truck from to asked first last} (λ application application_is.
    let trucks : length (truck_names d.fleet) ≡ length d.fleet = length-map d.fleet (λ (t : Truck). t.name) in
    let there : AreThere d.network from to asked = record {
      begins = named_within f.from d.network.nodes from (found_some (bad.Unknown 4) (number_named f.from d.network.nodes) from from_is);
      ends = named_within f.to d.network.nodes to (found_some (bad.Unknown 5) (number_named f.to d.network.nodes) to to_is);
      along = asked_there d.network f.routes asked (found_some (bad.Unknown 6) (asked_routes_of (segment_names d.network.segments) f.routes) asked asked_is);
    } in
    let known = subst (λ (n : ℕ). truck < n) trucks (named_within f.truck (truck_names d.fleet) truck (found_some (bad.Unknown 3) (number_named f.truck (truck_names d.fleet)) truck truck_is)) in
    let a = there_day f.first first forms.0 (found_some (bad.Range 7) f.first first first_is) in
    let b = there_day f.last last forms.1 (found_some (bad.Range 8) f.last last last_is) in
    let few = few_asked (segment_names d.network.segments) f.routes asked forms.2 (found_some (bad.Unknown 6) _ asked asked_is) in
    let same = (not_refused cause_of (application_of truck from to asked first last) application _ application_is).0 in
    gives (IsGood d) (record { actor = actor; command = command.Apply application }) (record {
      caller = actor_within d f.actor actor actor_is;
      sound = applied_sound d truck from to asked first last application there few known application_is;
      within = subst (λ (x : Application). (is_day_text x.first ≡ true) × (is_day_text x.last ≡ true)) same (a, b);
    })))))))))

pub apply_good : (d : DaySoFar) (fields : Row) → Gives (IsGood d) (apply_of d fields)
apply_good d fields = then_gives {r = apply_fields_of fields} (λ f e. resolved_good d f ((fields_give fields).ok f e))

pub post_good : (d : DaySoFar) (fields : Row) → Gives (IsGood d) (post_of d fields)
unfolding post_of
post_good d fields =
    then_gives {r = said_in (Name ∷ Name ∷ Posted ∷ Number ∷ []) fields} (λ said _.
    then_gives {r = or_bad (bad.Unknown 2) (number_named said.0 d.actors)} (λ actor actor_is.
    then_gives {r = posting_of d.network said.1.1.0 said.1.0 said.1.1.1.0} (λ posting e.
    gives (IsGood d) (record { actor = actor; command = command.Post posting }) (record {
      caller = actor_within d said.0 actor actor_is;
      sound = tt;
      within = (posting_gives d.network said.1.1.0 said.1.0 said.1.1.1.0).ok posting e;
    }))))

pub set_day_good : (d : DaySoFar) (fields : Row) → Gives (IsGood d) (set_day_of d fields)
unfolding set_day_of
set_day_good d fields =
    then_gives {r = said_in (Name ∷ Day ∷ []) fields} (λ said e.
    then_gives {r = or_bad (bad.Unknown 2) (number_named said.0 d.actors)} (λ actor actor_is.
    then_gives {r = or_bad (bad.Range 3) said.1.0} (λ day day_is.
    let h = (all_said (Name ∷ Day ∷ []) fields).ok said e in
    gives (IsGood d) (record { actor = actor; command = command.Day day }) (record {
      caller = actor_within d said.0 actor actor_is;
      sound = tt;
      within = there_day said.1.0 day (maybe_day (field_of fields 2) said.1.0 h.1.0) (found_some (bad.Range 3) said.1.0 day day_is);
    }))))

-- the actor is there, and the number has nine digits at most
abbrev IsAskedPermit : DaySoFar → ℕ × ℕ → Type 0
IsAskedPermit d x = (x.0 < length d.actors) × (x.1 ≤ 999999999)

permit_good : (d : DaySoFar) (fields : Row) → Gives (IsAskedPermit d) (asked_permit_of d fields)
unfolding asked_permit_of
permit_good d fields =
    then_gives {r = said_in (Name ∷ Number ∷ []) fields} (λ said e.
    then_gives {r = or_bad (bad.Unknown 2) (number_named said.0 d.actors)} (λ actor actor_is.
    let h = (all_said (Name ∷ Number ∷ []) fields).ok said e in
    gives (IsAskedPermit d) (actor, said.1.0) (actor_within d said.0 actor actor_is, number_fits (field_of fields 2) said.1.0 h.1.0)))

pub surrender_good : (d : DaySoFar) (fields : Row) → Gives (IsGood d) (surrender_of d fields)
surrender_good d fields = then_gives {r = asked_permit_of d fields} (λ x e.
    let h = (permit_good d fields).ok x e in
    gives (IsGood d) (record { actor = x.0; command = command.Surrender x.1 }) (record { caller = h.0; sound = tt; within = h.1 }))

pub show_good : (d : DaySoFar) (fields : Row) → Gives (IsGood d) (show_of d fields)
show_good d fields = then_gives {r = asked_permit_of d fields} (λ x e.
    let h = (permit_good d fields).ok x e in
    gives (IsGood d) (record { actor = x.0; command = command.Show x.1 }) (record { caller = h.0; sound = tt; within = h.1 }))
