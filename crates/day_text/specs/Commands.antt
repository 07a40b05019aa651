-- The records of commands: the command that each gives, or the first cause for which it is refused. A command refers to its
-- actor, its truck and the things of the road network by the names of records before it.
use Rattle.std.specs.Prelude.{ℕ, nat_lt, List, [], ◌∷◌, ◌++◌, length, Result, Ok, Option, Some, None, option_map}
use Rattle.restriction_log.specs.Changes.{change_of}
use Rattle.restriction_log.specs.declared.change.Change.{Change}
use Rattle.restriction_log.specs.declared.change.Change.TheVariants as change
use Rattle.road_graph.specs.Ranges.{is_limit, is_rating}
use Rattle.road_graph.specs.Roads.{Roads, segment_names, span_names, number_of as number_named}
use Rattle.trip_analysis.specs.declared.application.Application.{Application}
use Rattle.trip_analysis.specs.declared.application_refusal.ApplicationRefusal.{ApplicationRefusal}
use Rattle.trip_analysis.specs.declared.application_refusal.ApplicationRefusal.TheVariants.{AnnualDays, BrokenRoute, DayOrder, SamePlace}
use Rattle.trip_analysis.specs.Applications.{application_of, application_refusal}
use Rattle.day_text.specs.Causes.{◌>>=◌, demand, limit, or_bad, unless_refused}
use Rattle.day_text.specs.Fields.{of_each}
use Rattle.day_text.specs.Forms.{Day, Name, Number, Posted, Routes, said_in}
use Rattle.day_text.specs.Fleets.{truck_names}
use Rattle.day_text.specs.Records.{Row}
use Rattle.office_words.specs.declared.entry.Command.TheVariants as command
use Rattle.day_text.specs.declared.commands.ApplyFields.{ApplyFields}
use Rattle.day_text.specs.declared.day_so_far.DaySoFar.{DaySoFar}
use Rattle.day_text.specs.declared.posted.Posted.{Posted as PostedWord}
use Rattle.day_text.specs.declared.posted.Posted.TheVariants as posted
use Rattle.day_text.specs.declared.orders.Order.{Order}
use Rattle.day_text.specs.declared.refusal.Cause.{Cause}
use Rattle.day_text.specs.declared.refusal.RecordCause.{RecordCause}
use Rattle.day_text.specs.declared.refusal.RecordCause.TheVariants as bad
use Rattle.day_text.specs.declared.refusal.Kind.TheVariants as kind

-- the fields of an application's record, each in its form
unfoldable pub apply_fields_of : Row → Result ApplyFields Cause
apply_fields_of fields = do
  (actor, (truck, (from, (to, (routes, (first, (last, rest))))))) ← said_in (Name ∷ Name ∷ Name ∷ Name ∷ Routes ∷ Day ∷ Day ∷ []) fields
  Ok (record { actor = actor; truck = truck; from = from; to = to; routes = routes; first = first; last = last })

-- the numbers of the segments of a route, where each of its names is a segment's
abbrev pub numbers_of : List (List ℕ) → List (List ℕ) → Option (List ℕ)
numbers_of known route = of_each (λ name. number_named name known) route

-- the routes that are asked for, where each of their names is a segment's; no routes ask for none
abbrev pub asked_routes_of : List (List ℕ) → List (List (List ℕ)) → Option (Option (List (List ℕ)))
asked_routes_of known [] = Some None
asked_routes_of known (route ∷ routes) = option_map Some (of_each (numbers_of known) (route ∷ routes))

-- the cause of a record whose application is refused
abbrev pub cause_of : ApplicationRefusal → RecordCause
cause_of SamePlace = bad.SamePlace
cause_of (BrokenRoute route at) = bad.BrokenRoute
cause_of DayOrder = bad.DayOrder
cause_of (AnnualDays days) = bad.AnnualDays

-- an application that no rule of applications refuses
abbrev pub applied : Roads → ℕ → ℕ → ℕ → Option (List (List ℕ)) → List ℕ → List ℕ → Result Application Cause
applied roads truck from to asked first last =
    unless_refused cause_of (application_of truck from to asked first last) (application_refusal roads from to asked first last)

-- the application of some fields: each name is looked up, each day is one of the calendar, and no rule of applications refuses it
unfoldable pub resolved_of : DaySoFar → ApplyFields → Result Order Cause
resolved_of d f = do
  actor ← or_bad (bad.Unknown 2) (number_named f.actor d.actors)
  truck ← or_bad (bad.Unknown 3) (number_named f.truck (truck_names d.fleet))
  from ← or_bad (bad.Unknown 4) (number_named f.from d.network.nodes)
  to ← or_bad (bad.Unknown 5) (number_named f.to d.network.nodes)
  asked ← or_bad (bad.Unknown 6) (asked_routes_of (segment_names d.network.segments) f.routes)
  first ← or_bad (bad.Range 7) f.first
  last ← or_bad (bad.Range 8) f.last
  application ← applied d.network truck from to asked first last
  Ok (record { actor = actor; command = command.Apply application })

-- apply,ACTOR,TRUCK,FROM,TO,ROUTE,FIRST,LAST: the fields in their forms first, and then what they refer to
abbrev pub apply_of : DaySoFar → Row → Result Order Cause
apply_of d fields = apply_fields_of fields >>= resolved_of d

-- a posting on a segment, or on a span where it is of a rating
unfoldable pub posting_of : Roads → PostedWord → List ℕ → ℕ → Result Change Cause
posting_of roads (posted.Limit what) item value = do
  i ← or_bad (bad.Unknown 3) (number_named item (segment_names roads.segments))
  a ← demand (is_limit what value) (bad.Range 5)
  Ok (change_of i what value)
posting_of roads posted.Rating item value = do
  i ← or_bad (bad.Unknown 3) (number_named item (span_names roads.spans))
  a ← demand (is_rating value) (bad.Range 5)
  Ok (change.Rating i value)

-- post,ACTOR,ITEM,WHAT,VALUE
unfoldable pub post_of : DaySoFar → Row → Result Order Cause
post_of d fields = do
  (name, (item, (what, (value, rest)))) ← said_in (Name ∷ Name ∷ Posted ∷ Number ∷ []) fields
  actor ← or_bad (bad.Unknown 2) (number_named name d.actors)
  posting ← posting_of d.network what item value
  Ok (record { actor = actor; command = command.Post posting })

-- setday,ACTOR,DAY
unfoldable pub set_day_of : DaySoFar → Row → Result Order Cause
set_day_of d fields = do
  (name, (text, rest)) ← said_in (Name ∷ Day ∷ []) fields
  actor ← or_bad (bad.Unknown 2) (number_named name d.actors)
  day ← or_bad (bad.Range 3) text
  Ok (record { actor = actor; command = command.Day day })

-- surrender,ACTOR,NUMBER and show,ACTOR,NUMBER: the actor and the number of a permit
unfoldable pub asked_permit_of : DaySoFar → Row → Result (ℕ × ℕ) Cause
asked_permit_of d fields = do
  (name, (number, rest)) ← said_in (Name ∷ Number ∷ []) fields
  actor ← or_bad (bad.Unknown 2) (number_named name d.actors)
  Ok (actor, number)

-- surrender,ACTOR,NUMBER: the actor gives the permit of that number back
abbrev pub surrender_of : DaySoFar → Row → Result Order Cause
surrender_of d fields = asked_permit_of d fields >>= (λ x. Ok (record { actor = x.0; command = command.Surrender x.1 }))

-- show,ACTOR,NUMBER: the actor asks what the permit of that number is
abbrev pub show_of : DaySoFar → Row → Result Order Cause
show_of d fields = asked_permit_of d fields >>= (λ x. Ok (record { actor = x.0; command = command.Show x.1 }))

-- one command more, of at most 4,096
abbrev pub with_order : List Order → Order → Result (List Order) Cause
with_order orders order = limit (nat_lt (length orders) 4096) kind.Commands >>= (λ a. Ok (orders ++ order ∷ []))
