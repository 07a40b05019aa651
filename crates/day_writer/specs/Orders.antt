-- The records of commands.
use Rattle.std.specs.Prelude.{ℕ, List, [], ◌∷◌, codes, slice_index_or, Option, Some, None}
use Rattle.std.specs.Fmt.{decimal}
use Rattle.restriction_log.specs.Changes.{replaced_by}
use Rattle.restriction_log.specs.declared.change.Replaced.{Replaced}
use Rattle.restriction_log.specs.declared.change.Replaced.TheVariants as replaced
use Rattle.road_graph.specs.Roads.{Roads, segment_at, span_at}
use Rattle.road_graph.specs.Words.{what_word}
use Rattle.trip_analysis.specs.Bases.{BaseLists, truck_of}
use Rattle.trip_analysis.specs.declared.application.Application.{Application}
use Rattle.office_words.specs.declared.entry.Command.{Command}
use Rattle.office_words.specs.declared.entry.Command.TheVariants.{Apply, Day, Post, Show, Surrender}
use Rattle.day_text.specs.Records.{Row}
use Rattle.day_text.specs.declared.orders.Order.{Order}
use Rattle.day_writer.specs.Texts.{joined, row}

-- the name of a number
abbrev pub name_at : List (List ℕ) → ℕ → List ℕ
name_at names i = slice_index_or names i []

-- a route: the names of its segments, with one space between two of them
abbrev pub route_text : Roads → List ℕ → List ℕ
route_text roads route = joined 32 (λ i. (segment_at roads.segments i).name) route

-- the routes that are asked for, with one bar between two of them; nothing, where none are
abbrev pub routes_text : Roads → Option (List (List ℕ)) → List ℕ
routes_text roads None = []
routes_text roads (Some routes) = joined 124 (route_text roads) routes

-- apply,ACTOR,TRUCK,FROM,TO,ROUTE,FIRST,LAST
abbrev pub application_row : BaseLists → List ℕ → Application → Row
application_row base actor a =
    row (codes "apply" ∷ actor ∷ (truck_of base a.truck).name ∷ name_at base.roads.nodes a.from ∷ name_at base.roads.nodes a.to
    ∷ routes_text base.roads a.asked ∷ a.first ∷ a.last ∷ [])

-- post,ACTOR,ITEM,WHAT,VALUE
abbrev pub posting_row : Roads → List ℕ → Replaced → Row
posting_row roads actor (replaced.Limit segment what value) =
    row (codes "post" ∷ actor ∷ (segment_at roads.segments segment).name ∷ what_word what ∷ decimal value ∷ [])
posting_row roads actor (replaced.Rating span permille) =
    row (codes "post" ∷ actor ∷ (span_at roads.spans span).name ∷ codes "rating" ∷ decimal permille ∷ [])

-- the record of an actor's command
abbrev pub command_row : BaseLists → List ℕ → Command → Row
command_row base actor (Apply application) = application_row base actor application
command_row base actor (Post change) = posting_row base.roads actor (replaced_by change)
command_row base actor (Day day) = row (codes "setday" ∷ actor ∷ day ∷ [])
command_row base actor (Surrender number) = row (codes "surrender" ∷ actor ∷ decimal number ∷ [])
command_row base actor (Show number) = row (codes "show" ∷ actor ∷ decimal number ∷ [])

-- the record of a command of one of these actors
abbrev pub order_row : BaseLists → List (List ℕ) → Order → Row
order_row base actors order = command_row base (name_at actors order.actor) order.command
