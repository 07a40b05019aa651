-- The permits that stand at the end of a history, and the applications for them once more.
use Rattle.std.specs.Prelude.{ℕ, Bool, List, Option, Some, None, filter_map, if◌then◌else◌}
use Rattle.permit_book.specs.Permits.{in_force, permit_of}
use Rattle.trip_analysis.specs.declared.application.Application.{Application}
use Rattle.office_words.specs.declared.entry.Reply.{Reply}
use Rattle.office_words.specs.declared.entry.Reply.TheVariants as reply
use Rattle.office_words.specs.declared.entry.Entry.{Entry}
use Rattle.office_core.specs.Happened.{Day, History, application_in}
use Rattle.office_core.specs.Machine.{Machine}
use Rattle.reroute_desk.specs.Replacements.{first_from}
pub use Rattle.next_day.specs.declared.standing.Standing.{Standing}

-- whether the permit of a number is in force
abbrev pub is_standing : Machine → ℕ → Bool
is_standing m number = in_force m.day (permit_of m.permits number)

-- the permit that an entry issued, where it is in force: of this caller, for this application, by this reply
abbrev pub standing_of : Machine → ℕ → Option Application → Reply → Option Standing
standing_of m caller (Some trip) (reply.Issued number version routes) =
    if is_standing m number then Some (record { number = number; holder = caller; trip = trip; routes = routes }) else None
standing_of m caller (Some trip) _ = None
standing_of m caller None r = None

-- the permits of these entries that are in force, in the order of their numbers
abbrev pub standing_in : Machine → History → List Standing
standing_in m es = filter_map (λ e. standing_of m e.caller (application_in e.call) e.reply) es

-- the application for a permit once more: over the routes of the permit, and from today on where its first day has passed
abbrev pub again_over : Day → Standing → Application
again_over today p = record p.trip { asked = Some p.routes; first = first_from today p.trip.first }
