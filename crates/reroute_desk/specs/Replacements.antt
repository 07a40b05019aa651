-- The application for a recalled permit once more.
use Rattle.std.specs.Prelude.{ℕ, Option, None, if◌then◌else◌}
use Rattle.permit_days.specs.Days.{is_before}
use Rattle.trip_analysis.specs.declared.application.Application.{Application}
use Rattle.office_core.specs.Happened.{Day, History, day_after}
use Rattle.reroute_desk.specs.Issues.{told_of_issued}

-- an application that asks for no route
abbrev pub unasked : Application → Application
unasked a = record a { asked = None }

-- the later of a first day and today
abbrev pub first_from : Day → Day → Day
first_from today first = if is_before first today then today else first

-- an application once more: along any route, and from today on where its first day has passed
abbrev pub renewed : Day → Application → Application
renewed today a = record a { asked = None; first = first_from today a.first }

-- the application for a permit once more on a day, behind these entries, where one of them issued it
abbrev pub again : History → Day → ℕ → Option Application
again es today old = told_of_issued (renewed today) es old

-- the day that it is behind the entries of an office that opened on a day
abbrev pub again_behind : Day → History → ℕ → Option Application
again_behind opening es old = again es (day_after opening es) old
