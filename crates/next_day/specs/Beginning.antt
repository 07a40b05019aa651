-- The history with which the next day begins.
use Rattle.std.specs.Prelude.{ℕ, ◌+◌, List, [], ◌∷◌, ◌++◌}
use Rattle.trip_analysis.specs.declared.finding.What.TheVariants as what
use Rattle.trip_analysis.specs.declared.application.Application.{Application}
use Rattle.office_words.specs.declared.entry.Entry.{Entry}
use Rattle.office_words.specs.declared.entry.Reply.TheVariants as reply
use Rattle.office_core.specs.Happened.{Day, History, Routes}
use Rattle.analyst_pool.specs.Unfolds.{looked_at, submitted}
use Rattle.next_day.specs.NextDay.{application_on}
use Rattle.next_day.specs.declared.standing.Standing.{Standing}

-- an application is decided by its first attempt: it is issued the permit of this number at version 0 for these routes
abbrev pub issued_at_once : ℕ → Application → ℕ → Routes → List Entry
issued_at_once caller a number routes =
    looked_at caller 0 ∷ submitted caller a 0 (what.Route routes) (reply.Issued number 0 routes) ∷ []

-- each of these permits is applied for once more, one after another, and is issued anew: the first as the number behind `last`, and
-- each with the routes that it had
abbrev pub issued_anew : List ℕ → Day → ℕ → List Standing → History
issued_anew kept today last [] = []
issued_anew kept today last (p ∷ ps) =
    issued_at_once p.holder (application_on kept today p) (last + 1) p.routes ++ issued_anew kept today (last + 1) ps

-- all entries of a day that begins with these permits
abbrev pub beginning : List ℕ → Day → List Standing → History
beginning kept today standing = issued_anew kept today 0 standing
