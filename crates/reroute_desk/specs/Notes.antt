-- What a desk has noted of a history.
use Rattle.std.specs.Prelude.{◌≡◌, ◌≤◌, ℕ, List, [], length, take, Option}
use Rattle.std.specs.BTreeMap.{is_at}
use Rattle.std.specs.Map.{lookup}
use Rattle.std.specs.Ordering.{nat_cmp}
use Rattle.trip_analysis.specs.declared.application.Application.{Application}
use Rattle.office_core.specs.Happened.{History, Numbers}
use Rattle.reroute_desk.specs.Issues.{told_of_issued, recalled_in}
use Rattle.reroute_desk.specs.declared.notes.Notes.TheInside.{Inside}
use Rattle.reroute_desk.specs.Replacements.{unasked}

-- how many entries were read, the numbers that they recalled, and the trips of the permits that they issued, by their numbers
pub record Noted : Type 0 where
  pub read : ℕ
  pub recalled : Numbers
  pub trips : List (ℕ × Application)

abbrev pub noted_in : Inside → Noted
noted_in n = record { read = n.read; recalled = n.recalled.items; trips = n.trips.entries }

-- nothing was read
abbrev pub no_notes : Noted
no_notes = record { read = 0; recalled = []; trips = [] }

-- the trip that is noted of a permit
abbrev pub noted_trip_of : Noted → ℕ → Option Application
noted_trip_of notes n = lookup (is_at (nat_cmp n)) notes.trips

-- the notes are of the first entries of a history
pub record AreNotes (notes : Noted) (es : History) : Type 0 where
  pub within : notes.read ≤ length es
  pub recalled : notes.recalled ≡ recalled_in (take notes.read es)
  pub trips : (n : ℕ) → noted_trip_of notes n ≡ told_of_issued unasked (take notes.read es) n
