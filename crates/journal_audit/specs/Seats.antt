-- What is known of the trucks for a caller.
use Rattle.std.specs.Prelude.{Option, Some, None, ℕ}
use Rattle.restriction_log.specs.States.{InForce}
use Rattle.snapshot_store.specs.Stores.{Stored, state_now}
use Rattle.trip_analysis.specs.declared.analyst.Analyst.{Analyst}
use Rattle.trip_analysis.specs.Bases.{BaseLists}
use Rattle.trip_analysis.specs.Known.{AreKnown}
use Rattle.journal_audit.specs.declared.seat.Seat.{Seat}
use Rattle.journal_audit.specs.declared.versions.Versions.{Versions}
use Rattle.journal_audit.specs.Versions.{IsKeptAt}

-- the trucks are known in the state of a version whose snapshot is kept or, where none was needed yet, in every state
abbrev pub AreKnownAtVersion : BaseLists → Versions → Option ℕ → Analyst → Type 0
AreKnownAtVersion base versions None analyst = (state : InForce) → AreKnown base state analyst
AreKnownAtVersion base versions (Some at) analyst = (s : Stored) × IsKeptAt versions at s × AreKnown base (state_now s) analyst

abbrev pub IsSeat : BaseLists → Versions → Seat → Type 0
IsSeat base versions seat = AreKnownAtVersion base versions seat.at seat.analyst
