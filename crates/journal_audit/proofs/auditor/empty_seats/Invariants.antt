use Rattle.std.proofs.Common.{◌≡◌, length}
use Rattle.std.specs.List.{All}
use Rattle.journal_audit.specs.declared.versions.Versions.{Versions}
use Rattle.journal_audit.specs.Seats.{IsSeat}
use Rattle.journal_audit.proofs.auditor.empty_seats.Given as goal

abbrev pub invariant-seats : goal.invariant-seats
invariant-seats l = ((versions : Versions) → All (IsSeat l.base versions) l.seats.items) × (length l.seats.items ≡ l.counter)
