use Rattle.std.proofs.Common.{◌≡◌}
use Rattle.reroute_desk.specs.Notes.{AreNotes}
use Rattle.reroute_desk.proofs.notes.Notes.read_rest.Given as goal

abbrev pub invariant-entries : goal.invariant-entries
invariant-entries l = record { notes : AreNotes l.self l.history; read : l.self.read ≡ l.at }
