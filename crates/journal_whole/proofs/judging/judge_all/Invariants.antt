use Rattle.std.proofs.Common.{length, take}
use Rattle.journal_whole.specs.Seats.{AreSeats}
use Rattle.journal_whole.proofs.judging.judge_all.Given as goal

abbrev pub invariant-entries : goal.invariant-entries
invariant-entries l = AreSeats (length l.fn.seats.items) l.orders (take l.i l.history) l.seats.items
