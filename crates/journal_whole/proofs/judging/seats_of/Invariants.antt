use Rattle.std.proofs.Common.{[]}
use Rattle.journal_whole.specs.Seats.{AreSeats}
use Rattle.journal_whole.proofs.judging.seats_of.Given as goal

abbrev pub invariant-actors : goal.invariant-actors
invariant-actors l = AreSeats l.actor l.orders [] l.seats.items
