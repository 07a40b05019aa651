use Rattle.std.proofs.Common.{◌≡◌, drop}
use Rattle.day_text.specs.Scripts.{script_of}
use Rattle.journal_whole.proofs.seat.Seat.from_place.Given as goal

abbrev pub invariant-orders : goal.invariant-orders
invariant-orders l = script_of l.fn.actor (drop l.next l.orders) ≡ script_of l.fn.actor (drop l.fn.from l.orders)
