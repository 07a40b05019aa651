use Rattle.std.proofs.Common.{◌≡◌, ◌≤◌, ◌<◌, ◌⊎◌, ℕ, get_or, length}
use Rattle.journal_whole.specs.declared.seat.Seat.{Seat}
use Rattle.journal_whole.proofs.judging.first_left.Given as goal

abbrev pub invariant-seats : goal.invariant-seats
invariant-seats l = record {
  within : l.first ≤ l.fn.orders;
  least : (k : ℕ) (d : Seat) → k < l.i → l.first ≤ (get_or l.seats k d).next;
  named : (l.first ≡ l.fn.orders) ⊎ ((k : ℕ) × (k < length l.seats) × ((d : Seat) → (get_or l.seats k d).next ≡ l.first));
}
