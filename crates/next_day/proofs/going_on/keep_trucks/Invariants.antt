use Rattle.std.proofs.Common.{◌≡◌, ◌≤◌, length}
use Rattle.next_day.specs.NextDay.{trucks_kept}
use Rattle.next_day.proofs.going_on.keep_trucks.Given as goal

abbrev pub invariant-trucks : goal.invariant-trucks
invariant-trucks l = (l.kept.items ≡ trucks_kept l.only l.truck l.standing) × (length l.kept.items ≤ l.truck)
