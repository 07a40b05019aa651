use Rattle.std.proofs.Common.{◌≡◌, map, take}
use Rattle.next_day.specs.NextDay.{order_for}
use Rattle.next_day.proofs.going_on.apply_again.Given as goal

abbrev pub invariant-permits : goal.invariant-permits
invariant-permits l = l.orders.items ≡ map (order_for l.kept l.today) (take l.permit-index l.standing)
