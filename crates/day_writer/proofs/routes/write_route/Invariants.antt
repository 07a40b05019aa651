use Rattle.std.proofs.Common.{◌≡◌, ◌++◌, take}
use Rattle.day_writer.specs.Orders.{route_text}
use Rattle.day_writer.proofs.routes.write_route.Given as goal

abbrev pub invariant-more : goal.invariant-more
invariant-more l = l.out.items ≡ l.fn.out.items ++ route_text l.network (take l.i l.route)
