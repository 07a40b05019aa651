use Rattle.std.proofs.Common.{◌≡◌, ◌++◌, take}
use Rattle.day_writer.specs.Orders.{route_text}
use Rattle.day_writer.specs.Texts.{joined}
use Rattle.day_writer.proofs.routes.write_routes.Given as goal

abbrev pub invariant-more : goal.invariant-more
invariant-more l = l.out.items ≡ l.fn.out.items ++ joined 124 (route_text l.network) (take l.i l.routes)
