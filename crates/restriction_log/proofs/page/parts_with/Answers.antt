use Rattle.std.specs.Arc.{arc_slice_items}
use Rattle.restriction_log.proofs.Paging.{set_shared}
use Rattle.restriction_log.proofs.page.parts_with.Goals as goal

pub returns : goal.returns
returns g c = set_shared arc_slice_items c.args.parts.now c.in_ok-copy.copy.items _ c.args.at c.args.part c.in_ok-copy.ensures.items c.in_ok-from_vec.ensures
