use Rattle.route_search.proofs.Columns.{level_none_heights}
use Rattle.route_search.proofs.heights.Heights.all.Goals as goal

pub columns-init : goal.columns-init
columns-init c = rw c.none-heights.ensures (level_none_heights c.args.network.now.segments)
