use Rattle.route_search.proofs.Columns.{level_none_heights}
use Rattle.trip_analysis.proofs.base.Base.own_heights.Goals as goal

pub returns-in-None : goal.returns-in-None
returns-in-None c = rw c.none.ensures (level_none_heights c.args.self.now.roads.segments)
