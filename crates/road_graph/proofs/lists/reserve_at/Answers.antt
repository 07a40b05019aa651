use Rattle.std.proofs.lemmas.Result.{on_ok_weaker}
use Rattle.road_graph.proofs.Columns.{lists_of-same, room-set}
use Rattle.road_graph.proofs.lists.reserve_at.Goals as goal

pub returns-clause-same : goal.returns-clause-same
returns-clause-same g c =
    lists_of-same c.args.lists.now.items c.args.at c.index_mut.result.now c.reserve.new.self
    c.requires c.index_mut.ensures.value c.reserve.ensures.items

pub returns-clause-room : goal.returns-clause-room
returns-clause-room g c =
    on_ok_weaker c.reserve.result (room-set c.args.lists.now.items c.args.at c.reserve.new.self) c.reserve.ensures.ok
