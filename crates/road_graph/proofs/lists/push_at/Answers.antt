use Rattle.road_graph.proofs.Columns.{lists_of-last}
use Rattle.road_graph.proofs.lists.push_at.Goals as goal

pub returns : goal.returns
returns g c =
    lists_of-last c.args.lists.now.items c.args.at c.index_mut.result.now c.push_reserved.new.self c.args.element
    c.requires.within c.index_mut.ensures.value c.push_reserved.ensures.items
