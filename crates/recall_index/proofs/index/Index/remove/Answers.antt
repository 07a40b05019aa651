use Rattle.recall_index.proofs.Lists.{one_from_all}
use Rattle.recall_index.proofs.index.Index.remove.Goals as goal

pub returns : goal.returns
returns c = one_from_all c.args.self.now c.take_out.new.self c.args.number c.args.route.now c.requires.there c.take_out.ensures
