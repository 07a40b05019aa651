use Rattle.recall_index.proofs.Lists.{gone_from_all, there_among}
use Rattle.recall_index.proofs.index.Index.remove_each.Goals as goal

pub take_out-requires-clause-among : goal.take_out-requires-clause-among
take_out-requires-clause-among c = λ k d low. there_among c.args.self.now c.args.numbers.now c.args.route.now c.requires.there _ (c.requires.segments k d low)

pub returns : goal.returns
returns c = gone_from_all c.args.self.now c.take_out.new.self c.args.numbers.now c.args.route.now c.requires.there c.take_out.ensures
