use Rattle.office_core.proofs.Registers.{Posted, post_keeps, recalls_live, recalls_rise}
use Rattle.office_core.proofs.register.Register.enter.Goals as goal

pub recall_each-requires-clause-live : goal.recall_each-requires-clause-live
recall_each-requires-clause-live c = recalls_live c.self.inside c.args.self.now c.args.next.state _ c.args.recalled.now c.self.view_is c.self.invariant c.requires.recalled

pub recall_each-requires-clause-rising : goal.recall_each-requires-clause-rising
recall_each-requires-clause-rising c = recalls_rise c.self.inside c.args.self.now c.args.next.state c.args.recalled.now c.self.view_is c.self.invariant c.requires.recalled

-- what the posting leaves
posted : (c : goal.After-recall_each) → Posted c.self.inside c.args.self.now c.args.next.change (record c.self.inside { store = c.commit.new.self; book = c.recall_each.new.book; index = c.recall_each.new.index })
posted c = post_keeps c.self.inside c.args.self.now c.commit.new.self c.args.next c.recall_each.new.book c.recall_each.new.index c.in_ok-version.version c.args.recalled.now
    c.self.view_is c.self.invariant c.requires.next c.requires.recalled c.in_ok-version.ensures.version c.in_ok-version.ensures.posted c.recall_each.ensures.marked c.recall_each.ensures.index

pub invariant_of-self-2 : goal.invariant_of-self-2
invariant_of-self-2 c = (posted c).kept

pub returns-clause-after : goal.returns-clause-after
returns-clause-after c = (posted c).after
