use Rattle.std.proofs.Common.{sym, subst}
use Rattle.office_words.specs.declared.entry.Command.{Command}
use Rattle.analyst_pool.specs.Leaves.{CarriedOut}
use Rattle.analyst_pool.proofs.Attempting.{carries}
use Rattle.analyst_pool.proofs.Followings.{follows_answered}
use Rattle.analyst_pool.proofs.deciding.carry_out.Goals as goal
use Rattle.analyst_pool.proofs.deciding.carry_out.Goals.{in-Apply, in-Post, in-Day, in-Surrender, in-Show}

pub returns-clause-carried : goal.returns-clause-carried
returns-clause-carried g c = elim c.match-command.branch [
  | in-Apply w ↦ rw (w.reply-is, w.calls-is) (subst (λ (k : Command). CarriedOut (g.C.OfficeCalls.view c.args.calls.now) k w.decide_by-reply.result (g.C.OfficeCalls.view w.decide_by-reply.new.calls)) (sym w.in-Apply.is) w.decide_by-reply.ensures.decided)
  | in-Post w ↦ rw (w.reply-is, w.calls-is) (carries _ _ _ _ _ _ w.in-Post.is (λ es h. h) w.post-reply.ensures)
  | in-Day w ↦ rw (w.reply-is, w.calls-is) (carries _ _ _ _ _ _ w.in-Day.is (λ es h. h) w.day-reply.ensures)
  | in-Surrender w ↦ rw (w.reply-is, w.calls-is) (carries _ _ _ _ _ _ w.in-Surrender.is (λ es h. h) w.surrender-reply.ensures)
  | in-Show w ↦ rw (w.reply-is, w.calls-is) (carries _ _ _ _ _ _ w.in-Show.is (λ es h. h) w.show-reply.ensures)
]

pub returns-clause-follows : goal.returns-clause-follows
returns-clause-follows g c = elim c.match-command.branch [
  | in-Apply w ↦ rw (w.finder-is, w.calls-is) w.decide_by-reply.ensures.follows
  | in-Post w ↦ rw (w.finder-is, w.calls-is) (follows_answered _ (g.C.OfficeCalls.view c.args.calls.now) (g.C.OfficeCalls.view w.post-reply.new.self) _ _ w.post-reply.ensures c.requires.follows)
  | in-Day w ↦ rw (w.finder-is, w.calls-is) (follows_answered _ (g.C.OfficeCalls.view c.args.calls.now) (g.C.OfficeCalls.view w.day-reply.new.self) _ _ w.day-reply.ensures c.requires.follows)
  | in-Surrender w ↦ rw (w.finder-is, w.calls-is) (follows_answered _ (g.C.OfficeCalls.view c.args.calls.now) (g.C.OfficeCalls.view w.surrender-reply.new.self) _ _ w.surrender-reply.ensures c.requires.follows)
  | in-Show w ↦ rw (w.finder-is, w.calls-is) (follows_answered _ (g.C.OfficeCalls.view c.args.calls.now) (g.C.OfficeCalls.view w.show-reply.new.self) _ _ w.show-reply.ensures c.requires.follows)
]
