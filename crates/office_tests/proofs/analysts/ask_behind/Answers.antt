use Rattle.std.proofs.Common.{ap, sym, subst}
use Rattle.office_core.specs.Calls.{Answered}
use Rattle.office_core.specs.Counted.{Counted}
use Rattle.analyst_pool.specs.Interrupted.{shared}
use Rattle.analyst_pool.proofs.Interrupting.{answered_as, asked_at, from_seat}
use Rattle.office_tests.proofs.analysts.ask_behind.Goals as goal

pub ask-reply-requires : goal.ask-reply-requires
ask-reply-requires g c = asked_at _ _ _ c.args.asked (ap (λ o. o.office) c.new-seat.ensures.office) c.post.ensures c.requires

-- the seat that is gone was the office's, so the office is what the seat left
pub returns : goal.returns
returns g c =
    let by = from_seat _ _ _ _ 0 _ _ _ _ _ (ap (λ o. o.office) c.new-seat.ensures.office) c.new-seat.ensures.caller c.ask-reply.ensures.answered in
    let done = answered_as _ _ _ _ _ _ _ c.post.ensures by c.unless_full.ensures.value c.unless_full.ensures.room in
    let held = ap (λ t. t.reference) c.ask-reply.ensures.answered.who in
    subst (λ (o : Counted). Answered (shared 0 c.args.office.now.office) c.args.asked c.unless_full.result (shared 0 o.office)) (sym (c.office-1.given.1 (cc (held, c.new-seat.ensures.reference)))) done
