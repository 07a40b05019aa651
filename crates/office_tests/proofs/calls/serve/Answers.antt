use Rattle.std.proofs.Common.{IfSome, subst}
use Rattle.office_core.specs.Machine.{MayAsk}
use Rattle.office_core.specs.Offices.{Opened, machine_in}
use Rattle.office_core.proofs.Lists.{IfSome-weaker}
use Rattle.office_tests.proofs.calls.serve.Goals as goal

pub returns : goal.returns
returns g c =
    let found = c.call_of-call.new.found in
    let kept : IfSome found (MayAsk c.args.office.now.office.base (machine_in c.args.office.now.office)) =
    subst (λ (o : Opened). IfSome found (MayAsk o.base (machine_in o))) c.office.ensures c.call_of-call.ensures.found in
    IfSome-weaker _ (MayAsk c.args.office.now.office.base (machine_in c.args.office.now.office))
    (MayAsk c.answer_counted-reply.new.office.office.base (machine_in c.answer_counted-reply.new.office.office)) c.answer_counted-reply.ensures kept
