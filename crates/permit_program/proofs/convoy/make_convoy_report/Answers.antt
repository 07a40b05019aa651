use Rattle.std.proofs.Common.{◌≡◌, List, None, ℕ, Vec, ap, sym, subst}
use Rattle.std.specs.Global.{Global}
use Rattle.std.specs.String.{string_bytes}
use Rattle.convoy_moves.specs.Convoys.{EqualTrucks, convoy_of}
use Rattle.convoy_moves.specs.Refusals.{first_refusal}
use Rattle.report_text.specs.Convoys.{IsConvoyReport, IsOnlyConvoyReport}
use Rattle.permit_program.specs.Convoy.{convoy}
use Rattle.permit_program.specs.Command.{Makes}
use Rattle.permit_program.proofs.Only.{convoy_made}
use Rattle.permit_program.proofs.convoy.make_convoy_report.Goals as goal

pub returns-clause-made : goal.returns-clause-made
returns-clause-made c =
    let file = c.in-Ok.file in
    let trucks = c.args.options.trucks in
    let gap = c.args.options.gap in
    let text = string_bytes c.in_ok-text.text in
    let train = c.train.ensures.value in
    let same = subst (λ axles. c.in-Ok-new.convoy ≡ convoy_of axles trucks gap) train c.in-Ok-new.ensures.ok in
    let none = subst (λ axles. first_refusal (convoy_of axles trucks gap) ≡ None) train c.in-Ok-new.ensures.unrefused in
    let report = subst (λ (trucks : EqualTrucks). IsConvoyReport trucks file.probes text) same c.in_ok-text.ensures.report in
    let only = subst (λ (trucks : EqualTrucks). IsOnlyConvoyReport trucks file.probes text) same c.in_ok-text.ensures.only in
    subst (λ (t : List ℕ). Makes (convoy trucks gap) c.args.bytes.now t)
    (sym (ap (λ (v : Vec ℕ Global). v.items) c.into_bytes.ensures.value))
    (convoy_made trucks gap c.args.bytes.now file c.in-Ok.ensures.ok text none report only)
