use Rattle.std.proofs.Common.{rules, arith}
use Rattle.std.proofs.lemmas.List.{take_all}
use Rattle.std.specs.String.{string_bytes}
use Rattle.report_text.specs.Probes.{AddsOne, AreTexts}
use Rattle.report_text.proofs.Texts.{adds_next}
use Rattle.report_text.specs.Convoys.{IsConvoyText}
use Rattle.report_text.proofs.OneConvoy.{one_convoy}
use Rattle.report_text.proofs.convoy.convoy_report.Goals as goal

pub loop-probe-preserved : goal.loop-probe-preserved
loop-probe-preserved c = adds_next (IsConvoyText c.args.convoy.now) _ _ _ _ _ _ (omega arith) c.loop-probe.invariant c.in_ok-add_probe.ensures

pub returns-clause-only : goal.returns-clause-only
returns-clause-only c = λ other h.
    let probes = c.as_slice-probes.result.now in
    let added : AddsOne (AreTexts (IsConvoyText c.args.convoy.now) probes) (string_bytes c.write.new.self) (string_bytes c.loop-probe.text) =
    rw (take_all c.loop-probe.probe-index probes c.loop-probe-test.false) at c.loop-probe.invariant in
    one_convoy c.args.convoy.now c.args.probes.now other (string_bytes c.loop-probe.text) c.as_slice-probes.ensures.spans h (search rules)
