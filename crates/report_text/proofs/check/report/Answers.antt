use Rattle.std.proofs.Common.{rules, arith}
use Rattle.std.proofs.lemmas.List.{take_all}
use Rattle.std.specs.String.{string_bytes}
use Rattle.report_text.specs.Probes.{AddsOne, AreTexts}
use Rattle.report_text.specs.Checks.{IsProbeText}
use Rattle.report_text.proofs.Texts.{adds_next}
use Rattle.report_text.proofs.check.report.Goals as goal

pub loop-probe-preserved : goal.loop-probe-preserved
loop-probe-preserved c = adds_next (IsProbeText c.train-train.result.now) _ _ _ _ _ _ (omega arith) c.loop-probe.invariant c.in_ok-add_probe.ensures

pub returns-clause-only : goal.returns-clause-only
returns-clause-only c = λ other h.
    let probes = c.as_slice-probes.result.now in
    let added : AddsOne (AreTexts (IsProbeText c.train-train.result.now) probes) (string_bytes c.in_ok-text.text) (string_bytes c.loop-probe.text) =
    rw (take_all c.loop-probe.probe-index probes c.loop-probe-test.false) at c.loop-probe.invariant in
    c.report_is_one.ensures c.args.file.now c.train-train.ensures.bounds c.as_slice-probes.ensures.spans other (string_bytes c.loop-probe.text) h (search rules)
