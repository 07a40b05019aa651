use Rattle.std.proofs.Common.{rules, arith}
use Rattle.std.proofs.lemmas.List.{take_all}
use Rattle.std.specs.String.{string_bytes}
use Rattle.report_text.specs.Probes.{AddsOne, AreTexts}
use Rattle.report_text.proofs.Texts.{adds_next}
use Rattle.report_text.specs.Designs.{IsDesignText}
use Rattle.report_text.proofs.OneDesign.{one_design}
use Rattle.report_text.proofs.design.design_report.Goals as goal

pub loop-probe-preserved : goal.loop-probe-preserved
loop-probe-preserved c = adds_next (IsDesignText c.train-train.result.now) _ _ _ _ _ _ (omega arith) c.loop-probe.invariant c.in_ok-add_probe.ensures

pub returns-clause-only : goal.returns-clause-only
returns-clause-only c = λ other h.
    let file = c.args.file.now in
    let probes = c.as_slice-probes.result.now in
    let added : AddsOne (AreTexts (IsDesignText c.train-train.result.now) probes) (string_bytes c.new-text.result) (string_bytes c.loop-probe.text) =
    rw (take_all c.loop-probe.probe-index probes c.loop-probe-test.false) at c.loop-probe.invariant in
    one_design file.truck.load.train file.probes other (string_bytes c.loop-probe.text) c.train-train.ensures.bounds c.as_slice-probes.ensures.spans h (search rules)
