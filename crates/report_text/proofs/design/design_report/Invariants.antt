use Rattle.std.proofs.Common.{take}
use Rattle.std.specs.String.{string_bytes}
use Rattle.report_text.specs.Probes.{AddsOne, AreTexts}
use Rattle.report_text.specs.Designs.{IsDesignText}
use Rattle.report_text.proofs.design.design_report.Given as goal

abbrev pub invariant-loop-probe : goal.invariant-loop-probe
invariant-loop-probe l =
    AddsOne (AreTexts (IsDesignText l.train) (take l.probe-index l.probes)) (string_bytes l.initial.text) (string_bytes l.text)
