use Rattle.std.proofs.Common.{take}
use Rattle.std.specs.String.{string_bytes}
use Rattle.report_text.specs.Probes.{AddsOne, AreTexts}
use Rattle.report_text.specs.Checks.{IsProbeText}
use Rattle.report_text.proofs.check.report.Given as goal

abbrev pub invariant-loop-probe : goal.invariant-loop-probe
invariant-loop-probe l =
    AddsOne (AreTexts (IsProbeText l.train) (take l.probe-index l.probes)) (string_bytes l.initial.text) (string_bytes l.text)
