-- A convoy has one report on some probes.
use Rattle.std.proofs.Common.{◌≡◌, ◌∙◌, ◌++◌, ℕ, List, ap, sym}
use Rattle.std.proofs.lemmas.List.Elements.{recursion_from_All}
use Rattle.convoy_moves.specs.Convoys.{EqualTrucks, IsConvoyPlaced}
use Rattle.influence_line.proofs.Unique.{moment_unique, shear_unique}
use Rattle.day_text.specs.declared.check_file.Probe.{Probe}
use Rattle.day_text.specs.Spans.{AreSpans, IsProbeSpan}
use Rattle.report_text.proofs.Texts.{texts_are_one}
use Rattle.report_text.specs.Convoys.{IsConvoyReport, IsConvoyText, convoy_line, convoy_text}

one_probe : (c : EqualTrucks) (probe : Probe) (a b : List ℕ) → IsProbeSpan probe → IsConvoyText c probe a → IsConvoyText c probe b → a ≡ b
one_probe c probe a b span h k =
    let Allowed = IsConvoyPlaced c in
    let moment = moment_unique Allowed probe.inches h.convoy.moment k.convoy.moment span.some
    h.peaks.small.moment.lowest k.peaks.small.moment.lowest h.peaks.moment k.peaks.moment in
    let shear = shear_unique Allowed probe.inches h.convoy.shear k.convoy.shear span.some
    h.peaks.small.shear.lowest k.peaks.small.shear.lowest h.peaks.shear k.peaks.shear in
    let effects : h.convoy ≡ k.convoy = λ i. record { moment = moment i; shear = shear i } in
    h.lines ∙ (ap (convoy_text probe) effects ∙ sym k.lines)

pub one_convoy : (c : EqualTrucks) (probes : List Probe) (a b : List ℕ) → AreSpans probes
    → IsConvoyReport c probes a → IsConvoyReport c probes b → a ≡ b
one_convoy c probes a b spans h k =
    let same = texts_are_one (IsConvoyText c) IsProbeSpan (one_probe c) probes h.texts k.texts
    (recursion_from_All IsProbeSpan probes spans) h.each k.each in
    h.lines ∙ (ap (λ x. convoy_line c ++ x) same ∙ sym k.lines)
