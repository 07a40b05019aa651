-- A check file has one report.
use Rattle.std.proofs.Common.{◌≡◌, ◌∙◌, ◌++◌, ℕ, List, ap, sym}
use Rattle.std.proofs.lemmas.List.Elements.{recursion_from_All}
use Rattle.axle_train.specs.Bounds.{IsTrain}
use Rattle.axle_train.specs.declared.axle.Axle.{Axle}
use Rattle.moment_peak.proofs.OnePeak.{moment_peak_is_one}
use Rattle.shear_peak.proofs.OneShear.{shear_peak_is_one}
use Rattle.day_text.specs.declared.check_file.Probe.{Probe}
use Rattle.day_text.specs.Spans.{IsProbeSpan}
use Rattle.report_text.specs.Checks.{IsProbeText, ReportIsOne, probe_text, truck_text}
use Rattle.report_text.proofs.Texts.{texts_are_one}

one_probe : (axles : List Axle) (probe : Probe) (a b : List ℕ) → IsTrain axles → IsProbeSpan probe → IsProbeText axles probe a → IsProbeText axles probe b → a ≡ b
one_probe axles probe a b train span h k =
    let (m, s, is_m, is_s, text) = h in
    let (m', s', is_m', is_s', text') = k in
    let moment = moment_peak_is_one axles probe.inches m m' train span.some is_m is_m' in
    let shear = shear_peak_is_one axles probe.inches s s' span.some is_s is_s' in
    text ∙ (ap (λ x. probe_text probe x s) moment ∙ (ap (λ x. probe_text probe m' x) shear ∙ sym text'))

pub one_report : ReportIsOne
one_report file train spans a b h k =
    let axles = file.truck.load.train in
    let each = λ (probe : Probe) (one other : List ℕ) (span : IsProbeSpan probe). one_probe axles probe one other train span in
    let (probes, are, text) = h in
    let (probes', are', text') = k in
    let same = texts_are_one (IsProbeText axles) IsProbeSpan each file.probes probes probes'
    (recursion_from_All IsProbeSpan file.probes spans) are are' in
    text ∙ (ap (λ x. truck_text file.truck ++ x) same ∙ sym text')
