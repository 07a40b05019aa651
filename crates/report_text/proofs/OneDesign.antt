-- A check file has one report of `design`.
use Rattle.std.proofs.Common.{◌≡◌, ◌∙◌, ℕ, List, ap, sym}
use Rattle.std.proofs.lemmas.List.Elements.{recursion_from_All}
use Rattle.axle_train.specs.Bounds.{IsTrain}
use Rattle.axle_train.specs.declared.axle.Axle.{Axle}
use Rattle.hs20_truck.proofs.OneEffects.{effects_are_one}
use Rattle.design_loads.proofs.Choosing.{greatest_is_one}
use Rattle.day_text.specs.declared.check_file.Probe.{Probe}
use Rattle.day_text.specs.Spans.{AreSpans, IsProbeSpan}
use Rattle.report_text.specs.Probes.{AreTexts}
use Rattle.report_text.proofs.Texts.{texts_are_one}
use Rattle.report_text.specs.Designs.{IsDesignText, design_text}

one_probe : (axles : List Axle) (probe : Probe) (a b : List ℕ) → IsTrain axles → IsProbeSpan probe
    → IsDesignText axles probe a → IsDesignText axles probe b → a ≡ b
one_probe axles probe a b train span h k =
    let truck = effects_are_one axles probe.inches h.truck train span.some span.long h.peaks
    ∙ sym (effects_are_one axles probe.inches k.truck train span.some span.long k.peaks) in
    let design = greatest_is_one probe.inches h.design span.some span.long h.greatest
    ∙ sym (greatest_is_one probe.inches k.design span.some span.long k.greatest) in
    h.lines ∙ (ap (λ x. design_text probe x h.design) truck ∙ (ap (λ x. design_text probe k.truck x) design ∙ sym k.lines))

pub one_design : (axles : List Axle) (probes : List Probe) (a b : List ℕ) → IsTrain axles → AreSpans probes
    → AreTexts (IsDesignText axles) probes a → AreTexts (IsDesignText axles) probes b → a ≡ b
one_design axles probes a b train spans =
    let each = λ (probe : Probe) (one other : List ℕ) (span : IsProbeSpan probe). one_probe axles probe one other train span in
    texts_are_one (IsDesignText axles) IsProbeSpan each probes a b (recursion_from_All IsProbeSpan probes spans)
