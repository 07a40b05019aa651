use Rattle.std.proofs.Common.{◌≡◌, ◌++◌, refl, rules, append_assoc}
use Rattle.std.specs.String.{string_bytes}
use Rattle.std.proofs.lemmas.Result.{IfOk-weaker}
use Rattle.report_text.specs.Probes.{AddsOne, rating_line}
use Rattle.report_text.specs.Designs.{IsDesignText, design_text, governing_moment_line, governing_shear_line}
use Rattle.report_text.proofs.design.add_probe.Goals as goal

pub returns : goal.returns
returns c =
    let train = c.args.train.now in
    let probe = c.args.probe.now in
    let truck = c.effects_of-truck.result in
    let design = c.greatest-design.result in
    let moment : string_bytes c.write.new.self ≡ string_bytes c.add_span.new.text ++ governing_moment_line design.moment design.moment_by = search rules in
    let shear : string_bytes c.write-2.new.self ≡ string_bytes c.write.new.self ++ governing_shear_line design.shear design.shear_by = search rules in
    IfOk-weaker c.add_rating.result (λ _. string_bytes c.add_rating.new.text ≡ string_bytes c.write-2.new.self ++ rating_line probe.rating c.fits_greatest.result)
    (λ _. AddsOne (IsDesignText train probe) (string_bytes c.args.text.now) (string_bytes c.add_rating.new.text))
    (λ _ last. (
      design_text probe truck design,
      record { truck = truck; design = design; peaks = c.effects_of-truck.ensures.peaks; greatest = c.greatest-design.ensures.greatest; lines = refl },
      rw (last, shear, moment, c.in_ok-add_span.ensures, c.fits_greatest.ensures.computed) (simp append_assoc refl),
    ))
    c.add_rating.ensures
