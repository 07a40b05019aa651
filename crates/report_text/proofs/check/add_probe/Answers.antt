use Rattle.std.proofs.Common.{◌≡◌, ◌++◌, refl, append_assoc}
use Rattle.std.specs.String.{string_bytes}
use Rattle.std.proofs.lemmas.Result.{IfOk-weaker}
use Rattle.report_text.specs.Probes.{AddsOne, rating_line}
use Rattle.report_text.specs.Checks.{IsProbeText, probe_text}
use Rattle.report_text.proofs.check.add_probe.Goals as goal

pub returns : goal.returns
returns c =
    let train = c.args.train.now in
    let probe = c.args.probe.now in
    let moment = c.peak-moment in
    let shear = c.peak-shear in
    IfOk-weaker c.add_rating.result (λ _. string_bytes c.add_rating.new.text ≡ string_bytes c.add_design.new.text ++ rating_line probe.rating c.fits.result)
    (λ _. AddsOne (IsProbeText train probe) (string_bytes c.args.text.now) (string_bytes c.add_rating.new.text))
    (λ _ last. (
      probe_text probe moment.result shear.result,
      (
        moment.result,
        shear.result,
        record { peak = moment.ensures.peak; lowest = moment.ensures.small.lowest; first = moment.ensures.first },
        record { peak = shear.ensures.peak; lowest = shear.ensures.small.lowest; first = shear.ensures.first },
        refl,
      ),
      rw (last, c.in_ok-add_design.ensures, c.in_ok-add_shear.ensures, c.in_ok-add_moment.ensures, c.in_ok-add_span.ensures, c.fits.ensures.computed, c.effects-design.ensures.value) (simp append_assoc refl),
    ))
    c.add_rating.ensures
