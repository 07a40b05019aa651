use Rattle.std.proofs.Common.{◌≡◌, ◌++◌, refl, rules, append_assoc}
use Rattle.std.specs.String.{string_bytes}
use Rattle.std.proofs.lemmas.Result.{IfOk-weaker}
use Rattle.span_rating.specs.Loading.{AreEffects}
use Rattle.span_rating.specs.declared.loading.Effects.{Effects}
use Rattle.convoy_moves.specs.Convoys.{IsConvoyPlaced}
use Rattle.report_text.specs.Probes.{AddsOne, rating_line}
use Rattle.report_text.specs.Convoys.{IsConvoyText, convoy_text, moment_fraction_line, shear_fraction_line}
use Rattle.report_text.proofs.convoy.add_probe.Goals as goal

pub returns : goal.returns
returns c =
    let convoy = c.args.convoy.now in
    let probe = c.args.probe.now in
    let peaks : Effects = record { moment = c.moment-moment.result; shear = c.shear-shear.result } in
    let reached : AreEffects (IsConvoyPlaced convoy) probe.inches peaks = search rules in
    let moment : string_bytes c.write.new.self ≡ string_bytes c.add_span.new.text ++ moment_fraction_line peaks.moment = search rules in
    let shear : string_bytes c.write-2.new.self ≡ string_bytes c.write.new.self ++ shear_fraction_line peaks.shear = search rules in
    IfOk-weaker c.add_rating.result (λ _. string_bytes c.add_rating.new.text ≡ string_bytes c.write-2.new.self ++ rating_line probe.rating c.fits.result)
    (λ _. AddsOne (IsConvoyText convoy probe) (string_bytes c.args.text.now) (string_bytes c.add_rating.new.text))
    (λ _ last. (
      convoy_text probe peaks,
      record { convoy = peaks; peaks = reached; lines = refl },
      rw (last, shear, moment, c.in_ok-add_span.ensures, c.fits.ensures.computed, c.effects-design.ensures.value) (simp append_assoc refl),
    ))
    c.add_rating.ensures
