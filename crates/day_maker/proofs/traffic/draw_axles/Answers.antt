use Rattle.std.proofs.Common.{◌∙◌, ap}
use Rattle.day_maker.specs.Texts.{PageParts}
use Rattle.day_maker.proofs.Pages.{axles_number, axles_step}
use Rattle.day_maker.proofs.traffic.draw_axles.Goals as goal

pub axles-preserved : goal.axles-preserved
axles-preserved c = record {
  train = axles_step c.axles.i c.args.more c.axles.page c.draw.new.self c.draw.result c.axles.train.items c.push-in-axles.new.self.items _ c.axles-test.true c.draw.ensures.value c.draw.ensures.next c.in_ok-push-2.ensures.items c.axles.invariant.train;
  number = axles_number c.axles.i c.args.more _ c.axles.page c.draw.new.self c.axles-test.true c.draw.ensures.next c.axles.invariant.number;
  text = ap (λ (p : PageParts). p.text) c.draw.ensures.next ∙ c.axles.invariant.text;
}
