use Rattle.std.proofs.Common.{◌≡◌, ◌+◌, ◌-◌, ◌*◌, ◌∷◌, ◌++◌}
use Rattle.day_maker.specs.Made.{more_axles}
use Rattle.day_maker.proofs.traffic.draw_axles.Given as goal

abbrev pub invariant-axles : goal.invariant-axles
invariant-axles l = record {
  train : l.train.items ++ (more_axles (l.more - l.i) (180 + 54 * l.i) l.page.number).0 ≡ record { place = 0; weight = 12000 } ∷ (more_axles l.more 180 l.fn.page.number).0;
  number : (more_axles (l.more - l.i) (180 + 54 * l.i) l.page.number).1 ≡ (more_axles l.more 180 l.fn.page.number).1;
  text : l.page.text ≡ l.fn.page.text;
}
