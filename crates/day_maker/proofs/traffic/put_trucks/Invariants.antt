use Rattle.std.proofs.Common.{◌≡◌, ◌-◌}
use Rattle.day_maker.specs.Making.{each}
use Rattle.day_maker.specs.Made.{truck}
use Rattle.day_maker.specs.Texts.{page_after}
use Rattle.day_maker.proofs.traffic.put_trucks.Given as goal

abbrev pub invariant-trucks : goal.invariant-trucks
invariant-trucks l = page_after (each l.t (5 - l.t) (truck)) l.page ≡ page_after (each 1 (4) (truck)) l.fn.page
