use Rattle.std.proofs.Common.{◌≡◌, ◌-◌, ◌*◌}
use Rattle.day_maker.specs.Making.{each}
use Rattle.day_maker.specs.Made.{command}
use Rattle.day_maker.specs.Texts.{page_after}
use Rattle.day_maker.proofs.traffic.put_commands.Given as goal

abbrev pub invariant-commands : goal.invariant-commands
invariant-commands l = page_after (each l.counter (20 * l.size - l.counter) (λ i. command l.size)) l.page ≡ page_after (each 0 (20 * l.size) (λ i. command l.size)) l.fn.page
