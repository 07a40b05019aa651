use Rattle.std.proofs.Common.{◌≡◌, ◌+◌, ◌-◌}
use Rattle.day_maker.specs.Making.{each}
use Rattle.day_maker.specs.Made.{joining_segments}
use Rattle.day_maker.specs.Texts.{page_after}
use Rattle.day_maker.proofs.roads.put_segments.Given as goal

abbrev pub invariant-rows : goal.invariant-rows
invariant-rows l = page_after (each l.r (l.size + 1 - l.r) (λ r. each 0 (l.size + 1) (λ k. joining_segments l.size r k))) l.page ≡ page_after (each 0 (l.size + 1) (λ r. each 0 (l.size + 1) (λ k. joining_segments l.size r k))) l.fn.page

abbrev pub invariant-columns : goal.invariant-columns
invariant-columns l = page_after (each l.c (l.size + 1 - l.c) (λ k. joining_segments l.size l.r k)) l.page ≡ page_after (each 0 (l.size + 1) (λ k. joining_segments l.size l.r k)) l.initial.page
