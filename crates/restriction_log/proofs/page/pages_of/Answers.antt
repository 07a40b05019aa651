use Rattle.std.proofs.Common.{length, min, ap, ◌∙◌}
use Rattle.std.specs.Slice.Iter.{chunks_rest, chunks_size}
use Rattle.std.specs.Arc.{arc_slice_items}
use Rattle.restriction_log.proofs.Paging.{cut_none, cut_more, cut_all, map_pushed}
use Rattle.restriction_log.proofs.page.pages_of.Goals as goal

pub pages-init : goal.pages-init
pages-init g c =
    let size = ap chunks_size c.into_iter-chunk-iterator.ensures.into_iter_gives ∙ c.chunks-chunk-items.ensures.size in
    let rest = ap chunks_rest c.into_iter-chunk-iterator.ensures.into_iter_gives ∙ c.chunks-chunk-items.ensures.rest in
    record { size = size; cut = rw (rest, c.new-pages.ensures.items) (cut_none 64 _) }

pub pages-preserved : goal.pages-preserved
pages-preserved g c =
    let (size, rest) = c.in-Some.ensures.steps in
    let (cut, many, some) = rest in
    let before = c.pages.invariant in
    let old = c.pages.pages.items in let page = c.in_ok-from_slice.field-0 in
    let chunk = many ∙ ap (λ n. min n (length c.pages.chunk-iterator.rest.now)) before.size in
    let pushed = map_pushed arc_slice_items old _ page c.in_ok-push.ensures.items in
    record { size = size ∙ before.size; cut = cut_more 64 _ _ _ _ _ _ _ before.cut some cut chunk c.in_ok-from_slice.ensures.ok pushed }

pub returns-clause-items : goal.returns-clause-items
returns-clause-items g c = cut_all 64 _ _ _ c.pages.invariant.cut c.in-None.ensures.steps.1.0

pub returns-clause-parts : goal.returns-clause-parts
returns-clause-parts g c = c.pages.invariant.cut.parts
