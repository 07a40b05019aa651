use Rattle.std.proofs.Common.{◌<◌, length, min, map, sym, ap, arith, ◌∙◌}
use Rattle.std.specs.Slice.Iter.{chunks_rest, chunks_size}
use Rattle.std.proofs.lemmas.List.{length-map, map-append}
use Rattle.std.specs.Arc.{arc_slice_items}
use Rattle.restriction_log.specs.Pages.{as_pages}
use Rattle.restriction_log.proofs.Paging.{cut_none, cut_more, cut_all, map_pushed, same_by}
use Rattle.restriction_log.proofs.page.groups_of.Goals as goal

pub groups-init : goal.groups-init
groups-init g c =
    let size = ap chunks_size c.into_iter-chunk-iterator.ensures.into_iter_gives ∙ c.chunks-chunk-items.ensures.size in
    let rest = ap chunks_rest c.into_iter-chunk-iterator.ensures.into_iter_gives ∙ c.chunks-chunk-items.ensures.rest in
    record { size = size; cut = rw (rest, c.new-groups.ensures.items) (cut_none 16 _) }

pub groups-preserved : goal.groups-preserved
groups-preserved g c =
    let (size, rest) = c.in-Some.ensures.steps in
    let (cut, many, some) = rest in
    let before = c.groups.invariant in
    let left = c.groups.chunk-iterator.rest.now in
    let old = c.groups.groups.items in let group = c.in_ok-from_clones.field-0 in
    let same = same_by arc_slice_items _ _ c.in_ok-from_clones.ensures.ok in
    let more : 0 < length (as_pages left) = omega (arith, some, length-map left arc_slice_items) in
    let parted = ap as_pages cut ∙ map-append arc_slice_items _ _ in
    let chunk = length-map _ arc_slice_items ∙ (many ∙ (ap (λ n. min n (length left)) before.size ∙ ap (min 16) (sym (length-map left arc_slice_items)))) in
    let pushed = map_pushed as_pages (map arc_slice_items old) _ (arc_slice_items group) (map_pushed arc_slice_items old _ group c.in_ok-push.ensures.items) in
    record { size = size ∙ before.size; cut = cut_more 16 _ _ _ _ _ _ _ before.cut more parted chunk same pushed }

pub returns-clause-pages : goal.returns-clause-pages
returns-clause-pages g c =
    cut_all 16 _ _ _ c.groups.invariant.cut (length-map _ arc_slice_items ∙ c.in-None.ensures.steps.1.0)

pub returns-clause-parts : goal.returns-clause-parts
returns-clause-parts g c = c.groups.invariant.cut.parts
