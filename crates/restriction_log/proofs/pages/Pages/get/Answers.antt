use Rattle.std.proofs.Common.{arith}
use Rattle.std.specs.Arc.{arc_slice_items}
use Rattle.restriction_log.proofs.Places.{has_group, has_item, has_place, item_read}
use Rattle.restriction_log.proofs.pages.Pages.get.Goals as goal

pub bounds-deref-at : goal.bounds-deref-at
bounds-deref-at g c = has_group (arc_slice_items c.self.inside.groups) _ c.self.invariant _ c.self.view_is c.args.i c.requires _ c.deref.ensures.value

pub bounds-deref-at-2 : goal.bounds-deref-at-2
bounds-deref-at-2 g c =
    has_place (arc_slice_items c.self.inside.groups) _ c.self.invariant _ c.self.view_is c.args.i c.requires _ c.deref.ensures.value
    c.index-deref-at.result c.index-deref-at.is _ c.deref-2.ensures.value

pub offset_bounds-deref-i : goal.offset_bounds-deref-i
offset_bounds-deref-i g c =
    let below = has_item (arc_slice_items c.self.inside.groups) _ c.self.invariant _ c.self.view_is c.args.i c.requires _ c.deref.ensures.value
    c.index-deref-at.result c.index-deref-at.is _ c.deref-2.ensures.value c.index-deref-at-2.result c.index-deref-at-2.is _ c.deref-3.ensures.value in
    omega (arith, below)

pub bounds-deref-i : goal.bounds-deref-i
bounds-deref-i g c =
    has_item (arc_slice_items c.self.inside.groups) _ c.self.invariant _ c.self.view_is c.args.i c.requires _ c.deref.ensures.value
    c.index-deref-at.result c.index-deref-at.is _ c.deref-2.ensures.value c.index-deref-at-2.result c.index-deref-at-2.is _ c.deref-3.ensures.value

pub returns : goal.returns
returns g c d =
    item_read (arc_slice_items c.self.inside.groups) _ c.self.invariant _ c.self.view_is c.args.i c.requires _ c.deref.ensures.value
    c.index-deref-at.result c.index-deref-at.is _ c.deref-2.ensures.value c.index-deref-at-2.result c.index-deref-at-2.is _ c.deref-3.ensures.value
    c.index-deref-i.result d c.index-deref-i.is
