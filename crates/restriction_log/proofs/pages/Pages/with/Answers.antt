use Rattle.std.specs.Arc.{arc_slice_items}
use Rattle.restriction_log.proofs.Places.{has_group, has_item, has_place, item_written, still_paged}
use Rattle.restriction_log.proofs.pages.Pages.with.Goals as goal

pub bounds-deref-at : goal.bounds-deref-at
bounds-deref-at g c = has_group (arc_slice_items c.self.inside.groups) _ c.self.invariant _ c.self.view_is c.args.i c.requires _ c.deref.ensures.value

pub bounds-deref-at-2 : goal.bounds-deref-at-2
bounds-deref-at-2 g c =
    has_place (arc_slice_items c.self.inside.groups) _ c.self.invariant _ c.self.view_is c.args.i c.requires _ c.deref.ensures.value
    c.index-deref-at.result c.index-deref-at.is _ c.deref-2.ensures.value

pub page_with-requires : goal.page_with-requires
page_with-requires g c =
    has_item (arc_slice_items c.self.inside.groups) _ c.self.invariant _ c.self.view_is c.args.i c.requires _ c.deref.ensures.value
    c.index-deref-at.result c.index-deref-at.is _ c.deref-2.ensures.value c.index-deref-at-2.result c.index-deref-at-2.is _ c.deref-3.ensures.value

pub parts_with-requires : goal.parts_with-requires
parts_with-requires g c =
    has_place (arc_slice_items c.self.inside.groups) _ c.self.invariant _ c.self.view_is c.args.i c.requires _ c.deref.ensures.value
    c.index-deref-at.result c.index-deref-at.is _ c.deref-4.ensures.value

pub parts_with-requires-2 : goal.parts_with-requires-2
parts_with-requires-2 g c = has_group (arc_slice_items c.self.inside.groups) _ c.self.invariant _ c.self.view_is c.args.i c.requires _ c.deref-5.ensures.value

pub invariant_of-result : goal.invariant_of-result
invariant_of-result g c =
    still_paged (arc_slice_items c.self.inside.groups) _ c.self.invariant _ c.self.view_is c.args.i c.requires _ c.deref.ensures.value
    c.index-deref-at.result c.index-deref-at.is _ c.deref-2.ensures.value c.index-deref-at-2.result c.index-deref-at-2.is _ c.deref-3.ensures.value
    c.args.item _ c.in_ok-page.ensures _ c.deref-4.ensures.value (arc_slice_items c.in_ok-group.group) c.in_ok-group.ensures
    _ c.deref-5.ensures.value (arc_slice_items c.in_ok-parts_with.field-0) c.in_ok-parts_with.ensures

pub returns : goal.returns
returns g c =
    item_written (arc_slice_items c.self.inside.groups) _ c.self.invariant _ c.self.view_is c.args.i c.requires _ c.deref.ensures.value
    c.index-deref-at.result c.index-deref-at.is _ c.deref-2.ensures.value c.index-deref-at-2.result c.index-deref-at-2.is _ c.deref-3.ensures.value
    c.args.item _ c.in_ok-page.ensures _ c.deref-4.ensures.value (arc_slice_items c.in_ok-group.group) c.in_ok-group.ensures
    _ c.deref-5.ensures.value (arc_slice_items c.in_ok-parts_with.field-0) c.in_ok-parts_with.ensures
