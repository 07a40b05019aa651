use Rattle.std.proofs.Common.{◌+◌, ◌<◌, length, refl, ap, sym, subst}
use Rattle.std.specs.Arc.{arc_value}
use Rattle.std.specs.List.{All, concat}
use Rattle.permit_book.specs.Permits.{next_permit}
use Rattle.recall_index.proofs.Lists.{there_once_added}
use Rattle.recall_index.specs.Uses.{IsAdded}
use Rattle.office_core.proofs.Indexing.{index_below}
use Rattle.office_core.proofs.Registers.{issue_keeps, segments_there, undo_keeps}
use Rattle.office_core.proofs.register.Register.enter_permit.Goals as goal

pub add-requires-clause-above : goal.add-requires-clause-above
add-requires-clause-above c = let i = c.self.inside in let inv = c.self.invariant in
    index_below (length (arc_value i.base).roads.segments) i.book i.index inv.index inv.good.numbered (c.len-number.result + 1) (ap (λ k. k + 1) c.len-number.ensures.count)

pub add-requires-clause-segments : goal.add-requires-clause-segments
add-requires-clause-segments c =
    rw (c.all-segments.ensures, c.in_ok-routes.ensures.cases) (segments_there c.self.inside c.args.self.now (concat c.args.trip.routes) c.self.view_is c.self.invariant c.requires.segments)

pub invariant_of-self-in-Ok : goal.invariant_of-self-in-Ok
invariant_of-self-in-Ok c =
    let added : IsAdded c.self.inside.index (c.len-number.result + 1) (concat c.args.trip.routes) c.add.new.self = rw (c.all-segments.ensures, c.in_ok-routes.ensures.cases) at c.in_ok-add.ensures.added in
    issue_keeps c.self.inside c.args.self.now c.issue.new.self c.add.new.self (next_permit c.self.inside.book c.args.trip c.version-version.result c.args.seen) c.self.view_is c.self.invariant refl refl
    c.requires.truck c.requires.segments c.requires.meets (rw c.len-number.ensures.count at added) c.in-Ok.ensures.issued

pub remove-requires-clause-segments : goal.remove-requires-clause-segments
remove-requires-clause-segments c =
    rw (c.all-segments.ensures, c.in_ok-routes.ensures.cases) (subst (λ k. All (λ s. s < k) (concat c.args.trip.routes)) (sym c.in_ok-add.ensures.added.many) (segments_there c.self.inside c.args.self.now (concat c.args.trip.routes) c.self.view_is c.self.invariant c.requires.segments))

pub remove-requires-clause-there : goal.remove-requires-clause-there
remove-requires-clause-there c = let i = c.self.inside in let inv = c.self.invariant in
    there_once_added i.index c.add.new.self (c.len-number.result + 1) c.all-segments.result.now
    (index_below (length (arc_value i.base).roads.segments) i.book i.index inv.index inv.good.numbered (c.len-number.result + 1) (ap (λ k. k + 1) c.len-number.ensures.count)) c.in_ok-add.ensures.added

pub invariant_of-self-in-Err-NoMemory : goal.invariant_of-self-in-Err-NoMemory
invariant_of-self-in-Err-NoMemory c =
    undo_keeps c.self.inside c.issue.new.self c.add.new.self c.remove.new.self (c.len-number.result + 1) c.all-segments.result.now c.self.invariant (ap (λ k. k + 1) c.len-number.ensures.count) c.in_ok-add.ensures.added c.remove.ensures c.in-Err-NoMemory.ensures.unchanged
