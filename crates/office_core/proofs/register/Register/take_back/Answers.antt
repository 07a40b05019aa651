use Rattle.std.proofs.Common.{◌≡◌, true, length, refl, ap, ◌∙◌}
use Rattle.std.specs.Arc.{arc_value}
use Rattle.permit_book.specs.Permits.{in_force, is_issued, is_live, permit_of}
use Rattle.permit_book.specs.declared.permit.Mark.TheVariants as mark
use Rattle.office_core.specs.Machine.{machine_at}
use Rattle.office_core.specs.Registers.{RegisterParts}
use Rattle.office_core.proofs.Forces.{live_in_force}
use Rattle.office_core.proofs.Goods.{good_surrendered}
use Rattle.office_core.proofs.Indexing.{found_at, index_inside, index_marked, index_there}
use Rattle.office_core.proofs.register.Register.take_back.Goals as goal

pub remove-requires-clause-segments : goal.remove-requires-clause-segments
remove-requires-clause-segments c = let i = c.self.inside in let inv = c.self.invariant in
    let issued : is_issued i.book c.args.number ≡ true = ap (λ (q : RegisterParts). is_issued q.machine.permits c.args.number) c.self.view_is ∙ c.requires.issued in
    rw c.all.ensures (index_inside (length (arc_value i.base).roads.segments) i.book i.index inv.index inv.good.numbered c.args.number issued c.index-permits-number.result
    (found_at c.permits.result.now i.book c.args.number c.index-permits-number.result c.permits.ensures.permits issued c.index-permits-number.is))

pub remove-requires-clause-there : goal.remove-requires-clause-there
remove-requires-clause-there c = let i = c.self.inside in let inv = c.self.invariant in
    let issued : is_issued i.book c.args.number ≡ true = ap (λ (q : RegisterParts). is_issued q.machine.permits c.args.number) c.self.view_is ∙ c.requires.issued in
    let live : is_live (permit_of i.book c.args.number).mark ≡ true =
    live_in_force (permit_of i.book c.args.number) i.day (ap (λ (q : RegisterParts). in_force q.machine.day (permit_of q.machine.permits c.args.number)) c.self.view_is ∙ c.requires.in_force) in
    rw c.all.ensures (index_there (length (arc_value i.base).roads.segments) i.book i.index inv.index inv.good.numbered c.args.number issued c.index-permits-number.result
    (found_at c.permits.result.now i.book c.args.number c.index-permits-number.result c.permits.ensures.permits issued c.index-permits-number.is) live)

pub surrender-requires-clause-issued : goal.surrender-requires-clause-issued
surrender-requires-clause-issued c = ap (λ (q : RegisterParts). is_issued q.machine.permits c.args.number) c.self.view_is ∙ c.requires.issued

pub surrender-requires-clause-live : goal.surrender-requires-clause-live
surrender-requires-clause-live c = let i = c.self.inside in
    live_in_force (permit_of i.book c.args.number) i.day (ap (λ (q : RegisterParts). in_force q.machine.day (permit_of q.machine.permits c.args.number)) c.self.view_is ∙ c.requires.in_force)

pub invariant_of-self : goal.invariant_of-self
invariant_of-self c = let i = c.self.inside in let inv = c.self.invariant in
    let issued : is_issued i.book c.args.number ≡ true = ap (λ (q : RegisterParts). is_issued q.machine.permits c.args.number) c.self.view_is ∙ c.requires.issued in record {
      roads = inv.roads;
      good = rw c.surrender.ensures (good_surrendered (arc_value i.base) (machine_at i.store.postings i.book i.day) c.args.number inv.good);
      store = inv.store;
      follower = inv.follower;
      later = inv.later;
      index = rw c.surrender.ensures
          (index_marked (length (arc_value i.base).roads.segments) i.book i.index inv.index inv.good.numbered c.args.number issued c.remove.new.self mark.Surrendered refl c.remove.ensures);
    }
