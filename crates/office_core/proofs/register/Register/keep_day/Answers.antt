use Rattle.std.proofs.Common.{ap, ◌∙◌}
use Rattle.std.specs.Arc.{arc_value}
use Rattle.permit_days.specs.Days.{is_before}
use Rattle.office_core.specs.Machine.{machine_at}
use Rattle.office_core.specs.Registers.{RegisterParts}
use Rattle.office_core.proofs.Goods.{good_day}
use Rattle.office_core.proofs.register.Register.keep_day.Goals as goal

pub invariant_of-self : goal.invariant_of-self
invariant_of-self c = let i = c.self.inside in let inv = c.self.invariant in record {
  roads = inv.roads;
  good = good_day (arc_value i.base) (machine_at i.store.postings i.book i.day) c.args.day (ap (λ (q : RegisterParts). is_before c.args.day q.machine.day) c.self.view_is ∙ c.requires) inv.good;
  store = inv.store;
  follower = inv.follower;
  later = inv.later;
  index = inv.index;
}
