use Rattle.std.proofs.Common.{arith, ◌<◌, ℕ, List, All, length, ap, sym, subst}
use Rattle.day_text.specs.Scripts.{AreScripts}
use Rattle.day_text.specs.declared.orders.Order.{Order}
use Rattle.day_text.proofs.day_file.DayFile.into_scripts.Goals as goal

pub scripts_of-requires : goal.scripts_of-requires
scripts_of-requires c = let p = c.into_parts-base in
    subst (λ (n : ℕ). All (λ (o : Order). o.actor < n) p.result.3.items) (omega (arith, c.len-count.ensures, p.result.2.ok.0, ap length p.ensures.actors))
    (subst (λ (orders : List Order). All (λ (o : Order). o.actor < length c.args.self.actors) orders) (sym p.ensures.commands) c.requires.callers)

pub returns-in-Ok-clause-base : goal.returns-in-Ok-clause-base
returns-in-Ok-clause-base c = c.into_parts-base.ensures.base

pub returns-in-Ok-clause-day : goal.returns-in-Ok-clause-day
returns-in-Ok-clause-day c = c.into_parts-base.ensures.day

pub returns-in-Ok-clause-count : goal.returns-in-Ok-clause-count
returns-in-Ok-clause-count c = omega (arith, c.in-Ok.ensures.count, c.len-count.ensures, c.into_parts-base.result.2.ok.0, ap length c.into_parts-base.ensures.actors)

pub returns-in-Ok-clause-scripts : goal.returns-in-Ok-clause-scripts
returns-in-Ok-clause-scripts c = subst (λ (orders : List Order). AreScripts c.in-Ok.scripts.items orders) c.into_parts-base.ensures.commands c.in-Ok.ensures.scripts
