use Rattle.std.proofs.Common.{◌+◌, ◌++◌, ap, sym, ◌∙◌, arith}
use Rattle.office_core.specs.Calls.{Who}
use Rattle.office_core.proofs.Callings.{has_room}
use Rattle.analyst_pool.proofs.Scripts.{grew_to, through_all, through_more, through_none, went_to}
use Rattle.analyst_pool.proofs.worker.carry_out_all.Goals as goal

pub loop-asked-init : goal.loop-asked-init
loop-asked-init g c = record { number = c.requires.first; through = through_none _ _; follows = c.requires.follows }

pub carry_out-requires-clause-base : goal.carry_out-requires-clause-base
carry_out-requires-clause-base g c = c.requires.base ∙ sym (ap (λ (t : Who g.row.C-Place.Denot). t.base) c.loop-asked.invariant.through.grew.who)

pub overflow_add-command : goal.overflow_add-command
overflow_add-command g c = omega (arith, c.requires.short, c.loop-asked-test.true, c.loop-asked.invariant.number)

pub returns-in-NoMemory : goal.returns-in-NoMemory
returns-in-NoMemory g c = let so_far = c.loop-asked.invariant in let one = c.carry_out.ensures.carried in
    record {
      ended = λ waits. absurd cc;
      entries = so_far.through.entries ++ one.entries;
      grew = grew_to _ _ _ _ _ _ _ so_far.through one;
      adds = went_to _ _ _ _ _ _ _ _ _ so_far.number c.loop-asked-test.true c.asked-item.is c.in-NoMemory.is so_far.through one;
    }

pub returns-in-Full : goal.returns-in-Full
returns-in-Full g c = let so_far = c.loop-asked.invariant in let one = c.carry_out.ensures.carried in
    record {
      ended = λ waits. absurd cc;
      entries = so_far.through.entries ++ one.entries;
      grew = grew_to _ _ _ _ _ _ _ so_far.through one;
      adds = (
        went_to _ _ _ _ _ _ _ _ _ so_far.number c.loop-asked-test.true c.asked-item.is c.in-Full.is so_far.through one,
        one.full c.in-Full.entries c.in-Full.is,
      );
    }

pub loop-asked-preserved : goal.loop-asked-preserved
loop-asked-preserved g c = let so_far = c.loop-asked.invariant in
    record {
      number = ap (λ n. n + 1) so_far.number;
      through = through_more _ _ _ _ _ _ _ c.loop-asked-test.true c.asked-item.is so_far.through c.carry_out.ensures.carried (has_room _ c.in_default.not-Full) c.in_default.not-NoMemory;
      follows = c.carry_out.ensures.follows;
    }

pub returns : goal.returns
returns g c = let so_far = c.loop-asked.invariant in
    record {
      ended = λ waits. absurd cc;
      entries = so_far.through.entries;
      grew = so_far.through.grew;
      adds = through_all _ _ _ _ c.loop-asked-test.false so_far.through;
    }
