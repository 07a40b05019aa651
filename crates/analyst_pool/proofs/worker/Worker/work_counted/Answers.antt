use Rattle.std.proofs.Common.{refl, subst, sym}
use Rattle.analyst_pool.specs.Ran.{AddsEntries}
use Rattle.analyst_pool.proofs.worker.Worker.work_counted.Goals as goal

pub returns : goal.returns
returns g c = let carried = c.carry_out_all-self.ensures in
    record {
      actor = refl {a = c.args.self.now.actor};
      script = refl {a = c.args.self.now.script};
      ended = carried.ended;
      entries = carried.entries;
      grew = carried.grew;
      adds = subst (λ commands. AddsEntries (g.C.OfficeCalls.view c.args.self.now.calls).who.caller commands c.carry_out_all-self.result carried.entries (g.C.OfficeCalls.view c.carry_out_all-self.new.calls).full)
          c.deref.ensures.value carried.adds;
    }

pub carry_out_all-self-requires-clause-base : goal.carry_out_all-self-requires-clause-base
carry_out_all-self-requires-clause-base g c = sym c.requires.ready.about
