use Rattle.std.specs.Prelude.{◌≡◌}
use Rattle.analyst_pool.specs.Following.{MayFollow}
use Rattle.analyst_pool.proofs.Scripts.{Through}
use Rattle.analyst_pool.proofs.worker.carry_out_all.Given as goal

abbrev pub invariant-loop-asked : goal.invariant-loop-asked
invariant-loop-asked g l = record {
  number : l.command ≡ l.asked-index;
  through : Through l.asked-index l.fn.script (g.C.OfficeCalls.view l.fn.calls) (g.C.OfficeCalls.view l.calls);
  follows : MayFollow l.finder.follower (g.C.OfficeCalls.view l.calls);
}
