use Rattle.std.proofs.Common.{[], ◌∷◌, ◌++◌}
use Rattle.std.proofs.lemmas.List.Elements.{All-get_or, All-nil, All-push, All-same}
use Rattle.analyst_pool.specs.Ran.{HasNotBegun}
use Rattle.office_tests.proofs.analysts.run_worker.Goals as goal

pub run_actors-requires-clause-ready : goal.run_actors-requires-clause-ready
run_actors-requires-clause-ready g c κs within i d inside = let ready = HasNotBegun c.args.base.now g.C.OfficeCalls.view in
    let start = c.new-workers.result.items in let first = c.push.new.self.items in
    let none = All-same ready start [] c.new-workers.ensures.items (All-nil ready) in
    let one = All-same ready first (start ++ c.args.worker ∷ []) c.in_ok-push.ensures.items (All-push ready start c.args.worker none c.requires) in
    All-get_or ready c.deref_mut.result.now i d inside (All-same ready c.deref_mut.result.now first c.deref_mut.ensures.value one)
