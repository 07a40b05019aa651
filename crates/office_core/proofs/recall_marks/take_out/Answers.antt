use Rattle.std.proofs.Common.{List, ℕ, length, subst, sym, arith}
use Rattle.std.proofs.lemmas.List.{drop_all}
use Rattle.recall_index.specs.Uses.{AreRemoved}
use Rattle.recall_index.proofs.Lists.{none_removed, run_removed}
use Rattle.recall_index.proofs.Rising.{part_rises}
use Rattle.office_core.proofs.Leaving.{run_inside, run_there}
use Rattle.office_core.proofs.recall_marks.take_out.Goals as goal

pub loop-end-init : goal.loop-end-init
loop-end-init c = let ns = c.args.numbers.now in record {
  within = omega arith;
  removed = subst (λ (l : List ℕ). AreRemoved c.args.index.now l c.args.index.now) (sym (drop_all (length ns) ns (omega arith))) (none_removed c.args.index.now);
}

pub remove_each-requires-clause-segments : goal.remove_each-requires-clause-segments
remove_each-requires-clause-segments c =
    run_inside (length c.args.index.now) c.args.permits.now c.args.index.now c.requires.index c.requires.numbered c.args.numbers.now c.requires.live
    c.loop-end.index c.begin_of_run-start.result c.loop-end.end c.segments_of-route.result.now c.loop-end-test.true c.loop-end.invariant.within c.segments_of-route.ensures c.loop-end.invariant.removed

pub remove_each-requires-clause-rising : goal.remove_each-requires-clause-rising
remove_each-requires-clause-rising c = part_rises c.args.numbers.now c.begin_of_run-start.result c.loop-end.end c.requires.rising c.loop-end.invariant.within

pub remove_each-requires-clause-there : goal.remove_each-requires-clause-there
remove_each-requires-clause-there c =
    run_there (length c.args.index.now) c.args.permits.now c.args.index.now c.requires.index c.requires.numbered c.args.numbers.now c.requires.live
    c.loop-end.index c.begin_of_run-start.result c.loop-end.end c.segments_of-route.result.now c.loop-end-test.true c.loop-end.invariant.within c.segments_of-route.ensures c.loop-end.invariant.removed
    c.requires.rising c.begin_of_run-start.ensures.alike

pub loop-end-preserved : goal.loop-end-preserved
loop-end-preserved c = let start = c.begin_of_run-start.result in record {
  within = omega (arith, c.begin_of_run-start.ensures.within, c.loop-end.invariant.within);
  removed = run_removed c.args.index.now c.loop-end.index c.remove_each.new.self c.args.numbers.now start c.loop-end.end
      (omega (arith, c.begin_of_run-start.ensures.within)) c.loop-end.invariant.removed c.remove_each.ensures;
}
