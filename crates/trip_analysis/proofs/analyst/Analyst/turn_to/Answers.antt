use Rattle.std.proofs.Common.{◌<◌, ◌≤◌, ◌+◌, ◌*◌, length, ap, sym, subst, arith}
use Rattle.road_graph.specs.Roads.{Roads}
use Rattle.snapshot_store.specs.Stores.{state_now}
use Rattle.trip_analysis.specs.Passing.{TestsAtMost}
use Rattle.trip_analysis.proofs.Counting.{tests_of_more, tests_of_next}
use Rattle.trip_analysis.proofs.KnownAt.{AreKnownBelow, are_below_all, are_below_judged, are_below_none, are_below_same, are_below_unchanged}
use Rattle.trip_analysis.proofs.analyst.Analyst.turn_to.Goals as goal
use Rattle.trip_analysis.proofs.analyst.Analyst.turn_to.Goals.{then-differs, else-differs}

pub changed-init : goal.changed-init
changed-init g c = (
  omega arith,
  are_below_none _ _ _ c.args.self.now c.requires.known,
  record { no_fewer = omega arith; no_more = omega arith },
)

pub changed-preserved : goal.changed-preserved
changed-preserved g c =
    let base = c.args.base.now in let last = c.args.last.now in let next = c.args.next.now in let n = c.in-Some.segment in
    let many = ap (λ (r : Roads). length r.segments) c.requires.roads in
    let there : n < length base.roads.segments = omega (arith, c.in-Some.ensures.within.1, many) in
    let before = are_below_unchanged base last next c.version.result c.changed.from n c.changed.self c.requires.roads c.requires.later c.version.ensures.count
    c.in-Some.ensures.within.0 c.in-Some.ensures.first c.changed.invariant.1 in
    let old = state_now last in let new = state_now next in
    let fleet = length base.fleet in let begun = c.args.steps.now in
    let reached : c.changed.from ≤ n = c.in-Some.ensures.within.0 in
    let reached_next : c.changed.from ≤ n + 1 = omega (arith, reached) in (
      omega (arith, there),
      elim c.if-differs.branch [
        | then-differs w ↦ (
            let judged = rw w.state-then-differs.ensures.value at w.judge.ensures.judged in
            subst (AreKnownBelow base old new (n + 1)) (sym w.self-is) (are_below_judged base old new n c.changed.self w.judge.new.self there judged before)
            )
        | else-differs w ↦ (
            let agree = rw (c.network.ensures, c.state.ensures.value, c.state-in-Some.ensures.value) at (c.differs.ensures w.if-differs.false) in
            subst (AreKnownBelow base old new (n + 1)) (sym w.self-is) (are_below_same base old new n c.changed.self agree before)
            )
      ],
      elim c.if-differs.branch [
        | then-differs w ↦ subst (TestsAtMost (fleet * (n + 1)) begun) (sym w.steps-is)
            (tests_of_next fleet c.changed.from n begun c.changed.steps w.judge.new.steps reached c.changed.invariant.2 w.judge.ensures.steps)
        | else-differs w ↦ subst (TestsAtMost (fleet * (n + 1)) begun) (sym w.steps-is)
            (tests_of_more fleet c.changed.from (n + 1) begun c.changed.steps reached_next c.changed.invariant.2)
      ],
    )

pub returns-clause-known : goal.returns-clause-known
returns-clause-known g c =
    let base = c.args.base.now in let last = c.args.last.now in let next = c.args.next.now in let n = length next.roads.segments in
    let many = ap (λ (r : Roads). length r.segments) c.requires.roads in
    are_below_all base (state_now last) (state_now next) n c.changed.self (omega (arith, many))
    (are_below_unchanged base last next c.version.result c.changed.from n c.changed.self c.requires.roads c.requires.later c.version.ensures.count
    (omega (arith, many, c.changed.invariant.0)) c.in_default.ensures.none c.changed.invariant.1)

pub returns-clause-steps : goal.returns-clause-steps
returns-clause-steps g c =
    let base = c.args.base.now in
    tests_of_more (length base.fleet) c.changed.from (length base.roads.segments) c.args.steps.now c.changed.steps c.changed.invariant.0 c.changed.invariant.2
