use Rattle.std.proofs.Common.{◌∙◌, ◌<◌, ◌≤◌, length, set, ap, arith}
use Rattle.road_graph.specs.Roads.{Roads}
use Rattle.restriction_log.specs.States.{InForce}
use Rattle.snapshot_store.specs.Stores.{state_now}
use Rattle.trip_analysis.specs.Passing.{is_passable}
use Rattle.trip_analysis.proofs.Turning.{turned_all, turned_judged, turned_none, turned_unposted}
use Rattle.trip_analysis.proofs.truck_at.TruckAt.flags.Goals as goal

pub posted-init : goal.posted-init
posted-init g c = record {
  within = omega arith;
  flags = turned_none c.args.self.now.base.now _ _ c.args.self.now.truck _ (c.in_ok-flags.ensures.items ∙ c.in-Some.ensures);
  steps = record { no_fewer = omega arith; no_more = omega arith };
}

pub posted-preserved : goal.posted-preserved
posted-preserved g c =
    let base = c.args.self.now.base.now in let next = c.args.self.now.snapshot.now in let n = c.in-Some-next_changed.segment in
    let many = ap (λ (r : Roads). length r.segments) c.args.self.now.roads_are_its in
    let there : n < length base.roads.segments = omega (arith, c.in-Some-next_changed.ensures.within.1, many) in
    let low : c.posted.from ≤ n = c.in-Some-next_changed.ensures.within.0 in
    record {
      within = omega (arith, there);
      flags = turned_judged base _ (state_now next) c.args.self.now.truck n c.posted.flags.items _ there (ap (set c.posted.flags.items n) (c.is_passable.ensures.value ∙ ap (λ (s : InForce). is_passable base s c.args.self.now.truck n) c.state-state.ensures.value))
          (turned_unposted base next c.args.self.now.truck c.posted.from n c.posted.flags.items c.args.self.now.roads_are_its low c.in-Some-next_changed.ensures.first c.posted.invariant.flags);
      steps = record {
        no_fewer = omega (arith, c.posted.invariant.steps.no_fewer, c.is_passable.ensures.steps);
        no_more = omega (arith, c.posted.invariant.steps.no_more, c.is_passable.ensures.steps, low);
      };
    }

pub returns-clause-flags : goal.returns-clause-flags
returns-clause-flags g c =
    let base = c.args.self.now.base.now in let next = c.args.self.now.snapshot.now in let n = length next.roads.segments in
    let many = ap (λ (r : Roads). length r.segments) c.args.self.now.roads_are_its in
    turned_all base _ (state_now next) c.args.self.now.truck n c.posted.flags.items (omega (arith, many))
    (turned_unposted base next c.args.self.now.truck c.posted.from n c.posted.flags.items c.args.self.now.roads_are_its (omega (arith, many, c.posted.invariant.within)) c.in_default-next_changed.ensures.none c.posted.invariant.flags)

pub returns-clause-steps : goal.returns-clause-steps
returns-clause-steps g c = record {
  no_fewer = c.posted.invariant.steps.no_fewer;
  no_more = omega (arith, c.posted.invariant.steps.no_more, c.posted.invariant.within);
}
