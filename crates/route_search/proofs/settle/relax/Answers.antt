use Rattle.std.proofs.Common.{◌≡◌, ℕ, Option, Some, None, false, [], get_or, take, arith, sym}
use Rattle.std.specs.Option.{is_some}
use Rattle.std.specs.Prelude.{IfNone}
use Rattle.std.proofs.lemmas.Bool.{false≢true}
use Rattle.std.proofs.lemmas.Option.{slice_get-get_or}
use Rattle.std.proofs.lemmas.List.{take_all, take_more}
use Rattle.road_graph.specs.declared.segment.Arrival.{Arrival}
use Rattle.route_search.specs.Walks.{flagged}
use Rattle.route_search.proofs.Relaxing.{turn_from, turn_less, turn_more, turn_near}
use Rattle.route_search.proofs.Steps.{relaxed, relaxed_out, relaxing_skip, relaxing_small}
use Rattle.route_search.proofs.settle.relax.Goals as goal
use Rattle.route_search.proofs.settle.relax.Goals.{then-passable-arrival+in_ok-improve, else-passable-arrival}

pub overflow_add-length : goal.overflow_add-length
overflow_add-length c =
    let q = c.args.query.now in
    let list = c.incoming-arrivals.result.now in
    let k = c.loop-arrival.arrival-index in
    let none : Arrival = record { segment = 0; from = 0; feet = 0 } in
    let a = get_or list k none in
    let at = slice_get-get_or list k none c.loop-arrival-test.true in
    let near = turn_near q.roads.network.now (flagged q.roads.flags.now) q.start q.goal q.roads.in_order c.loop-arrival.table c.loop-arrival.queue c.args.near.node c.args.near.length list (take k list) c.incoming-arrivals.ensures.meaning c.loop-arrival.invariant.relaxing k a at in
    rw c.from.ensures (omega (arith, near))

pub improve-requires-clause-within : goal.improve-requires-clause-within
improve-requires-clause-within c =
    let q = c.args.query.now in
    let list = c.incoming-arrivals.result.now in
    let k = c.loop-arrival.arrival-index in
    let none : Arrival = record { segment = 0; from = 0; feet = 0 } in
    let a = get_or list k none in
    let at = slice_get-get_or list k none c.loop-arrival-test.true in
    turn_from q.roads.network.now (flagged q.roads.flags.now) q.start q.goal q.roads.in_order c.loop-arrival.table c.loop-arrival.queue c.args.near.node c.args.near.length list (take k list) c.incoming-arrivals.ensures.meaning c.loop-arrival.invariant.relaxing k a at

pub improve-requires-clause-near : goal.improve-requires-clause-near
improve-requires-clause-near c =
    let q = c.args.query.now in
    let list = c.incoming-arrivals.result.now in
    let k = c.loop-arrival.arrival-index in
    let none : Arrival = record { segment = 0; from = 0; feet = 0 } in
    let a = get_or list k none in
    let at = slice_get-get_or list k none c.loop-arrival-test.true in
    rw c.from.ensures (turn_near q.roads.network.now (flagged q.roads.flags.now) q.start q.goal q.roads.in_order c.loop-arrival.table c.loop-arrival.queue c.args.near.node c.args.near.length list (take k list) c.incoming-arrivals.ensures.meaning c.loop-arrival.invariant.relaxing k a at)

pub loop-arrival-preserved : goal.loop-arrival-preserved
loop-arrival-preserved c =
    let q = c.args.query.now in
    let list = c.incoming-arrivals.result.now in
    let k = c.loop-arrival.arrival-index in
    let none : Arrival = record { segment = 0; from = 0; feet = 0 } in
    let a = get_or list k none in
    let at = slice_get-get_or list k none c.loop-arrival-test.true in
    let more = take_more list k none c.loop-arrival-test.true in
    elim c.if-passable-arrival.branch [
      | then-passable-arrival+in_ok-improve w ↦ (
          let tried = rw w.from.ensures at w.in_ok-improve.ensures in
          rw (w.table-is, w.queue-is, more) (record {
            relaxing = turn_more q.roads.network.now (flagged q.roads.flags.now) q.start q.goal q.roads.in_order c.loop-arrival.table c.loop-arrival.queue c.args.near.node c.args.near.length list (take k list) c.incoming-arrivals.ensures.meaning c.loop-arrival.invariant.relaxing k a at w.improve.new.table w.improve.new.queue w.if-passable-arrival.true tried;
            less = omega (arith, c.loop-arrival.invariant.less, turn_less q.roads.network.now (flagged q.roads.flags.now) q.start q.goal q.roads.in_order c.loop-arrival.table c.loop-arrival.queue c.args.near.node c.args.near.length list (take k list) c.incoming-arrivals.ensures.meaning c.loop-arrival.invariant.relaxing k a at w.improve.new.table w.improve.new.queue w.if-passable-arrival.true tried);
          }))
      | else-passable-arrival w ↦ rw (w.table-is, w.queue-is, more) (record {
        relaxing = relaxing_skip q.roads.network.now (flagged q.roads.flags.now) q.start q.goal q.roads.in_order c.loop-arrival.table c.loop-arrival.queue c.args.near.node c.args.near.length a (take k list) w.if-passable-arrival.false c.loop-arrival.invariant.relaxing;
        less = c.loop-arrival.invariant.less;
      })
    ]

pub returns-clause-after : goal.returns-clause-after
returns-clause-after c =
    let q = c.args.query.now in
    let list = c.incoming-arrivals.result.now in
    let all = take_all c.loop-arrival.arrival-index list c.loop-arrival-test.false in
    relaxed q.roads.network.now (flagged q.roads.flags.now) q.start q.goal q.roads.in_order c.loop-arrival.table c.loop-arrival.queue c.args.near.node c.args.near.length list c.incoming-arrivals.ensures.meaning (rw all at c.loop-arrival.invariant.relaxing)

pub through-requires-clause-near : goal.through-requires-clause-near
through-requires-clause-near c =
    let q = c.args.query.now in
    relaxing_small q.roads.network.now (flagged q.roads.flags.now) q.start q.goal q.roads.in_order c.args.table.now c.args.queue.now c.args.near.node c.args.near.length [] c.requires.before

told : {fact : Type 0} (o : Option ℕ) → is_some o ≡ false → IfNone o fact → fact
told None e h = h
told (Some x) e h = absurd (false≢true (sym e))

pub returns-then-is_none-clause-after : goal.returns-then-is_none-clause-after
returns-then-is_none-clause-after c =
    let q = c.args.query.now in
    relaxed_out q.roads.network.now (flagged q.roads.flags.now) q.start q.goal q.roads.in_order c.args.table.now c.args.queue.now c.args.near.node c.args.near.length [] c.requires.before (rw c.as_slice.ensures at (told c.through.result c.if-is_none.ensures c.through.ensures))
