use Rattle.std.proofs.Common.{arith, take}
use Rattle.std.proofs.lemmas.List.{take_all}
use Rattle.route_search.specs.Walks.{flagged}
use Rattle.route_search.specs.Reaching.{entered_at}
use Rattle.route_search.proofs.Reaches.{mark_less, one_tried, spread_done, spreading_more, spreading_skip, step_within}
use Rattle.route_search.proofs.reach.spread.Goals as goal
use Rattle.route_search.proofs.reach.spread.Goals.{then-walks-step+in_ok-mark, else-walks-step}

pub mark-requires : goal.mark-requires
mark-requires c =
    let w = c.args.walks.now in
    let there = step_within w.way w.roads.network.now c.args.node c.loop-k.k c.step-step.result w.roads.in_order c.step-step.ensures in
    omega (arith, there, c.loop-k.invariant.spreading.reaching.many)

pub loop-k-preserved : goal.loop-k-preserved
loop-k-preserved c =
    let w = c.args.walks.now in let roads = w.roads.network.now in let may = flagged w.roads.flags.now in
    let list = entered_at w.way roads.segments c.args.node in
    let step = c.step-step.result in let is = c.step-step.ensures in
    let more = one_tried list c.loop-k.k step.segment is.place in
    let tried = take c.loop-k.k list in
    let old = c.loop-k.invariant in
    elim c.if-walks-step.branch [
      | then-walks-step+in_ok-mark b ↦ (
          let marked = rw (← is.end) at b.in_ok-mark.ensures in
          rw (b.marked-is, b.waiting-is, more) (record {
            spreading = spreading_more w.way roads may w.root w.roads.in_order c.loop-k.marked.items c.loop-k.waiting.items c.args.node tried step.segment old.spreading b.mark.new.marked.items b.mark.new.waiting.items is.segment is.at b.if-walks-step.true is.begin marked;
            less = omega (arith, old.less, mark_less c.loop-k.marked.items c.loop-k.waiting.items b.mark.new.marked.items b.mark.new.waiting.items step.to b.in_ok-mark.ensures);
          }))
      | else-walks-step b ↦ rw (b.marked-is, b.waiting-is, more) (record {
        spreading = spreading_skip w.way roads may w.root w.roads.in_order c.loop-k.marked.items c.loop-k.waiting.items c.args.node tried step.segment old.spreading b.if-walks-step.false;
        less = old.less;
      })
    ]

pub returns-clause-after : goal.returns-clause-after
returns-clause-after c =
    let w = c.args.walks.now in let roads = w.roads.network.now in
    let list = entered_at w.way roads.segments c.args.node in
    let all = take_all c.loop-k.k list (omega (arith, c.loop-k-test.false, c.loop-k.auto.k-end, c.count-k-end.ensures.count)) in
    spread_done w.way roads (flagged w.roads.flags.now) w.root w.roads.in_order c.loop-k.marked.items c.loop-k.waiting.items c.args.node list c.count-k-end.ensures.whole (rw all at c.loop-k.invariant.spreading)
