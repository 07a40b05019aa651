use Rattle.std.proofs.Common.{◌≡◌, false, get_or, length, refl, true, ◌∙◌, arith}
use Rattle.std.proofs.lemmas.List.{length-replicate, length-set}
use Rattle.trip_analysis.proofs.Marked.{none_marked, none_more, one_marked}
use Rattle.trip_analysis.proofs.node_set.marks_of.Goals.{else-node-lt-MOST_NODES, then-node-lt-MOST_NODES}
use Rattle.trip_analysis.proofs.node_set.marks_of.Goals as goal

pub loop-i-init : goal.loop-i-init
loop-i-init c = (length-replicate 4096 false, none_marked)

pub loop-i-preserved : goal.loop-i-preserved
loop-i-preserved c = let nodes = c.args.nodes.now in let i = c.loop-i.i in let marks = c.loop-i.marks in let node = get_or nodes i 0 in
    elim c.if-node-lt-MOST_NODES.branch [
      | then-node-lt-MOST_NODES w ↦ let many : length marks ≡ 4096 = c.loop-i.invariant.0 in rw w.marks-is (
        length-set marks node true ∙ many,
        one_marked nodes marks i node c.loop-i-test.true refl c.loop-i.invariant.1 (let low = w.if-node-lt-MOST_NODES.true in omega (arith, many, low)),
      )
      | else-node-lt-MOST_NODES w ↦ rw w.marks-is (c.loop-i.invariant.0, none_more nodes marks i node c.loop-i-test.true refl c.loop-i.invariant.1 w.if-node-lt-MOST_NODES.false)
    ]
