use Rattle.std.proofs.Common.{arith, ◌+◌}
use Rattle.day_maker.specs.Making.{each}
use Rattle.day_maker.specs.Made.{node}
use Rattle.day_maker.proofs.Pages.{each_end, each_more}
use Rattle.day_maker.proofs.roads.put_nodes.Goals as goal

pub columns-preserved : goal.columns-preserved
unfolding node
columns-preserved c = each_more (λ k. node c.rows.r k) c.columns.page c.put.new.self _ c.columns.c (c.args.size + 1) (omega arith) c.columns.invariant c.in_ok-put.ensures

pub rows-preserved : goal.rows-preserved
rows-preserved c =
    let row = each_end (λ k. node c.rows.r k) c.columns.page _ c.columns.c (c.args.size + 1) (omega arith) c.columns.invariant in
    each_more (λ r. each 0 (c.args.size + 1) (λ k. node r k)) c.rows.page c.columns.page _ c.rows.r (c.args.size + 1) (omega arith) c.rows.invariant row

pub returns : goal.returns
returns c = each_end (λ r. each 0 (c.args.size + 1) (λ k. node r k)) c.rows.page _ c.rows.r (c.args.size + 1) (omega arith) c.rows.invariant
