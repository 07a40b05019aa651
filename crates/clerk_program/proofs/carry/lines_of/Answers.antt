use Rattle.clerk_program.proofs.Carrying.{line_more}
use Rattle.clerk_program.proofs.carry.lines_of.Goals as goal

pub permits-preserved : goal.permits-preserved
permits-preserved c =
    line_more c.args.standing.now c.permits.i c.index-standing-i.result c.permits.lines.items c.write_line.new.out.items c.permits-test.true c.index-standing-i.is
    c.permits.invariant c.in_ok-write_line.ensures
