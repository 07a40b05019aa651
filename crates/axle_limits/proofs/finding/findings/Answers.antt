use Rattle.std.proofs.Common.{◌≡◌, length, sym, subst, arith}
use Rattle.axle_limits.specs.Groups.{groups_from}
use Rattle.axle_limits.specs.Findings.{AddsFindings, AreFindings}
use Rattle.axle_limits.proofs.Adding.{row_more, rows_more, all_rows}
use Rattle.axle_limits.proofs.Listing.{are_findings, none_iff_legal}
use Rattle.axle_limits.proofs.finding.findings.Goals as goal

pub loop-i-preserved : goal.loop-i-preserved
loop-i-preserved c =
    let end : c.loop-j.j ≡ length c.args.train.now = omega arith in
    let row : AddsFindings c.args.train.now (groups_from c.args.train.now c.loop-i.i) c.loop-i.list.items c.loop-j.list.items = rw end at c.loop-j.invariant in
    rows_more c.args.train.now c.loop-i.i c.loop-i.list.items c.loop-j.list.items c.loop-i.invariant row

pub loop-j-preserved : goal.loop-j-preserved
loop-j-preserved c = row_more c.args.train.now c.loop-i.i c.loop-j.j c.loop-i.list.items c.loop-j.list.items c.add_group.new.list.items (omega arith) c.loop-j.invariant c.in_ok-add_group.ensures

pub returns-clause-computed : goal.returns-clause-computed
returns-clause-computed c = all_rows c.args.train.now c.loop-i.i c.loop-i.list.items c.add_gross.new.list.items (omega arith) (omega arith) c.loop-i.invariant c.in_ok-add_gross.ensures

pub returns-clause-listed : goal.returns-clause-listed
returns-clause-listed c = subst (AreFindings c.args.train.now) (sym (returns-clause-computed c)) (are_findings c.args.train.now)

pub returns-clause-legal : goal.returns-clause-legal
returns-clause-legal c = none_iff_legal c.args.train.now c.add_gross.new.list.items (returns-clause-listed c)
