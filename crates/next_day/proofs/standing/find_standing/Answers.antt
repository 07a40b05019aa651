use Rattle.std.proofs.Common.{sym, ◌∙◌}
use Rattle.next_day.proofs.Collecting.{none_more, one_more}
use Rattle.next_day.proofs.standing.find_standing.Goals.{in-Some+in_ok-push, in_default}
use Rattle.next_day.proofs.standing.find_standing.Goals as goal

pub entries-preserved : goal.entries-preserved
entries-preserved c = elim c.match-branch-2.branch [
  | in-Some+in_ok-push w ↦ rw w.found-is
      (one_more c.args.office.now.machine c.args.history.now c.entries.entry-index c.entry-item.result c.entries-test.true c.entry-item.is
      c.entries.found.items w.push.new.self.items w.in-Some.permit c.entries.invariant (sym w.in-Some.is ∙ c.in_ok-permit.ensures) w.in_ok-push.ensures.items)
  | in_default w ↦ rw w.found-is
      (none_more c.args.office.now.machine c.args.history.now c.entries.entry-index c.entry-item.result c.entries-test.true c.entry-item.is
      c.entries.found.items c.entries.invariant (sym w.in_default.is ∙ c.in_ok-permit.ensures))
]
