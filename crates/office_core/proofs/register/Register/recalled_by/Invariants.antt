use Rattle.std.proofs.Common.{◌≡◌, ◌+◌, ◌≤◌, ◌++◌, drop, filter}
use Rattle.office_core.specs.Recalls.{AreVerdicts}
use Rattle.office_core.specs.Registers.{is_recalled_in}
use Rattle.office_core.proofs.register.Register.recalled_by.Given as goal

abbrev pub invariant-loop-i : goal.invariant-loop-i
invariant-loop-i g l = record {
  numbers : l.numbers.items ++ filter (is_recalled_in l.self l.state) (drop l.i l.users) ≡ filter (is_recalled_in l.self l.state) l.users;
  verdicts : AreVerdicts l.self.base l.state l.segment l.verdicts.items;
  steps : l.steps ≤ l.fn.steps + l.i;
}
