use Rattle.std.proofs.Common.{arith, rules, ap, ◌≡◌, ◌∙◌, ◌++◌, filter, length, replicate, None}
use Rattle.trip_analysis.specs.Bases.{BaseLists}
use Rattle.office_core.specs.Registers.{is_recalled_in}
use Rattle.office_core.proofs.Registers.{none_judged, recalled_whole}
use Rattle.office_core.proofs.register.Register.recalled_by.Goals as goal

pub returns-then-is_empty-clause-numbers : goal.returns-then-is_empty-clause-numbers
returns-then-is_empty-clause-numbers g c =
    recalled_whole c.args.self.now c.args.state.now c.args.segment 0 c.new-numbers.result.items c.users-users.result.now c.users-users.ensures.numbered c.requires.elsewhere c.users-users.ensures.value
    (grind (arith, c.is_empty.ensures, c.if-is_empty.ensures, c.if-is_empty.true)) (ap (λ l. l ++ filter (is_recalled_in c.args.self.now c.args.state.now) c.users-users.result.now) c.new-numbers.ensures.items)

pub loop-i-init : goal.loop-i-init
loop-i-init g c = record {
  numbers = ap (λ l. l ++ filter (is_recalled_in c.args.self.now c.args.state.now) c.users-users.result.now) c.new-numbers.ensures.items;
  verdicts = let none : c.in_ok-verdicts.verdicts.items ≡ replicate (length c.fleet-trucks.result.now) None = search rules in
      rw none (none_judged c.args.self.now.base c.args.state.now c.args.segment (length c.fleet-trucks.result.now)
      (ap (λ l. length l) c.fleet-trucks.ensures.value ∙ ap (λ (b : BaseLists). length b.fleet) c.base.ensures.value));
  steps = omega arith;
}

pub returns-clause-numbers : goal.returns-clause-numbers
returns-clause-numbers g c =
    recalled_whole c.args.self.now c.args.state.now c.args.segment c.loop-i.i c.loop-i.numbers.items c.users-users.result.now c.users-users.ensures.numbered c.requires.elsewhere c.users-users.ensures.value c.loop-i-test.false c.loop-i.invariant.numbers
