use Rattle.std.proofs.Common.{◌≡◌, map, take}
use Rattle.clerk_program.specs.Carry.{carried_lines}
use Rattle.clerk_program.proofs.carry.lines_of.Given as goal

abbrev pub invariant-permits : goal.invariant-permits
invariant-permits l = l.lines.items ≡ carried_lines 0 (map (λ p. p.number) (take l.i l.standing))
