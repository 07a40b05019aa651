use Rattle.std.proofs.Common.{◌∙◌, ◌+◌, ◌-◌, ◌%◌, ◌^◌, arith}
use Rattle.office_turn.proofs.Rings.{rings}
use Rattle.office_turn.proofs.steps.sleep.Goals as goal

pub fetch_add-requires : goal.fetch_add-requires
fetch_add-requires g c = (c.requires.lock.0, omega (arith, c.requires.lock.1), rings _ _ _ _ _ _ _ _ 1 (λ n. (n + 1) % 2 ^ 64) _ (omega arith))

pub fetch_sub-requires : goal.fetch_sub-requires
fetch_sub-requires g c = (c.fetch_add.ensures.0 ∙ c.requires.lock.0, omega (arith, c.requires.lock.1), rings _ _ _ _ _ _ _ _ 1 (λ n. (n + (2 ^ 64 - 1)) % 2 ^ 64) _ (omega arith))
