use Rattle.std.proofs.Common.{rules, ◌∙◌, ◌+◌, ◌%◌, ◌^◌, arith}
use Rattle.office_turn.proofs.Passes.{passes_at}
use Rattle.office_turn.proofs.Rings.{rings}
use Rattle.office_turn.proofs.steps.put_back.Goals as goal

pub fetch_add-served-requires : goal.fetch_add-served-requires
fetch_add-served-requires g c = let v = c.requires.view in let t = c.requires.story in (
  c.exchange-left.ensures.0 ∙ c.requires.lock.0,
  search rules,
  passes_at _ _ _ _ _ _ _ _ _ _ c.args.value t.0 c.exchange-left.ensures.3 c.requires.lock.2 v.1 v.2 v.0 t.1 t.2 c.requires.terms,
)

pub fetch_add-requires : goal.fetch_add-requires
fetch_add-requires g c = (
  c.fetch_add-served.ensures.0 ∙ (c.exchange-left.ensures.0 ∙ c.requires.lock.0),
  omega (arith, c.requires.lock.1),
  rings _ _ _ _ _ _ _ _ 1 (λ n. (n + 1) % 2 ^ 64) _ (omega arith),
)
