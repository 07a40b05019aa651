use Rattle.std.proofs.Common.{rules, ap, sym, ◌∙◌, ◌∷◌, Some}
use Rattle.atomic_table.specs.Table.{rest}
use Rattle.office_turn.proofs.Looks.{looks}
use Rattle.office_turn.proofs.steps.take.Goals as goal

pub load-serving-requires : goal.load-serving-requires
load-serving-requires g c = let same = ap (λ m. m.0) c.loop.invariant.2 in let v = c.requires.view in (
  c.loop.invariant.0 ∙ c.requires.lock.0,
  search rules,
  looks _ _ _ _ _ _ _ _ c.args.ticket (ap (λ v. v.is_spent) same ∙ v.2) (ap (λ v. v.is_root) same ∙ v.3) (ap (λ v. v.ticket) same ∙ v.0) (ap (λ v. v.looked) same ∙ v.1),
)

pub exchange-requires : goal.exchange-requires
exchange-requires g c = let same = ap (λ m. m.0) c.loop.invariant.2 in
    let t = (c.load-serving.ensures.2 c.args.ticket (ap (λ v. v.ticket) same ∙ c.requires.view.0)).0 c.if-serving-ticket.true in
    (c.load-serving.ensures.0 ∙ (c.loop.invariant.0 ∙ c.requires.lock.0), (Some t.0, ap (λ m. m.1) t.1 ∙ ap (λ l. (0, Some t.0) ∷ rest l) (sym (ap (λ m. m.1) t.1))))
