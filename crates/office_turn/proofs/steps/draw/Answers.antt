use Rattle.std.proofs.Common.{rules, ap, sym, ◌∙◌, arith, refl, ◌≡◌}
use mathlib.Core.Option.{none}
use Rattle.office_turn.proofs.Counts.{counts}
use Rattle.office_turn.proofs.Draws.{draws}
use Rattle.office_turn.proofs.steps.draw.Goals as goal

pub load-next-requires : goal.load-next-requires
load-next-requires g c = let same = ap (λ m. m.0) c.loop.invariant.2 in
    (c.loop.invariant.0 ∙ c.requires.lock.0, search rules, counts _ _ _ _ _ _ _ _ (ap (λ v. v.is_spent) same ∙ c.requires.view.1))

pub compare_exchange-found-requires : goal.compare_exchange-found-requires
compare_exchange-found-requires g c =
    let same = ap (λ m. m.0) c.loop.invariant.2 in
    let most : c.loop.seat.me.0.most ≡ c.args.most = ap (λ v. v.most) same ∙ sym c.requires.lock.2 in
    let t = c.load-next.ensures.2.1 (λ e. c.if-next-from.false (omega (arith, most, c.from.ensures))) in
    let still = ap (λ m. m.0) t.2 ∙ same in (
      c.load-next.ensures.0 ∙ (c.loop.invariant.0 ∙ c.requires.lock.0),
      search rules,
      draws _ _ _ _ _ _ _ _ _ _ none (ap (λ v. v.is_spent) still ∙ c.requires.view.1) (ap (λ v. v.is_root) still ∙ c.requires.view.2) (ap (λ v. v.ticket) still ∙ c.requires.view.0)
          (omega (arith, t.0, ap (λ v. v.most) (ap (λ m. m.0) t.2))) refl,
    )
