use Rattle.std.proofs.Common.{◌∙◌, sym, subst, refl, ◌≡◌, Some, IsSome, length}
use mathlib.Core.Option.{some-injective}
use Rattle.office_turn.specs.Told.{Rooted}
use Rattle.office_turn.proofs.Cases.{some_same}
use Rattle.office_turn.proofs.Closes.{closes, accounts_of}
use Rattle.office_turn.proofs.turn.Turn.close.Goals as goal

pub unwrap-requires : goal.unwrap-requires
unwrap-requires g c =
    let f = c.close_with-closed.ensures.values.2 in let i = c.root.invariant in
    let all_in = subst (λ (r : Rooted g.row.V-Entry.Denot g.row.V-Terms.Denot). length r.receipts ≡ r.admitted) (sym c.root.view_is) c.requires.joined in
    let t = closes _ _ _ _ _ f.0 f.1.0 c.root.inside.seat f.1.1 i.live i.root all_in in
    let is : c.take-value.result ≡ Some t.0 = some-injective _ _ (sym c.take-value.ensures.value ∙ f.4 0 (Some t.0) t.1) in
    subst IsSome (sym is) refl

pub returns : goal.returns
returns g c =
    let f = c.close_with-closed.ensures.values.2 in let i = c.root.invariant in
    let all_in = subst (λ (r : Rooted g.row.V-Entry.Denot g.row.V-Terms.Denot). length r.receipts ≡ r.admitted) (sym c.root.view_is) c.requires.joined in
    let t = closes _ _ _ _ _ f.0 f.1.0 c.root.inside.seat f.1.1 i.live i.root all_in in
    let is : c.take-value.result ≡ Some t.0 = some-injective _ _ (sym c.take-value.ensures.value ∙ f.4 0 (Some t.0) t.1) in
    let value : t.0 ≡ c.unwrap.result = some_same _ _ (sym is ∙ c.unwrap.ensures) in
    let a = accounts_of _ _ _ _ _ _ _ c.root.view_is value t.2 in
    record { terms = a.terms_stay; seen = a.seen; own = a.own; room = a.room; callers = a.callers; others = a.others; worn = a.worn }
