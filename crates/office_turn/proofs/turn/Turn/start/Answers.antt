use Rattle.std.proofs.Common.{refl, ap, ◌∙◌, sym, subst, ◌≡◌, Some, [], ◌∷◌, ◌++◌, Option, List, replicate}
use Rattle.atomic_table.specs.Table.{opening}
use Rattle.office_turn.specs.Rule.{Turned, opening_view}
use Rattle.office_turn.proofs.Starts.{starts}
use Rattle.office_turn.proofs.turn.Turn.start.Goals as goal

pub new-requires : goal.new-requires
new-requires g c =
    let first = g.V.Storied.terms c.of.result.value in
    let items : c.push_reserved.new.self.items ≡ Some c.args.value ∷ [] = c.push_reserved.ensures.items ∙ ap (λ l. l ++ Some c.args.value ∷ []) c.in_ok-slots.ensures.items in
    subst (λ (l : List (Option g.row.V.Denot)). Turned g.V.Storied.caller g.V.Storied.story g.V.Storied.terms first c.args.most (opening (replicate 10 0) l (opening_view first c.args.most))) (sym items)
    (starts _ _ _ _ _ _ (replicate 8 0) c.args.value refl (ap g.V.Storied.terms (sym c.of.ensures)) c.requires.story)
