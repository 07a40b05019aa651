use Rattle.std.proofs.Common.{◌≡◌, ◌∷◌, ◌∙◌, List, ℕ, ap, arith, inl, inr, rules}
use Rattle.std.proofs.lemmas.Grind.{common_steps}
use Rattle.journal_text.specs.Words.{index, list_text}
use Rattle.journal_text.proofs.lists.LastList.print.Goals as goal
use Rattle.journal_text.proofs.lists.LastList.print.Goals.{then-is_empty+in_default, else-is_empty+else-ne}

pub returns : goal.returns
returns c =
    let same : c.if-is_empty.self-inside.places.now ≡ c.args.places.now = elim c.if-is_empty.branch [ then-is_empty+in_default w ↦ search rules | else-is_empty+else-ne w ↦ search rules ] in
    let kept : c.if-is_empty.self-inside.text.items ≡ 32 ∷ list_text index c.if-is_empty.self-inside.places.now = elim c.if-is_empty.branch [
      | then-is_empty+in_default w ↦ search rules
      | else-is_empty+else-ne w ↦ elim c.self.invariant [ inl none ↦ grind (arith, common_steps, none) | inr is ↦ search rules ]
    ] in
    let text : c.if-is_empty.self-inside.text.items ≡ 32 ∷ list_text index c.args.places.now = kept ∙ ap (λ (t : List ℕ). 32 ∷ list_text index t) same in
    grind (arith, common_steps, text)
