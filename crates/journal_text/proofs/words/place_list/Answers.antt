use Rattle.std.proofs.Common.{◌++◌, ◌∷◌, ◌∙◌, List, ℕ, ap, arith}
use Rattle.std.specs.Prelude.{flat_map}
use Rattle.std.proofs.lemmas.List.{take_all}
use Rattle.journal_text.specs.Words.{index}
use Rattle.journal_text.proofs.Pieces.{list_adds}
use Rattle.journal_text.proofs.words.place_list.Goals as goal

pub returns : goal.returns
returns c =
    list_adds index c.args.out.now.items c.index_behind.new.out.items c.places.out.items c.args.places.now c.in-Some.rest.now c.args.before c.in-Some.first.now c.in-Some.ensures.cases.0 c.in_ok-index_behind.ensures
    (c.places.invariant ∙ ap (λ (t : List ℕ). c.index_behind.new.out.items ++ flat_map (λ i. 44 ∷ index i) t) (take_all c.places.i-index c.in-Some.rest.now (omega arith)))
