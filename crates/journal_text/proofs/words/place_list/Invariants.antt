use Rattle.std.proofs.Common.{◌≡◌, ◌++◌, ◌∷◌, take}
use Rattle.std.specs.Prelude.{flat_map}
use Rattle.journal_text.specs.Words.{index}
use Rattle.journal_text.proofs.words.place_list.Given as goal

abbrev pub invariant-places : goal.invariant-places
invariant-places l = l.out.items ≡ l.initial.out.items ++ flat_map (λ i. 44 ∷ index i) (take l.i-index l.rest)
