use Rattle.std.proofs.Common.{◌≡◌, ◌++◌, ◌∷◌, take}
use Rattle.std.specs.Prelude.{decimal, flat_map}
use Rattle.journal_text.proofs.words.named_numbers.Given as goal

abbrev pub invariant-numbers : goal.invariant-numbers
invariant-numbers l = l.out.items ≡ l.initial.out.items ++ flat_map (λ n. 44 ∷ decimal n) (take l.n-index l.rest)
