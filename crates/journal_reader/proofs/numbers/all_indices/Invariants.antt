use Rattle.std.proofs.Common.{◌≡◌, ◌++◌, length, option_map}
use Rattle.journal_reader.specs.Words.{all_of, place_of, parts, parts_left}
use Rattle.journal_reader.proofs.numbers.all_indices.Given as goal

abbrev pub invariant-parts : goal.invariant-parts
invariant-parts l = option_map (λ more. l.list.items ++ more) (all_of place_of (parts_left 44 l.rest)) ≡ all_of place_of (parts 44 l.word)

abbrev pub decreases-parts : goal.decreases-parts
decreases-parts l = length l.rest
