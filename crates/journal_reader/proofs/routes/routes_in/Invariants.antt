use Rattle.std.proofs.Common.{◌≡◌, ◌≤◌, ◌++◌, length, option_map}
use Rattle.journal_reader.specs.Words.{all_of, list_of, parts, parts_left, place_of}
use Rattle.journal_reader.proofs.routes.routes_in.Given as goal

abbrev pub invariant-parts : goal.invariant-parts
invariant-parts l = record {
  read : option_map (λ more. l.routes ++ more) (all_of (list_of place_of) (parts_left 47 l.rest)) ≡ all_of (list_of place_of) (parts 47 l.word);
  few : length l.routes ≤ 8;
}

abbrev pub decreases-parts : goal.decreases-parts
decreases-parts l = length l.rest
