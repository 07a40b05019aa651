-- The number of a name is the place where it stands, and a map has it as a key where it is among the keys.
use Rattle.std.proofs.Common.{◌≡◌, ℕ, List, Some, get_or, ap, sym, ◌∙◌}
use Rattle.std.specs.Prelude.{slice_get, is_some}
use Rattle.std.specs.Map.{keys_of, lookup}
use Rattle.std.specs.Str.{bytes_eq}
use Rattle.std.proofs.lemmas.List.Quantifiers.{position-Some}
use Rattle.std.proofs.lemmas.Option.{slice_get-get_or}
use Rattle.std.proofs.lemmas.Slice.Eq.{bytes_eq-Decides}
use Rattle.std.proofs.lemmas.Map.Made.{is_some-lookup}
use Rattle.road_graph.specs.Roads.{has_name, number_of}

pub number_found : (names : List (List ℕ)) (name : List ℕ) (i : ℕ) → number_of name names ≡ Some i → slice_get names i ≡ Some name
number_found names name i e =
    let (within, same, first) = position-Some (bytes_eq name) names i name e in
    let is : name ≡ get_or names i name = (bytes_eq-Decides name (get_or names i name)).0 same in
    slice_get-get_or names i name within ∙ ap (λ (n : List ℕ). Some n) (sym is)

pub name_is_there : {X : Type 0} (name : List ℕ) (entries : List (List ℕ × X)) → is_some (lookup (bytes_eq name) entries) ≡ has_name name (keys_of entries)
name_is_there name entries = is_some-lookup (bytes_eq name) entries
