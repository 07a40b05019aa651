-- A name is there where it has a number.
use Rattle.std.proofs.Common.{◌≡◌, ◌∙◌, ◌∷◌, ◌+◌, [], ℕ, List, Some, None, Bool, true, false, cond, length, refl, sym, arith}
use Rattle.std.specs.Prelude.{◌||◌, nat_lt, not}
use Rattle.std.specs.List.{list_any, position_or_len}
use Rattle.std.specs.Option.{is_some}
use Rattle.std.specs.Str.{bytes_eq}
use Rattle.std.proofs.lemmas.Bool.Decides.{nat_tests}
use Rattle.road_graph.specs.Roads.{has_name, number_of}

-- an element passes exactly where those in front that fail are not all
any_before_end : {A : Type 0} (p : A → Bool) (xs : List A) → list_any p xs ≡ nat_lt (position_or_len p xs) (length xs)
any_before_end p [] = refl
any_before_end p (x ∷ xs) = by (p x) (any_before_end p xs)
  where
    by : (b : Bool) → list_any p xs ≡ nat_lt (position_or_len p xs) (length xs) → (b || list_any p xs) ≡ nat_lt (cond (not b) (1 + position_or_len p xs) 0) (length (x ∷ xs))
    by true e = grind (arith, nat_tests)
    by false e = grind (arith, nat_tests, e)

is_some-cond : (b : Bool) (n : ℕ) → is_some (cond b (Some n) None) ≡ b
is_some-cond true n = refl
is_some-cond false n = refl

-- a name is there exactly where it has a number
pub numbered_is_there : (name : List ℕ) (names : List (List ℕ)) → has_name name names ≡ is_some (number_of name names)
numbered_is_there name names =
    any_before_end (bytes_eq name) names ∙ sym (is_some-cond (nat_lt (position_or_len (bytes_eq name) names) (length names)) (position_or_len (bytes_eq name) names))
