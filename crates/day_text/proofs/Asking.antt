-- The routes that a field asks for, part by part of its text.
use Rattle.std.proofs.Common.{◌≡◌, ◌≤◌, ◌==◌, ◌∷◌, ◌∙◌, [], ℕ, List, Bool, true, false, cond, Option, Some, None, length, nat_le, option_map, refl, sym, ap, subst, arith}
use Rattle.std.specs.Prelude.{option_and_then, unwrap_or}
use Rattle.std.specs.List.{slice_split}
use Rattle.std.proofs.lemmas.Bool.{leb-true}
use Rattle.std.proofs.lemmas.List.Splits.{length-slice_split}
use Rattle.road_graph.specs.Roads.{number_of as number_named}
use Rattle.day_text.specs.Fields.{few_routes, name_field, of_each, route_of, routes_field}
use Rattle.day_text.proofs.Each.{each_then}
use Rattle.day_text.specs.Commands.{asked_routes_of, numbers_of}

-- the segment of a text, where it is a segment's name
abbrev pub named_segment : List (List ℕ) → List ℕ → Option ℕ
named_segment known text = option_and_then (λ name. number_named name known) (name_field text)

-- the segments of a text around each space
abbrev pub named : List (List ℕ) → List ℕ → Option (List ℕ)
named known text = option_and_then (numbers_of known) (route_of text)

-- the segments of a text are those of its parts
pub named_by_parts : (known : List (List ℕ)) (text : List ℕ) → of_each (named_segment known) (slice_split (λ b. b == 32) text) ≡ named known text
named_by_parts known text = each_then name_field (λ name. number_named name known) (slice_split (λ b. b == 32) text)

abbrev bars : List ℕ → List (List ℕ)
bars text = slice_split (λ b. b == 124) text

-- what is asked for by a field that is not empty is asked for by its parts, which are few
record IsAsked (known : List (List ℕ)) (text : List ℕ) (names : List (List (List ℕ))) : Type 0 where
  few : length (bars text) ≤ 8
  asked : asked_routes_of known names ≡ option_map Some (of_each (named known) (bars text))

asked_some : (known : List (List ℕ)) (names : List (List (List ℕ))) → 1 ≤ length names → asked_routes_of known names ≡ option_map Some (of_each (numbers_of known) names)
asked_some known [] some = absurd (omega arith)
asked_some known (route ∷ names) some = refl

some_given : {A B : Type 0} (f : A → Option B) (xs : List A) (ys : List B) → 1 ≤ length xs → of_each f xs ≡ Some ys → 1 ≤ length ys
some_given f [] ys some e = absurd (omega arith)
some_given {A} {B} f (x ∷ xs) ys some e = by (f x) (of_each f xs) e
  where
    by : (first : Option B) (others : Option (List B)) → option_and_then (λ y. option_map (λ more. y ∷ more) others) first ≡ Some ys → 1 ≤ length ys
    by None others e = cc
    by (Some y) None e = cc
    by (Some y) (Some more) e = let same : y ∷ more ≡ ys = cc in subst (λ (l : List B). 1 ≤ length l) same (omega arith)

asked_by : (known : List (List ℕ)) (text : List ℕ) (names : List (List (List ℕ))) (few : Bool) → nat_le (length (bars text)) 8 ≡ few → cond few (of_each route_of (bars text)) None ≡ Some names → IsAsked known text names
asked_by known text names false is e = absurd (cc)
asked_by known text names true is e = record {
  few = leb-true _ _ is;
  asked =
      asked_some known names (some_given route_of (bars text) names (omega (arith, length-slice_split (λ b. b == 124) text)) e)
      ∙ ap (option_map Some) (sym (each_then route_of (numbers_of known) (bars text) ∙ ap (option_and_then (of_each (numbers_of known))) e));
}

asked_by_parts : (known : List (List ℕ)) (text : List ℕ) (names : List (List (List ℕ))) → (length text == 0) ≡ false → routes_field text ≡ Some names → IsAsked known text names
asked_by_parts known text names full e =
    asked_by known text names (nat_le (length (bars text)) 8) refl (subst (λ (empty : Bool). cond empty (Some []) (few_routes (bars text)) ≡ Some names) full e)

pub asked_found : (known : List (List ℕ)) (text : List ℕ) (names : List (List (List ℕ))) (found : Option (List (List ℕ))) → (length text == 0) ≡ false → routes_field text ≡ Some names → found ≡ of_each (named known) (bars text)
    → asked_routes_of known names ≡ option_map Some found
asked_found known text names found full e is = (asked_by_parts known text names full e).asked ∙ ap (option_map Some) (sym is)

-- what was found is all that is given, where there is a part or more
pub found_all : (found given : Option (List (List ℕ))) (n : ℕ) → given ≡ Some (unwrap_or found []) → length (unwrap_or found []) ≡ n → 1 ≤ n → found ≡ given
found_all None given n e many some = absurd (omega arith)
found_all (Some routes) given n e many some = sym e
