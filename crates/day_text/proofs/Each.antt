-- What is given for each of some things.
use Rattle.std.proofs.Common.{◌≡◌, ◌<◌, ◌≤◌, ◌+◌, ◌∷◌, ◌++◌, ◌∙◌, ◌&&◌, [], ℕ, List, Bool, Option, Some, None, All, append_assoc, drop, get_or, length, option_map, refl, sym, ap, subst}
use Rattle.std.specs.Prelude.{is_some, option_and_then}
use Rattle.std.specs.List.{list_all}
use Rattle.std.proofs.lemmas.List.{append-nil, at_drop_all, at_drop_more}
use Rattle.std.proofs.lemmas.List.Elements.{All-cons, All-nil}
use Rattle.day_text.specs.Fields.{of_each}

-- the first thing's, and the others' behind it
abbrev first_and : {B : Type 0} → Option B → Option (List B) → Option (List B)
first_and first others = option_and_then (λ y. option_map (λ ys. y ∷ ys) others) first

module _ {A B : Type 0} (f : A → Option B) where
  -- it is told thing by thing
  pub each_there : (xs : List A) → is_some (of_each f xs) ≡ list_all (λ x. is_some (f x)) xs
  each_there [] = refl
  each_there (x ∷ xs) = by (f x) (of_each f xs) ∙ ap (λ (b : Bool). is_some (f x) && b) (each_there xs)
    where
      by : (first : Option B) (others : Option (List B)) → is_some (first_and first others) ≡ (is_some first && is_some others)
      by None others = refl
      by (Some y) None = refl
      by (Some y) (Some ys) = refl

  -- what is so of all that is given
  pub each_holds : (P : B → Type 0) → ((x : A) (y : B) → f x ≡ Some y → P y) → (xs : List A) (ys : List B) → of_each f xs ≡ Some ys → All P ys
  each_holds P h [] ys e = let same : [] ≡ ys = cc in subst (All P) same (All-nil P)
  each_holds P h (x ∷ xs) ys e = by (f x) refl (of_each f xs) (each_holds P h xs) e
    where
      by : (first : Option B) → f x ≡ first → (others : Option (List B)) → ((found : List B) → others ≡ Some found → All P found) → first_and first others ≡ Some ys → All P ys
      by None is others k e = cc
      by (Some y) is None k e = cc
      by (Some y) is (Some found) k e = let same : y ∷ found ≡ ys = cc in subst (All P) same (All-cons P y found (h x y is) (k found refl))

  -- what is given for the things in front of a place is `front`
  abbrev pub IsSoFar : List A → ℕ → List B → Type 0
  IsSoFar xs n front = option_map (λ more. front ++ more) (of_each f (drop n xs)) ≡ of_each f xs

  at_place : (xs : List A) (n : ℕ) (front : List B) (x : A) (o : Option B) → n < length xs → x ≡ get_or xs n x → f x ≡ o → IsSoFar xs n front
      → option_map (λ more. front ++ more) (first_and o (of_each f (drop (n + 1) xs))) ≡ of_each f xs
  at_place xs n front x o low here is so_far =
      ap (λ (first : Option B). option_map (λ more. front ++ more) (first_and first (of_each f (drop (n + 1) xs)))) (sym is)
      ∙ (ap (λ (next : A). option_map (λ more. front ++ more) (of_each f (next ∷ drop (n + 1) xs))) here
      ∙ (sym (ap (option_map (λ more. front ++ more)) (at_drop_more (of_each f) xs n x low)) ∙ so_far))

  -- one thing more
  pub far_more : (xs : List A) (n : ℕ) (front : List B) (x : A) (y : B) → n < length xs → x ≡ get_or xs n x → f x ≡ Some y → IsSoFar xs n front → IsSoFar xs (n + 1) (front ++ y ∷ [])
  far_more xs n front x y low here is so_far = by (of_each f (drop (n + 1) xs)) ∙ at_place xs n front x (Some y) low here is so_far
    where
      by : (rest : Option (List B)) → option_map (λ more. (front ++ y ∷ []) ++ more) rest ≡ option_map (λ more. front ++ more) (option_map (λ ys. y ∷ ys) rest)
      by None = refl
      by (Some ys) = ap (λ (l : List B). Some l) (append_assoc front (y ∷ []) ys)

  -- one thing for which nothing is given
  pub far_missing : (xs : List A) (n : ℕ) (front : List B) (x : A) → n < length xs → x ≡ get_or xs n x → f x ≡ None → IsSoFar xs n front → of_each f xs ≡ None
  far_missing xs n front x low here is so_far = sym (at_place xs n front x None low here is so_far)

  -- all things
  pub far_all : (xs : List A) (n : ℕ) (front : List B) → length xs ≤ n → IsSoFar xs n front → of_each f xs ≡ Some front
  far_all xs n front many so_far =
      sym so_far ∙ (ap (option_map (λ more. front ++ more)) (at_drop_all (of_each f) xs n many) ∙ ap (λ (l : List B). Some l) (append-nil front))

-- of what is given, something may be given for each in turn
pub each_then : {A B C : Type 0} (f : A → Option B) (g : B → Option C) (xs : List A) → of_each (λ x. option_and_then g (f x)) xs ≡ option_and_then (of_each g) (of_each f xs)
each_then f g [] = refl
each_then {A} {B} {C} f g (x ∷ xs) = by (f x) (of_each f xs) (of_each (λ z. option_and_then g (f z)) xs) (each_then f g xs)
  where
    missing : (z : Option C) → first_and z None ≡ None
    missing None = refl
    missing (Some c) = refl

    by : (first : Option B) (others : Option (List B)) (rest : Option (List C)) → rest ≡ option_and_then (of_each g) others
        → first_and (option_and_then g first) rest ≡ option_and_then (of_each g) (first_and first others)
    by None others rest e = refl
    by (Some y) None rest e = ap (first_and (g y)) e ∙ missing (g y)
    by (Some y) (Some ys) rest e = ap (first_and (g y)) e
