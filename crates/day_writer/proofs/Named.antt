-- Places of names in a list that grows.
use Rattle.std.proofs.Common.{◌≡◌, ◌≢◌, ◌∙◌, ◌+◌, ◌∷◌, ◌++◌, [], ℕ, suc, List, Option, Some, None, Bool, true, false, cond, ltb, refl, ap, sym, arith, length}
use Rattle.std.specs.Prelude.{option_map}
use Rattle.std.specs.List.{AllByRecursion}
use Rattle.std.specs.Str.{bytes_eq}
use Rattle.std.proofs.lemmas.Bool.Decides.{nat_tests}
use Rattle.std.proofs.lemmas.Slice.Eq.{bytes_eq-Decides}
use Rattle.road_graph.specs.Roads.{has_name, number_of as number_named}

-- the place of a name, by recursion
abbrev pub place_in : List ℕ → List (List ℕ) → Option ℕ
place_in name [] = None
place_in name (x ∷ xs) = cond (bytes_eq name x) (Some 0) (option_map suc (place_in name xs))

shifted : (n m : ℕ) → cond (ltb (1 + n) (suc m)) (Some (1 + n)) None ≡ option_map suc (cond (ltb n m) (Some n) None)
shifted n m = let one : 1 + n ≡ suc n = omega arith in rw one (by (ltb n m) (same n m))
  where
    same : (a b : ℕ) → ltb (suc a) (suc b) ≡ ltb a b
    same a b = grind (arith, nat_tests)

    by : (b : Bool) → ltb (suc n) (suc m) ≡ b → cond (ltb (suc n) (suc m)) (Some (suc n)) None ≡ option_map suc (cond b (Some n) None)
    by true e = rw e refl
    by false e = rw e refl

pub place_is : (name : List ℕ) (names : List (List ℕ)) → number_named name names ≡ place_in name names
place_is name [] = refl
place_is name (x ∷ xs) = by (bytes_eq name x) refl (place_is name xs)
  where
    by : (b : Bool) → bytes_eq name x ≡ b → number_named name xs ≡ place_in name xs → number_named name (x ∷ xs) ≡ cond b (Some 0) (option_map suc (place_in name xs))
    by true e more = let low : ltb 0 (suc (length xs)) ≡ true = grind (arith, nat_tests) in rw (e, low) refl
    by false e more = rw e (shifted _ _ ∙ ap (option_map suc) more)

pub same_text : (x : List ℕ) → bytes_eq x x ≡ true
same_text x = (bytes_eq-Decides x x).1 refl

pub other_text : (x y : List ℕ) → x ≢ y → bytes_eq x y ≡ false
other_text x y h = by (bytes_eq x y) refl
  where
    by : (b : Bool) → bytes_eq x y ≡ b → b ≡ false
    by true e = absurd (h ((bytes_eq-Decides x y).0 e))
    by false e = refl

-- the name has a number
pub record IsThere (name : List ℕ) (names : List (List ℕ)) : Type 0 where
  pub place : ℕ
  pub is : number_named name names ≡ Some place

place_append : (name : List ℕ) (xs ys : List (List ℕ)) (p : ℕ) → place_in name xs ≡ Some p → place_in name (xs ++ ys) ≡ Some p
place_append name [] ys p h = absurd (cc h)
place_append name (x ∷ xs) ys p h = by (bytes_eq name x) (place_in name xs) h (λ q k. place_append name xs ys q k)
  where
    by : (b : Bool) (o : Option ℕ) → cond b (Some 0) (option_map suc o) ≡ Some p → ((q : ℕ) → o ≡ Some q → place_in name (xs ++ ys) ≡ Some q) → cond b (Some 0) (option_map suc (place_in name (xs ++ ys))) ≡ Some p
    by true o k more = k
    by false None k more = absurd (cc k)
    by false (Some q) k more = rw (more q refl) k

place_last : (name : List ℕ) (xs : List (List ℕ)) → (p : ℕ) × (place_in name (xs ++ name ∷ []) ≡ Some p)
place_last name [] = (0, rw (same_text name) refl)
place_last name (x ∷ xs) = by (bytes_eq name x) (place_last name xs)
  where
    by : (b : Bool) → ((p : ℕ) × (place_in name (xs ++ name ∷ []) ≡ Some p)) → (p : ℕ) × (cond b (Some 0) (option_map suc (place_in name (xs ++ name ∷ []))) ≡ Some p)
    by true (p, e) = (0, refl)
    by false (p, e) = (suc p, rw e refl)

-- a name that is there stays there
pub there_still : (name : List ℕ) (xs ys : List (List ℕ)) → IsThere name xs → IsThere name (xs ++ ys)
there_still name xs ys t = record { place = t.place; is = place_is name (xs ++ ys) ∙ place_append name xs ys t.place (sym (place_is name xs) ∙ t.is) }

-- a name that was added is there
pub there_now : (name : List ℕ) (xs : List (List ℕ)) → IsThere name (xs ++ name ∷ [])
there_now name xs = let (p, e) = place_last name xs in record { place = p; is = place_is name (xs ++ name ∷ []) ∙ e }

-- a name that is none of them
pub not_there : (name : List ℕ) (xs : List (List ℕ)) → AllByRecursion (λ x. name ≢ x) xs → has_name name xs ≡ false
not_there name [] h = refl
not_there name (x ∷ xs) (h, hs) = rw (other_text name x h) (not_there name xs hs)

-- two names at one place are one
same_place : (a b : List ℕ) (xs : List (List ℕ)) (p : ℕ) → place_in a xs ≡ Some p → place_in b xs ≡ Some p → a ≡ b
same_place a b [] p h k = absurd (cc h)
same_place a b (x ∷ xs) p h k = by (bytes_eq a x) (bytes_eq b x) refl refl (place_in a xs) (place_in b xs) h k (λ q i j. same_place a b xs q i j)
  where
    by : (s t : Bool) → bytes_eq a x ≡ s → bytes_eq b x ≡ t → (o u : Option ℕ) → cond s (Some 0) (option_map suc o) ≡ Some p → cond t (Some 0) (option_map suc u) ≡ Some p → ((q : ℕ) → o ≡ Some q → u ≡ Some q → a ≡ b) → a ≡ b
    by true true e f o u h k more = (bytes_eq-Decides a x).0 e ∙ sym ((bytes_eq-Decides b x).0 f)
    by true false e f o None h k more = absurd (cc k)
    by true false e f o (Some q) h k more = let z : 0 ≡ p = cc in let w : suc q ≡ p = cc in absurd (omega arith)
    by false true e f None u h k more = absurd (cc h)
    by false true e f (Some q) u h k more = let z : 0 ≡ p = cc in let w : suc q ≡ p = cc in absurd (omega arith)
    by false false e f None u h k more = absurd (cc h)
    by false false e f (Some q) None h k more = absurd (cc k)
    by false false e f (Some q) (Some q') h k more = let z : suc q ≡ p = cc in let w : suc q' ≡ p = cc in more q refl (ap Some (omega arith))

pub one_name : (a b : List ℕ) (xs : List (List ℕ)) (p : ℕ) → number_named a xs ≡ Some p → number_named b xs ≡ Some p → a ≡ b
one_name a b xs p h k = same_place a b xs p (sym (place_is a xs) ∙ h) (sym (place_is b xs) ∙ k)
