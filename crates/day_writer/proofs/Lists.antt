-- An element of a list, by those in front of it and those behind it.
use Rattle.std.proofs.Common.{◌≡◌, ◌≢◌, ◌∙◌, ◌<◌, ◌∷◌, ◌++◌, [], ℕ, zero, suc, List, Some, false, All, get_or, length, map, set, refl, ap, sym, subst, arith, length-append}
use Rattle.std.specs.Prelude.{slice_get}
use Rattle.std.specs.List.{AllByRecursion}
use Rattle.std.proofs.lemmas.List.Elements.{recursion_from_All}
use Rattle.std.proofs.lemmas.Option.{slice_get-get_or}
use Rattle.road_graph.specs.Roads.{AreDistinct, has_name, number_of as number_named}
use Rattle.road_graph.proofs.Places.{get-front}
use Rattle.day_writer.proofs.Named.{not_there, other_text, place_in, place_is, same_text}

-- what is so of all is so of this one
in_here : {A : Type 0} (P : A → Type 0) (front : List A) (x : A) (rest : List A) → AllByRecursion P (front ++ (x ∷ rest)) → P x
in_here P [] x rest h = h.0
in_here P (y ∷ front) x rest h = in_here P front x rest h.1

pub all_here : {A : Type 0} (P : A → Type 0) (front : List A) (x : A) (rest all : List A) → front ++ (x ∷ rest) ≡ all → All P all → P x
all_here P front x rest all e h = in_here P front x rest (recursion_from_All P (front ++ (x ∷ rest)) (subst (All P) (sym e) h))

pub few_here : {A : Type 0} (front : List A) (x : A) (rest all : List A) → front ++ (x ∷ rest) ≡ all → length front < length all
few_here front x rest all e = omega (arith, ap length e, length-append front (x ∷ rest))

pub get_here : {A : Type 0} (front : List A) (x : A) (rest : List A) → slice_get (front ++ (x ∷ rest)) (length front) ≡ Some x
get_here [] x rest = refl
get_here (y ∷ front) x rest = get_here front x rest

pub at_here : {A : Type 0} (front : List A) (x : A) (rest : List A) (d : A) → get_or (front ++ (x ∷ rest)) (length front) d ≡ x
at_here [] x rest d = refl
at_here (y ∷ front) x rest d = at_here front x rest d

pub set_here : {A : Type 0} (front : List A) (x : A) (rest : List A) (y : A) → set (front ++ (x ∷ rest)) (length front) y ≡ front ++ (y ∷ rest)
set_here [] x rest y = refl
set_here (z ∷ front) x rest y = ap (λ l. z ∷ l) (set_here front x rest y)

pub map_here : {A B : Type 0} (f : A → B) (front : List A) (x : A) (rest all : List A) → front ++ (x ∷ rest) ≡ all → map f front ++ (f x ∷ map f rest) ≡ map f all
map_here {A} {B} f front x rest all e = both front ∙ ap (map f) e
  where
    both : (xs : List A) → map f xs ++ (f x ∷ map f rest) ≡ map f (xs ++ (x ∷ rest))
    both [] = refl
    both (y ∷ xs) = ap (λ (l : List B). f y ∷ l) (both xs)

-- a name of which there are no two is not among those in front of it
fresh_in : (front : List (List ℕ)) (name : List ℕ) (rest : List (List ℕ)) → AreDistinct (front ++ (name ∷ rest)) → has_name name front ≡ false
fresh_in front name rest h =
    not_there name front (recursion_from_All (λ x. name ≢ x) front (λ k d low same.
    let there : slice_get (front ++ (name ∷ rest)) k ≡ Some name = get-front front (name ∷ rest) k name (slice_get-get_or front k d low ∙ ap (λ (n : List ℕ). Some n) (sym same)) in
    let one : k ≡ length front = h.once k (length front) name there (get_here front name rest) in
    absurd (omega arith)))

pub fresh_here : (front : List (List ℕ)) (name : List ℕ) (rest all : List (List ℕ)) → front ++ (name ∷ rest) ≡ all → AreDistinct all → has_name name front ≡ false
fresh_here front name rest all e h = fresh_in front name rest (subst AreDistinct (sym e) h)

-- names of which no two are the same are each found at its place
fewer : (x : List ℕ) (xs : List (List ℕ)) → AreDistinct (x ∷ xs) → AreDistinct xs
fewer x xs h = record { once = λ i j name a b. let e : suc i ≡ suc j = h.once (suc i) (suc j) name a b in omega arith }

placed : (names : List (List ℕ)) (i : ℕ) (name : List ℕ) → AreDistinct names → slice_get names i ≡ Some name → place_in name names ≡ Some i
placed [] i name h at = absurd (cc at)
placed (x ∷ names) zero name h at = let e : x ≡ name = cc in rw (e, same_text name) refl
placed (x ∷ names) (suc i) name h at =
    let other : name ≢ x = (λ e. let z : zero ≡ suc i = h.once zero (suc i) name (ap (λ (n : List ℕ). Some n) (sym e)) at in absurd (omega arith)) in
    rw (other_text name x other, placed names i name (fewer x names h) at) refl

pub found_at : (names : List (List ℕ)) (i : ℕ) (name : List ℕ) → AreDistinct names → slice_get names i ≡ Some name → number_named name names ≡ Some i
found_at names i name h at = place_is name names ∙ placed names i name h at

pub found_within : (names : List (List ℕ)) (i : ℕ) → AreDistinct names → i < length names → number_named (get_or names i []) names ≡ Some i
found_within names i h low = found_at names i (get_or names i []) h (slice_get-get_or names i [] low)

-- what is so of the names of some things is so of the name of each
pub named_at : {A : Type 0} (P : List ℕ → Type 0) (name : A → List ℕ) (xs : List A) (i : ℕ) (d : A) → i < length xs → All P (map name xs) → P (name (get_or xs i d))
named_at {A} P name xs i d low h = by xs i low (recursion_from_All P (map name xs) h)
  where
    by : (ys : List A) (k : ℕ) → k < length ys → AllByRecursion P (map name ys) → P (name (get_or ys k d))
    by [] k low h = absurd (omega arith)
    by (y ∷ ys) zero low h = h.0
    by (y ∷ ys) (suc k) low h = by ys k (omega arith) h.1
