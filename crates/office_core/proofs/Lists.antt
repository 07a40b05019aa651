-- What holds of each element.
use Rattle.std.proofs.Common.{◌≡◌, ◌∷◌, ◌++◌, [], ℕ, List, map, IfSome, Option, None, Some, true, subst}
use Rattle.std.specs.List.{All, concat, AllByRecursion as ByRecursion}
use Rattle.std.proofs.lemmas.List.Elements.{All-from_recursion, recursion_from_All}
use Rattle.std.proofs.lemmas.Option.{get_or_from_slice_get, slice_get_within}
use Rattle.trip_analysis.specs.Findings.{is_number_among}
use Rattle.trip_analysis.proofs.Found.{among_from_is_in}
pub use Rattle.trip_analysis.proofs.Found.{pick}

rec-map : {A B : Type 0} (P : A → Type 0) (Q : B → Type 0) (f : A → B) → ((x : A) → P x → Q (f x)) → (xs : List A) → ByRecursion P xs → ByRecursion Q (map f xs)
rec-map P Q f g [] h = tt
rec-map P Q f g (x ∷ xs) h = (g x h.0, rec-map P Q f g xs h.1)

pub All-map : {A B : Type 0} (P : A → Type 0) (Q : B → Type 0) (f : A → B) → ((x : A) → P x → Q (f x)) → (xs : List A) → All P xs → All Q (map f xs)
All-map P Q f g xs h = All-from_recursion Q (map f xs) (rec-map P Q f g xs (recursion_from_All P xs h))

rec-weaker : {A : Type 0} (P Q : A → Type 0) → ((x : A) → P x → Q x) → (xs : List A) → ByRecursion P xs → ByRecursion Q xs
rec-weaker P Q g [] h = tt
rec-weaker P Q g (x ∷ xs) h = (g x h.0, rec-weaker P Q g xs h.1)

pub All-weaker : {A : Type 0} (P Q : A → Type 0) → ((x : A) → P x → Q x) → (xs : List A) → All P xs → All Q xs
All-weaker P Q g xs h = All-from_recursion Q xs (rec-weaker P Q g xs (recursion_from_All P xs h))

rec-left : {A : Type 0} (P : A → Type 0) → (xs ys : List A) → ByRecursion P (xs ++ ys) → ByRecursion P xs
rec-left P [] ys h = tt
rec-left P (x ∷ xs) ys h = (h.0, rec-left P xs ys h.1)

rec-right : {A : Type 0} (P : A → Type 0) → (xs ys : List A) → ByRecursion P (xs ++ ys) → ByRecursion P ys
rec-right P [] ys h = h
rec-right P (x ∷ xs) ys h = rec-right P xs ys h.1

rec-each : (P : ℕ → Type 0) → (lists : List (List ℕ)) → ByRecursion P (concat lists) → ByRecursion (All P) lists
rec-each P [] h = tt
rec-each P (xs ∷ rest) h = (All-from_recursion P xs (rec-left P xs (concat rest) h), rec-each P rest (rec-right P xs (concat rest) h))

-- what holds of each number of lists that stand one after another holds of each number of each list
pub All-each : (P : ℕ → Type 0) → (lists : List (List ℕ)) → All P (concat lists) → All (All P) lists
All-each P lists h = All-from_recursion (All P) lists (rec-each P lists (recursion_from_All P (concat lists) h))

-- and of one number that is among those of a list
pub one_in : (P : ℕ → Type 0) (n : ℕ) (numbers : List ℕ) → All P numbers → is_number_among n numbers ≡ true → P n
one_in P n numbers all on = let (k, at) = among_from_is_in n numbers on in
    subst P (get_or_from_slice_get numbers k n 0 at) (all k 0 (slice_get_within numbers k n at))

-- what holds of a value, if there is one
pub IfSome-weaker : {A : Type 0} (o : Option A) (P Q : A → Type 0) → ((x : A) → P x → Q x) → IfSome o P → IfSome o Q
IfSome-weaker (Some x) P Q g h = g x h
IfSome-weaker None P Q g h = tt
