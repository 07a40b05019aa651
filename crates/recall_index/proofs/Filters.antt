-- An index is a filter of the uses that were added and not taken out.
use Rattle.std.proofs.Common.{◌≡◌, ◌∷◌, ◌++◌, [], List, ℕ, ◌<◌, Bool, true, false, nat_eq, not, cond, filter, map, length, refl, ap, sym, ◌∙◌, arith}
use Rattle.std.proofs.lemmas.List.{get_or-replicate, length-replicate}
use Rattle.recall_index.specs.Uses.{Use, UsingIsAFilter, is_in, using_of, without, without_each}

one_more : (s : ℕ) (uses : List Use) (u : Use) → using_of s (uses ++ u ∷ []) ≡ using_of s uses ++ cond (is_in s u.route) (u.number ∷ []) []
one_more s [] u = last (is_in s u.route)
  where
    last : (b : Bool) → map (λ (v : Use). v.number) (cond b (u ∷ []) []) ≡ cond b (u.number ∷ []) []
    last true = refl
    last false = refl
one_more s (v ∷ uses) u = by (is_in s v.route) (one_more s uses u)
  where
    end : List ℕ
    end = cond (is_in s u.route) (u.number ∷ []) []

    by : (b : Bool) → using_of s (uses ++ u ∷ []) ≡ using_of s uses ++ end
        → map (λ (w : Use). w.number) (cond b (v ∷ filter (λ w. is_in s w.route) (uses ++ u ∷ [])) (filter (λ w. is_in s w.route) (uses ++ u ∷ [])))
        ≡ map (λ (w : Use). w.number) (cond b (v ∷ filter (λ w. is_in s w.route) uses) (filter (λ w. is_in s w.route) uses)) ++ end
    by true e = ap (λ l. v.number ∷ l) e
    by false e = e

-- what passes a test of numbers is as much of the uses whose numbers pass
some_less : (p : ℕ → Bool) (s : ℕ) (uses : List Use) → filter p (using_of s uses) ≡ using_of s (filter (λ u. p u.number) uses)
some_less p s [] = refl
some_less p s (u ∷ uses) = by (is_in s u.route) (p u.number) refl refl (some_less p s uses)
  where
    passing : List Use
    passing = filter (λ w. p w.number) uses

    by : (holds stays : Bool) → is_in s u.route ≡ holds → p u.number ≡ stays → filter p (using_of s uses) ≡ using_of s passing
        → filter p (map (λ (w : Use). w.number) (cond holds (u ∷ filter (λ w. is_in s w.route) uses) (filter (λ w. is_in s w.route) uses)))
        ≡ using_of s (cond stays (u ∷ passing) passing)
    by true true h g e = rw (g, h) (ap (λ l. u.number ∷ l) e)
    by true false h g e = rw g e
    by false true h g e = rw h e
    by false false h g e = e

pub is_a_filter : UsingIsAFilter
is_a_filter = record {
  begins = λ segments s low. get_or-replicate segments s [] [] (omega (arith, low, length-replicate {A = List ℕ} segments []));
  added = λ old new uses u adds is s low. (let here : s < length old = omega (arith, low, adds.many) in
      adds.using s here ∙ (ap (λ l. l ++ cond (is_in s u.route) (u.number ∷ []) []) (is s here) ∙ sym (one_more s uses u)));
  removed = λ old new uses number goes is s low. (let here : s < length old = omega (arith, low, goes.many) in
      goes.using s here ∙ (ap (without number) (is s here) ∙ some_less (λ n. not (nat_eq n number)) s uses));
  removed_each = λ old new uses numbers goes is s low. (let here : s < length old = omega (arith, low, goes.many) in
      goes.using s here ∙ (ap (without_each numbers) (is s here) ∙ some_less (λ n. not (is_in n numbers)) s uses));
}
