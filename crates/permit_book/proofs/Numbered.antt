-- Permits stay numbered by their places.
use Rattle.std.proofs.Common.{◌≡◌, ◌∷◌, ◌++◌, [], List, ℕ, zero, suc, ◌+◌, ◌-◌, ◌<◌, ◌≤◌, length, set, get_or, ap, subst, ◌∙◌, true, nat_lt, Option, Some, None, is_some, IfSome, Bor, arith}
use Rattle.std.proofs.lemmas.Bool.Decides.{nat_tests}
use Rattle.std.proofs.lemmas.List.{length-append, length-set}
use Rattle.permit_book.specs.declared.permit.Permit.{Permit}
use Rattle.permit_book.specs.Permits.{AreNumbered, is_issued}
use Rattle.permit_book.specs.Books.{IsBook}

numbered_more : (n : ℕ) (ps : List Permit) (p : Permit) → AreNumbered n ps → p.number ≡ n + length ps + 1 → AreNumbered n (ps ++ p ∷ [])
numbered_more n [] p h e = (omega (arith, e), tt)
numbered_more n (q ∷ ps) p h e = (h.0, numbered_more (n + 1) ps p h.1 (omega (arith, e)))

numbered_set : (n : ℕ) (ps : List Permit) (k : ℕ) (p : Permit) → AreNumbered n ps → p.number ≡ n + k + 1 → AreNumbered n (set ps k p)
numbered_set n [] k p h e = tt
numbered_set n (q ∷ ps) zero p h e = (omega (arith, e), h.1)
numbered_set n (q ∷ ps) (suc k) p h e = (h.0, numbered_set (n + 1) ps k p h.1 (omega (arith, e)))

numbered_at : (n : ℕ) (ps : List Permit) (k : ℕ) (d : Permit) → AreNumbered n ps → k < length ps → (get_or ps k d).number ≡ n + k + 1
numbered_at n [] k d h low = absurd (omega (arith, low))
numbered_at n (p ∷ ps) zero d h low = omega (arith, h.0)
numbered_at n (p ∷ ps) (suc k) d h low = omega (arith, numbered_at (n + 1) ps k d h.1 (omega (arith, low)))

-- the permit of a number has that number
pub number_at : (ps : List Permit) (k : ℕ) (d : Permit) → IsBook ps → k < length ps → (get_or ps k d).number ≡ k + 1
number_at ps k d h low = omega (arith, numbered_at 0 ps k d h.numbered low)

-- one permit more, with the next number
pub book_more : (ps : List Permit) (p : Permit) → IsBook ps → length ps < 1000000 → p.number ≡ length ps + 1 → IsBook (ps ++ p ∷ [])
book_more ps p h room e = record {
  numbered = numbered_more 0 ps p h.numbered (omega (arith, e));
  few = omega (arith, length-append ps (p ∷ []), room);
}

-- whether a permit was issued tells that its place is there
pub within : (ps : List Permit) (number : ℕ) → is_issued ps number ≡ true → number - 1 < length ps
within ps number h = grind (arith, nat_tests)

-- the permit of a number changes, and keeps its number
pub book_set : (ps view : List Permit) (number : ℕ) (q p : Permit) → ps ≡ view → IsBook ps → is_issued view number ≡ true → q ≡ get_or ps (number - 1) q → p.number ≡ q.number → IsBook (set ps (number - 1) p)
book_set ps view number q p same h issued is e =
    let low : number - 1 < length ps = within ps number (ap (λ (l : List Permit). is_issued l number) same ∙ issued) in
    let at : q.number ≡ number - 1 + 1 = ap (λ (r : Permit). r.number) is ∙ number_at ps (number - 1) q h low in
    record {
      numbered = numbered_set 0 ps (number - 1) p h.numbered (omega (arith, e, at));
      few = omega (arith, length-set ps (number - 1) p, h.few);
    }

-- what is found at a place has the number of the place
pub number_found : (r : Option (Bor Permit)) (items ps : List Permit) (number : ℕ) → items ≡ ps → IsBook ps → 1 ≤ number → is_some r ≡ nat_lt (number - 1) (length items) → IfSome r (λ x. x.now ≡ get_or items (number - 1) x.now) → IfSome r (λ permit. permit.now.number ≡ number)
number_found None items ps number same h some there is = tt
number_found (Some x) items ps number same h some there is =
    let low : number - 1 < length ps = subst (λ (l : List Permit). number - 1 < length l) same (grind (arith, nat_tests, there)) in
    let at : x.now ≡ get_or ps (number - 1) x.now = subst (λ (l : List Permit). x.now ≡ get_or l (number - 1) x.now) same is in
    omega (arith, ap (λ (r : Permit). r.number) at, number_at ps (number - 1) x.now h low, some)
