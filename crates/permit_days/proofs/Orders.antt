-- The order of the bytes of days is the order of the calendar.
use Rattle.std.proofs.Common.{◌≡◌, ◌⊎◌, ◌+◌, ◌-◌, ◌*◌, ◌<◌, ◌≤◌, ◌≢◌, ◌∷◌, [], ℕ, suc, zero, List, true, length, get_or, refl, ap, sym, subst, inl, inr, arith, ◌∙◌}
use Rattle.std.specs.declared.cmp.Ordering.{Ordering}
use Rattle.std.specs.declared.cmp.Ordering.TheVariants.{Less, Equal, Greater}
use Rattle.std.specs.Ordering.{MatchOrdering, is_eq, nat_cmp, ordering_reverse, ordering_then}
use Rattle.std.specs.Cmp.{first_so}
use Rattle.std.specs.Cmp.Lexicographic.{bytes_decides, nat_list_cmp_total, slice_cmp, texts_ties}
use Rattle.std.proofs.lemmas.Cmp.{ranked}
use Rattle.std.proofs.lemmas.Bool.{cases_lt}
use Rattle.permit_days.specs.Days.{day_of_month, digit_at, has_shape, is_day, is_day_text, month_of, year_of}
use Rattle.permit_days.specs.Laws.{IsEarlier}
use Rattle.permit_days.proofs.Shapes.{IsShaped, digit_at-most, shaped}

-- the first place at which two lists of one length differ
record IsFirstLess (xs ys : List ℕ) : Type 0 where
  at : ℕ
  within : at < length xs
  same : (j : ℕ) → j < at → get_or xs j 0 ≡ get_or ys j 0
  less : get_or xs at 0 < get_or ys at 0

same_more : (x y : ℕ) (xs ys : List ℕ) (k : ℕ) → x ≡ y → ((j : ℕ) → j < k → get_or xs j 0 ≡ get_or ys j 0) → (j : ℕ) → j < suc k → get_or (x ∷ xs) j 0 ≡ get_or (y ∷ ys) j 0
same_more x y xs ys k is same zero low = is
same_more x y xs ys k is same (suc j) low = same j (omega (arith, low))

first_less : (xs ys : List ℕ) → length xs ≡ length ys → slice_cmp nat_cmp xs ys ≡ Less → IsFirstLess xs ys
first_less [] [] e h = cc
first_less [] (y ∷ ys) e h = absurd (omega (arith, e))
first_less (x ∷ xs) [] e h = absurd (omega (arith, e))
first_less (x ∷ xs) (y ∷ ys) e h = by (nat_cmp x y) (ranked x y (nat_cmp x y) refl) (λ k. first_less xs ys (omega (arith, e)) k) h
  where
    by : (o : Ordering) → MatchOrdering o (x < y) (x ≡ y) (y < x) → (slice_cmp nat_cmp xs ys ≡ Less → IsFirstLess xs ys) → ordering_then o (slice_cmp nat_cmp xs ys) ≡ Less → IsFirstLess (x ∷ xs) (y ∷ ys)
    by Less less rest k = record { at = 0; within = omega arith; same = λ j low. absurd (omega (arith, low)); less = less }
    by Equal is rest k = let r = rest k in record { at = suc r.at; within = omega (arith, r.within); same = same_more x y xs ys r.at is r.same; less = r.less }
    by Greater more rest k = cc

-- one year, month and day before another
abbrev pub IsBefore : ℕ → ℕ → ℕ → ℕ → ℕ → ℕ → Type 0
IsBefore y m d y' m' d' = (y < y') ⊎ ((y ≡ y') × ((m < m') ⊎ ((m ≡ m') × (d < d'))))

not_both : (y m d y' m' d' : ℕ) → IsBefore y m d y' m' d' → IsBefore y' m' d' y m d → ⊥
not_both y m d y' m' d' (inl a) (inl b) = omega (arith, a, b)
not_both y m d y' m' d' (inl a) (inr b) = omega (arith, a, b.0)
not_both y m d y' m' d' (inr a) (inl b) = omega (arith, a.0, b)
not_both y m d y' m' d' (inr (e, inl a)) (inr (f, inl b)) = omega (arith, a, b)
not_both y m d y' m' d' (inr (e, inl a)) (inr (f, inr b)) = omega (arith, a, b.0)
not_both y m d y' m' d' (inr (e, inr a)) (inr (f, inl b)) = omega (arith, a.0, b)
not_both y m d y' m' d' (inr (e, inr a)) (inr (f, inr b)) = omega (arith, a.1, b.1)

-- digits p and q, of which the one at k is the first that differs
module _ (p q : ℕ → ℕ) (k : ℕ) (few : (i : ℕ) → i < 10 → p i ≤ 9) (same : (j : ℕ) → j < k → p j ≡ q j) (less : p k < q k) where
  less_at : (i : ℕ) → k ≡ i → p i < q i
  less_at i is = subst (λ (n : ℕ). p n < q n) is less

  year_less : k < 4 → 100 * (10 * p 0 + p 1) + (10 * p 2 + p 3) < 100 * (10 * q 0 + q 1) + (10 * q 2 + q 3)
  year_less low =
      let a = few 1 (omega arith) in let b = few 2 (omega arith) in let c = few 3 (omega arith) in
      elim (cases_lt k 1) [
        | inl w ↦ (let l = less_at 0 (omega (arith, w)) in omega (arith, l, a, b, c))
        | inr w ↦ elim (cases_lt k 2) [
          | inl u ↦ (let l = less_at 1 (omega (arith, w, u)) in omega (arith, same 0 (omega (arith, w)), l, b, c))
          | inr u ↦ elim (cases_lt k 3) [
            | inl v ↦ (let l = less_at 2 (omega (arith, u, v)) in omega (arith, same 0 (omega (arith, u)), same 1 (omega (arith, u)), l, c))
            | inr v ↦ (let l = less_at 3 (omega (arith, v, low)) in omega (arith, same 0 (omega (arith, v)), same 1 (omega (arith, v)), same 2 (omega (arith, v)), l))
          ]
        ]
      ]

  -- the later of two neighbouring digits, or the earlier
  pair_less : (i j : ℕ) → i + 1 ≡ j → j < 10 → i ≤ k → k ≤ j → 10 * p i + p j < 10 * q i + q j
  pair_less i j next within low high = elim (cases_lt k j) [
    | inl w ↦ (let l = less_at i (omega (arith, next, low, w)) in omega (arith, l, few j within))
    | inr w ↦ (let l = less_at j (omega (arith, high, w)) in omega (arith, l, same i (omega (arith, next, w))))
  ]

  before : k < 10 → k ≢ 4 → k ≢ 7
      → IsBefore (100 * (10 * p 0 + p 1) + (10 * p 2 + p 3)) (10 * p 5 + p 6) (10 * p 8 + p 9) (100 * (10 * q 0 + q 1) + (10 * q 2 + q 3)) (10 * q 5 + q 6) (10 * q 8 + q 9)
  before within not4 not7 = elim (cases_lt k 4) [
    | inl w ↦ inl (year_less w)
    | inr w ↦ inr (
      omega (arith, same 0 (omega (arith, w)), same 1 (omega (arith, w)), same 2 (omega (arith, w)), same 3 (omega (arith, w, not4))),
      elim (cases_lt k 7) [
        | inl u ↦ inl (pair_less 5 6 (omega arith) (omega arith) (omega (arith, w, not4)) (omega (arith, u)))
        | inr u ↦ inr (omega (arith, same 5 (omega (arith, u)), same 6 (omega (arith, u))), pair_less 8 9 (omega arith) (omega arith) (omega (arith, u, not7)) (omega (arith, within)))
      ],
    )
  ]

module _ (a b : List ℕ) (s : IsShaped a) (t : IsShaped b) where
  pub earlier : slice_cmp nat_cmp a b ≡ Less → IsEarlier a b
  earlier h =
      let f = first_less a b (s.long ∙ sym t.long) h in
      let within : f.at < 10 = omega (arith, f.within, s.long) in
      let not4 : f.at ≢ 4 = (λ is. let l : get_or a 4 0 < get_or b 4 0 = subst (λ (n : ℕ). get_or a n 0 < get_or b n 0) is f.less in omega (arith, l, s.first_dash, t.first_dash)) in
      let not7 : f.at ≢ 7 = (λ is. let l : get_or a 7 0 < get_or b 7 0 = subst (λ (n : ℕ). get_or a n 0 < get_or b n 0) is f.less in omega (arith, l, s.second_dash, t.second_dash)) in
      let digit = s.digits f.at within not4 not7 in
      let less : digit_at a f.at < digit_at b f.at = omega (arith, f.less, digit.0) in
      before (digit_at a) (digit_at b) f.at (λ i low. digit_at-most a i s low) (λ j low. ap (λ (n : ℕ). n - 48) (f.same j low)) less within not4 not7

same_text : (a b : List ℕ) → slice_cmp nat_cmp a b ≡ Equal → a ≡ b
same_text a b h = (bytes_decides a b).0 (texts_ties a b ∙ ap is_eq h)

pub later : (a b : List ℕ) → IsShaped a → IsShaped b → IsEarlier a b → slice_cmp nat_cmp a b ≡ Less
later a b s t h = by (slice_cmp nat_cmp a b) refl
  where
    twice : IsEarlier b a → ⊥
    twice g = not_both (year_of a) (month_of a) (day_of_month a) (year_of b) (month_of b) (day_of_month b) h g

    by : (o : Ordering) → slice_cmp nat_cmp a b ≡ o → o ≡ Less
    by Less is = refl
    by Equal is = absurd (let e : a ≡ b = same_text a b is in twice (subst (λ (x : List ℕ). IsEarlier x a) e (subst (λ (x : List ℕ). IsEarlier a x) (sym e) h)))
    by Greater is = absurd (twice (earlier b a t s (nat_list_cmp_total.antisymm b a ∙ ap ordering_reverse is)))

pub shape_of : (text : List ℕ) → is_day_text text ≡ true → IsShaped text
shape_of text h = shaped text (first_so (has_shape text) (is_day (year_of text) (month_of text) (day_of_month text)) h)
