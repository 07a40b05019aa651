-- Rising numbers: whether one is among them, and what is left without it.
use Rattle.std.proofs.Common.{◌≡◌, ◌≢◌, ◌∷◌, ◌++◌, [], List, ℕ, ◌+◌, ◌-◌, ◌<◌, ◌≤◌, ◌⊎◌, inl, inr, Bool, true, false, nat_eq, not, ◌&&◌, ◌||◌, cond, filter, length, get_or, take, drop, Ok, Err, refl, ap, sym, ◌∙◌, arith}
use Rattle.std.specs.List.{All, between}
use Rattle.std.specs.List.Sorted.{IsBinarySearchResult, IsStrictlyIncreasing}
use Rattle.std.specs.Ordering.{nat_cmp}
use Rattle.std.proofs.lemmas.Bool.{cases_eq, cases_lt, eq-eqb, eqb-true, ne_eqb, true≢false}
use Rattle.std.proofs.lemmas.List.{get_or_default, get_or-drop, get_or-take, length-drop, length-take}
use Rattle.std.proofs.lemmas.List.Edits.{get_or-between, length-between}
use Rattle.std.proofs.lemmas.List.Elements.{All-head, All-tail, filter_agree, filter_passes}
use Rattle.std.proofs.lemmas.List.Folds.{Any-from_list_any, list_any-append, list_any_none, list_any-from_Any}
use Rattle.std.proofs.lemmas.List.Kept.{AllPairs-from_increasing}
use Rattle.std.proofs.lemmas.List.Sorted.{searched}
use Rattle.recall_index.specs.Uses.{is_in, without, without_each}

pub either : (b : Bool) → (b || false) ≡ b
either true = refl
either false = refl

-- a number from which all differ is not among them
pub absent : (n : ℕ) (xs : List ℕ) → ((k : ℕ) → k < length xs → get_or xs k 0 ≢ n) → is_in n xs ≡ false
absent n xs apart = list_any_none (λ k. nat_eq k n) xs (λ k d low. ne_eqb (get_or xs k d) n (λ e. apart k low (get_or_default xs k 0 d low ∙ e)))

pub there : (n : ℕ) (xs : List ℕ) (k : ℕ) → k < length xs → get_or xs k 0 ≡ n → is_in n xs ≡ true
there n xs k low is = list_any-from_Any (λ j. nat_eq j n) xs (k, n, low, get_or_default xs k n 0 low ∙ is, eq-eqb n n refl)

-- of numbers that rise and are not above this one only the last can be it
pub is_last : (n last : ℕ) (xs : List ℕ) → IsStrictlyIncreasing xs → All (λ k. k ≤ n) xs → 0 < length xs → last ≡ get_or xs (length xs - 1) 0 → nat_eq last n ≡ is_in n xs
is_last n last xs rising below some is = by (cases_eq last n)
  where
    by : (last ≡ n) ⊎ (last ≡ n → ⊥) → nat_eq last n ≡ is_in n xs
    by (inl e) = eq-eqb last n e ∙ sym (there n xs (length xs - 1) (omega (arith, some)) (sym is ∙ e))
    by (inr ne) = ne_eqb last n ne ∙ sym (absent n xs (λ k low e. at k low e (cases_lt (k + 1) (length xs))))
      where
        at : (k : ℕ) → k < length xs → get_or xs k 0 ≡ n → (k + 1 < length xs) ⊎ (length xs ≤ k + 1) → ⊥
        at k low e (inl more) = let next : get_or xs (k + 1) 0 ≤ n = below (k + 1) 0 more in let up : get_or xs k 0 < get_or xs (k + 1) 0 = rising k more in omega (arith, e, next, up)
        at k low e (inr end) = let same : k ≡ length xs - 1 = omega (arith, low, end) in ne (is ∙ (ap (λ j. get_or xs j 0) (sym same) ∙ e))

-- numbers that pass a test stay, and those that fail it are gone
pub stay : (p : ℕ → Bool) (xs : List ℕ) → All (λ x. p x ≡ true) xs → filter p xs ≡ xs
stay p [] all = refl
stay p (x ∷ xs) all = ap (λ b. cond b (x ∷ filter p xs) (filter p xs)) (All-head (λ x. p x ≡ true) x xs all) ∙ ap (λ l. x ∷ l) (stay p xs (All-tail (λ x. p x ≡ true) x xs all))

pub gone : (p : ℕ → Bool) (xs : List ℕ) → All (λ x. p x ≡ false) xs → filter p xs ≡ []
gone p [] none = refl
gone p (x ∷ xs) none = ap (λ b. cond b (x ∷ filter p xs) (filter p xs)) (All-head (λ x. p x ≡ false) x xs none) ∙ gone p xs (All-tail (λ x. p x ≡ false) x xs none)

-- a number that is among them has a place
pub place_in : (n : ℕ) (xs : List ℕ) → is_in n xs ≡ true → (k : ℕ) × (k < length xs) × (get_or xs k 0 ≡ n)
place_in n xs e = let h = Any-from_list_any (λ k. nat_eq k n) xs e in (h.0, h.2, get_or_default xs h.0 0 h.1 h.2 ∙ (h.3 ∙ eqb-true h.1 n h.4))

-- without a number that is not among them they stay
pub without_absent : (n : ℕ) (xs : List ℕ) → is_in n xs ≡ false → without n xs ≡ xs
without_absent n xs none = stay (λ k. not (nat_eq k n)) xs (λ k d low. ap not (ne_eqb (get_or xs k d) n (λ e. true≢false (sym (there n xs k low (get_or_default xs k 0 d low ∙ e)) ∙ none))))

-- without numbers none of which is among them they stay
pub without_none : (ns xs : List ℕ) → All (λ n. is_in n xs ≡ false) ns → without_each ns xs ≡ xs
without_none ns xs none = stay (λ k. not (is_in k ns)) xs (λ k d low. ap not (absent (get_or xs k d) ns (λ j l e. true≢false (sym (there (get_or ns j 0) xs k low (get_or_default xs k 0 d low ∙ sym e)) ∙ none j 0 l))))

-- without one number they are as without the list of it
pub without_one : (n : ℕ) (xs : List ℕ) → without_each (n ∷ []) xs ≡ without n xs
without_one n xs = filter_agree (λ k. not (is_in k (n ∷ []))) (λ k. not (nat_eq k n)) (λ k. by k (cases_eq k n)) xs
  where
    by : (k : ℕ) → (k ≡ n) ⊎ (k ≡ n → ⊥) → not (nat_eq n k || false) ≡ not (nat_eq k n)
    by k (inl e) = ap (λ b. not (b || false)) (eq-eqb n k (sym e)) ∙ ap not (sym (eq-eqb k n e))
    by k (inr ne) = ap (λ b. not (b || false)) (ne_eqb n k (λ e. ne (sym e))) ∙ ap not (sym (ne_eqb k n ne))

-- none of them is among what is left without them
pub none_left : (ns xs : List ℕ) → All (λ n. is_in n (without_each ns xs) ≡ false) ns
none_left ns xs = λ j d low. absent (get_or ns j d) (without_each ns xs) (λ k l e. true≢false (
    sym (filter_passes (λ n. not (is_in n ns)) xs k 0 l) ∙ ap not (there (get_or (without_each ns xs) k 0) ns j low (get_or_default ns j 0 d low ∙ sym e))))

-- without some and then without others they are without both
filter_both : (p q r : ℕ → Bool) → ((n : ℕ) → r n ≡ (q n && p n)) → (l : List ℕ) → filter p (filter q l) ≡ filter r l
filter_both p q r both [] = refl
filter_both p q r both (n ∷ l) = by (q n) (both n) (filter_both p q r both l)
  where
    by : (b : Bool) → r n ≡ (b && p n) → filter p (filter q l) ≡ filter r l → filter p (cond b (n ∷ filter q l) (filter q l)) ≡ cond (r n) (n ∷ filter r l) (filter r l)
    by true e rest = ap (λ t. cond (p n) (n ∷ t) t) rest ∙ ap (λ c. cond c (n ∷ filter r l) (filter r l)) (sym e)
    by false e rest = rest ∙ ap (λ c. cond c (n ∷ filter r l) (filter r l)) (sym e)

neither : (a b : Bool) → not (a || b) ≡ (not b && not a)
neither true true = refl
neither true false = refl
neither false true = refl
neither false false = refl

pub without_both : (xs ys l : List ℕ) → without_each xs (without_each ys l) ≡ without_each (xs ++ ys) l
without_both xs ys l = filter_both (λ n. not (is_in n xs)) (λ n. not (is_in n ys)) (λ n. not (is_in n (xs ++ ys)))
    (λ n. ap not (list_any-append (λ k. nat_eq k n) xs ys) ∙ neither (is_in n xs) (is_in n ys)) l

-- and it does not matter which go first
pub without_next : (k : ℕ) (ns l : List ℕ) → without_each ns (without k l) ≡ without_each (k ∷ ns) l
without_next k ns l = ap (without_each ns) (sym (without_one k l)) ∙ filter_both (λ n. not (is_in n ns)) (λ n. not (is_in n (k ∷ []))) (λ n. not (is_in n (k ∷ ns)))
    (λ n. by n (nat_eq k n)) l
  where
    by : (n : ℕ) (b : Bool) → not (b || is_in n ns) ≡ (not (b || false) && not (is_in n ns))
    by n true = refl
    by n false = refl

-- a number stays among them or not where others go
pub other_stays : (n : ℕ) (gone l : List ℕ) → is_in n gone ≡ false → is_in n (without_each gone l) ≡ is_in n l
other_stays n gone [] none = refl
other_stays n gone (k ∷ l) none = by (is_in k gone) refl (other_stays n gone l none)
  where
    by : (b : Bool) → is_in k gone ≡ b → is_in n (without_each gone l) ≡ is_in n l → is_in n (cond (not b) (k ∷ without_each gone l) (without_each gone l)) ≡ (nat_eq k n || is_in n l)
    by true e rest = rest ∙ sym (ap (λ b. b || is_in n l) (ne_eqb k n (λ same. true≢false (sym e ∙ (ap (λ j. is_in j gone) same ∙ none)))))
    by false e rest = ap (λ b. nat_eq k n || b) rest

-- rising numbers do not fall
pub not_falling : (xs : List ℕ) → IsStrictlyIncreasing xs → (i j : ℕ) → i ≤ j → j < length xs → get_or xs i 0 ≤ get_or xs j 0
not_falling xs rising i j within low = by (cases_lt i j)
  where
    by : (i < j) ⊎ (j ≤ i) → get_or xs i 0 ≤ get_or xs j 0
    by (inl less) = let h : get_or xs i 0 < get_or xs j 0 = AllPairs-from_increasing xs rising i j 0 less low in omega (arith, h)
    by (inr more) = let same : i ≡ j = omega (arith, within, more) in let e : get_or xs i 0 ≡ get_or xs j 0 = ap (λ k. get_or xs k 0) same in omega (arith, e)

-- those before a place are below the number there, and so are those before where a search says that a number stands or would
pub below_place : (xs : List ℕ) (at n : ℕ) → IsStrictlyIncreasing xs → at < length xs → get_or xs at 0 ≡ n → All (λ k. k < n) (take at xs)
below_place xs at n rising low is = λ k d h. let first : k < at = omega (arith, h, length-take at xs) in
    let below : get_or xs k d < get_or xs at d = AllPairs-from_increasing xs rising k at d first low in
    let same : get_or xs at d ≡ get_or xs at 0 = get_or_default xs at d 0 low in
    let e : get_or (take at xs) k d ≡ get_or xs k d = get_or-take at xs k d first in omega (arith, e, below, same, is)

pub below_found : (n : ℕ) (xs : List ℕ) (at : ℕ) → IsStrictlyIncreasing xs → IsBinarySearchResult (λ y. nat_cmp y n) xs (Ok at) → All (λ k. k < n) (take at xs)
below_found n xs at rising found = let h = searched xs n (Ok at) found (not_falling xs rising) in below_place xs at n rising h.0 h.1

pub below_missed : (n : ℕ) (xs : List ℕ) (at : ℕ) → IsStrictlyIncreasing xs → IsBinarySearchResult (λ y. nat_cmp y n) xs (Err at) → All (λ k. k < n) (take at xs)
below_missed n xs at rising none = let h = searched xs n (Err at) none (not_falling xs rising) in
    λ k d low. (let first : k < at = omega (arith, low, length-take at xs) in let within : k < length xs = omega (arith, low, length-take at xs) in
    let below : get_or xs k 0 < n = h.1 k first in
    let e : get_or (take at xs) k d ≡ get_or xs k 0 = get_or-take at xs k d first ∙ get_or_default xs k d 0 within in omega (arith, e, below))

-- whether a number is among rising ones shows at the first that is not below it
module _ (n : ℕ) (xs : List ℕ) (place : ℕ) (rising : IsStrictlyIncreasing xs) (below : All (λ k. k < n) (take place xs)) where
  front : (k : ℕ) → k < place → k < length xs → get_or xs k 0 < n
  front k first low = let h : k < length (take place xs) = omega (arith, first, low, length-take place xs) in
      let b : get_or (take place xs) k 0 < n = below k 0 h in let e : get_or (take place xs) k 0 ≡ get_or xs k 0 = get_or-take place xs k 0 first in omega (arith, b, e)

  pub all_below : length xs ≤ place → is_in n xs ≡ false
  all_below end = absent n xs (λ k low e. let h = front k (omega (arith, low, end)) low in omega (arith, e, h))

  pub is_first : place < length xs → n ≤ get_or xs place 0 → nat_eq (get_or xs place 0) n ≡ is_in n xs
  is_first here up = by (cases_eq (get_or xs place 0) n)
    where
      by : (get_or xs place 0 ≡ n) ⊎ (get_or xs place 0 ≡ n → ⊥) → nat_eq (get_or xs place 0) n ≡ is_in n xs
      by (inl e) = eq-eqb (get_or xs place 0) n e ∙ sym (there n xs place here e)
      by (inr ne) = ne_eqb (get_or xs place 0) n ne ∙ sym (absent n xs (λ k low e. at k low e (cases_lt k place)))
        where
          at : (k : ℕ) → k < length xs → get_or xs k 0 ≡ n → (k < place) ⊎ (place ≤ k) → ⊥
          at k low e (inl first) = let h = front k first low in omega (arith, e, h)
          at k low e (inr later) = let h = not_falling xs rising place k later low in ne (omega (arith, e, h, up))

-- numbers from a place on are above one before it
pub not_behind : (xs : List ℕ) (k end : ℕ) → IsStrictlyIncreasing xs → k < end → k < length xs → is_in (get_or xs k 0) (drop end xs) ≡ false
not_behind xs k end rising before low = absent (get_or xs k 0) (drop end xs) (λ j l e.
    let here : end + j < length xs = omega (arith, l, length-drop end xs) in
    let h : get_or xs k 0 < get_or xs (end + j) 0 = AllPairs-from_increasing xs rising k (end + j) 0 (omega (arith, before)) here in
    omega (arith, h, e, get_or-drop end xs j 0))

-- a part of rising numbers rises
pub part_rises : (xs : List ℕ) (start end : ℕ) → IsStrictlyIncreasing xs → end ≤ length xs → IsStrictlyIncreasing (between start end xs)
part_rises xs start end rising within = λ k low.
    let long = length-between xs start end within in
    let next : start + (k + 1) < end = omega (arith, low, long) in
    let here : get_or (between start end xs) k 0 ≡ get_or xs (start + k) 0 = get_or-between xs start end k 0 (omega (arith, next)) in
    let there : get_or (between start end xs) (k + 1) 0 ≡ get_or xs (start + (k + 1)) 0 = get_or-between xs start end (k + 1) 0 next in
    let h : get_or xs (start + k) 0 < get_or xs (start + (k + 1)) 0 = AllPairs-from_increasing xs rising (start + k) (start + (k + 1)) 0 (omega arith) (omega (arith, next, within)) in
    omega (arith, here, there, h)
