-- The lists of an index, while a number is added to those of a route or taken out of them.
use Rattle.std.proofs.Common.{◌≡◌, ◌≢◌, ◌∷◌, ◌++◌, [], List, ℕ, ◌+◌, ◌<◌, ◌≤◌, ◌⊎◌, inl, inr, Bool, true, false, nat_eq, not, ◌||◌, cond, length, get_or, set, take, drop, refl, ap, sym, subst, ◌∙◌, arith}
use Rattle.std.specs.List.{All, between}
use Rattle.std.proofs.lemmas.Bool.{cases_eq, eq-eqb, ne_eqb, or_right}
use Rattle.std.proofs.lemmas.List.{append-nil, ext_get_or, get_or-set_other, get_or-set_same, get_or_default, length-set, set-get_or}
use Rattle.std.proofs.lemmas.List.Edits.{get_or-between, length-between}
use Rattle.std.specs.List.Sorted.{IsStrictlyIncreasing}
use Rattle.std.proofs.lemmas.List.Elements.{All-cons, All-nil, filter-append}
use Rattle.std.proofs.lemmas.List.Folds.{drop_split, list_any-append, list_any_more}
use Rattle.recall_index.specs.Uses.{AreAllOrNone, AreBelow, AreRemoved, AreTakenOut, AreAllThere, IsAdded, IsRemoved, IsThere, Lists, is_in, using_in, with_last, without, without_each}
use Rattle.recall_index.proofs.Rising.{absent, either, none_left, not_behind, other_stays, without_absent, without_both, without_none, without_one}

-- a place more is in the front of a list
in_more : (s at : ℕ) (route : List ℕ) (i : ℕ) → i < length route → at ≡ get_or route i 0 → is_in s (take (i + 1) route) ≡ (is_in s (take i route) || nat_eq at s)
in_more s at route i low is = list_any_more (λ k. nat_eq k s) route i 0 low ∙ ap (λ k. is_in s (take i route) || nat_eq k s) (sym is)

-- a number below which all are is not among them
above_absent : (n : ℕ) (xs : List ℕ) → All (λ k. k < n) xs → is_in n xs ≡ false
above_absent n xs below = absent n xs (λ k low e. let h : get_or xs k 0 < n = below k 0 low in omega (arith, e, h))

-- once it stands behind them, it is among them, and gone again without it
abbrev pub end : ℕ → Bool → List ℕ
end n b = cond b (n ∷ []) []

in_end : (n : ℕ) (b : Bool) → is_in n (end n b) ≡ b
in_end n true = ap (λ b. b || false) (eq-eqb n n refl)
in_end n false = refl

among_end : (n : ℕ) (xs : List ℕ) (b : Bool) → All (λ k. k < n) xs → is_in n (xs ++ end n b) ≡ b
among_end n xs b below = list_any-append (λ k. nat_eq k n) xs (end n b) ∙ (ap (λ c. c || is_in n (end n b)) (above_absent n xs below) ∙ in_end n b)

without_end : (n : ℕ) (b : Bool) → without n (end n b) ≡ []
without_end n true = ap (λ b. cond (not b) (n ∷ []) []) (eq-eqb n n refl)
without_end n false = refl

pub end_gone : (n : ℕ) (xs : List ℕ) (b : Bool) → All (λ k. k < n) xs → without n (xs ++ end n b) ≡ xs
end_gone n xs b below = filter-append (λ k. not (nat_eq k n)) xs (end n b) ∙ (ap (λ l. l ++ without n (end n b)) (without_absent n xs (above_absent n xs below))
    ∙ (ap (λ l. xs ++ l) (without_end n b) ∙ append-nil xs))

-- it is put behind them once
with_end : (n : ℕ) (xs : List ℕ) (b : Bool) → All (λ k. k < n) xs → with_last n (xs ++ end n b) ≡ xs ++ end n true
with_end n xs b below = ap (λ c. cond c (xs ++ end n b) ((xs ++ end n b) ++ n ∷ [])) (among_end n xs b below) ∙ by b
  where
    by : (b : Bool) → cond b (xs ++ end n b) ((xs ++ end n b) ++ n ∷ []) ≡ xs ++ end n true
    by true = refl
    by false = ap (λ l. l ++ n ∷ []) (append-nil xs)

abbrev taken : List ℕ → List ℕ → Bool → List ℕ
taken ns xs b = cond b (without_each ns xs) xs

taken_again : (ns xs : List ℕ) (b : Bool) → without_each ns (taken ns xs b) ≡ taken ns xs true
taken_again ns xs true = without_none ns (without_each ns xs) (none_left ns xs)
taken_again ns xs false = refl

-- all or none of the numbers are still there
taken_among : (ns xs : List ℕ) (b : Bool) → AreAllOrNone ns xs → AreAllOrNone ns (taken ns xs b)
taken_among ns xs true among = (false, none_left ns xs)
taken_among ns xs false among = among

-- one number is there or not
pub one_alone : (n : ℕ) (xs : List ℕ) → AreAllOrNone (n ∷ []) xs
one_alone n xs = (is_in n xs, All-cons (λ k. is_in k xs ≡ is_in n xs) n [] refl (All-nil (λ k. is_in k xs ≡ is_in n xs)))

-- one list is another
at_one : (lists : Lists) (at s : ℕ) (xs : List ℕ) → at ≡ s → at < length lists → using_in (set lists at xs) s ≡ xs
at_one lists at s xs e here = ap (λ k. using_in (set lists at xs) k) (sym e) ∙ get_or-set_same lists at xs [] here

at_others : (lists : Lists) (at s : ℕ) (xs : List ℕ) → at ≢ s → using_in (set lists at xs) s ≡ using_in lists s
at_others lists at s xs ne = get_or-set_other lists at s xs [] (λ e. ne (sym e))

module _ (old lists new : Lists) (ns : List ℕ) (at : ℕ) (route : List ℕ) (i : ℕ) (low : i < length route) (is : at ≡ get_or route i 0) (here : at < length lists) where
  pub taken_more : AreTakenOut old ns (take i route) lists → new ≡ set lists at (without_each ns (using_in lists at)) → AreTakenOut old ns (take (i + 1) route) new
  taken_more had now = record {
    many = ap length now ∙ (length-set lists at (without_each ns (using_in lists at)) ∙ had.many);
    using = λ s within. (ap (λ l. using_in l s) now ∙ (by s within (cases_eq at s) ∙ ap (taken ns (using_in old s)) (sym (in_more s at route i low is))));
  }
    where
      by : (s : ℕ) → s < length old → (at ≡ s) ⊎ (at ≡ s → ⊥) → using_in (set lists at (without_each ns (using_in lists at))) s ≡ taken ns (using_in old s) (is_in s (take i route) || nat_eq at s)
      by s within (inl e) = at_one lists at s (without_each ns (using_in lists at)) e here
          ∙ (ap (λ k. without_each ns (using_in lists k)) e ∙ (ap (without_each ns) (had.using s within) ∙ (taken_again ns (using_in old s) (is_in s (take i route))
          ∙ ap (taken ns (using_in old s)) (sym (or_right (is_in s (take i route)) (nat_eq at s) (eq-eqb at s e))))))
      by s within (inr ne) = at_others lists at s (without_each ns (using_in lists at)) ne ∙ (had.using s within
          ∙ ap (taken ns (using_in old s)) (sym (ap (λ b. is_in s (take i route) || b) (ne_eqb at s ne) ∙ either (is_in s (take i route)))))

  -- all or none of the numbers are at the next segment
  pub next_among : AreTakenOut old ns (take i route) lists → AreAllOrNone ns (using_in old at) → AreAllOrNone ns (using_in lists at)
  next_among had among = subst (AreAllOrNone ns) (sym (had.using at (omega (arith, here, had.many)))) (taken_among ns (using_in old at) (is_in at (take i route)) among)

module _ (old lists new : Lists) (n at : ℕ) (route : List ℕ) (i : ℕ) (low : i < length route) (is : at ≡ get_or route i 0) (here : at < length lists) where
  pub added_more : AreBelow n old → IsAdded old n (take i route) lists → new ≡ set lists at (with_last n (using_in lists at)) → IsAdded old n (take (i + 1) route) new
  added_more below had now = record {
    many = ap length now ∙ (length-set lists at (with_last n (using_in lists at)) ∙ had.many);
    using = λ s within. (ap (λ l. using_in l s) now ∙ (by s within (cases_eq at s) ∙ ap (λ b. using_in old s ++ end n b) (sym (in_more s at route i low is))));
  }
    where
      by : (s : ℕ) → s < length old → (at ≡ s) ⊎ (at ≡ s → ⊥) → using_in (set lists at (with_last n (using_in lists at))) s ≡ using_in old s ++ end n (is_in s (take i route) || nat_eq at s)
      by s within (inl e) = at_one lists at s (with_last n (using_in lists at)) e here
          ∙ (ap (λ k. with_last n (using_in lists k)) e ∙ (ap (with_last n) (had.using s within) ∙ (with_end n (using_in old s) (is_in s (take i route)) (below s within)
          ∙ ap (λ b. using_in old s ++ end n b) (sym (or_right (is_in s (take i route)) (nat_eq at s) (eq-eqb at s e))))))
      by s within (inr ne) = at_others lists at s (with_last n (using_in lists at)) ne ∙ (had.using s within
          ∙ ap (λ b. using_in old s ++ end n b) (sym (ap (λ b. is_in s (take i route) || b) (ne_eqb at s ne) ∙ either (is_in s (take i route)))))

-- what was added is taken out again
pub undone : (old lists new : Lists) (n : ℕ) (route : List ℕ) → AreBelow n old → IsAdded old n route lists → AreTakenOut lists (n ∷ []) route new → new ≡ old
undone old lists new n route below had out = ext_get_or [] new old (out.many ∙ had.many) (λ s low.
    let here : s < length lists = omega (arith, low, out.many) in
    let within : s < length old = omega (arith, here, had.many) in
    out.using s here ∙ (ap (λ l. taken (n ∷ []) l (is_in s route)) (had.using s within) ∙ by s within (is_in s route)))
  where
    by : (s : ℕ) → s < length old → (b : Bool) → taken (n ∷ []) (using_in old s ++ end n b) b ≡ using_in old s
    by s within true = without_one n (using_in old s ++ end n true) ∙ end_gone n (using_in old s) true (below s within)
    by s within false = append-nil (using_in old s)

-- numbers that are there with a route are all at a segment of it, or none is
pub there_among : (old : Lists) (ns route : List ℕ) → AreAllThere old ns route → (s : ℕ) → s < length old → AreAllOrNone ns (using_in old s)
there_among old ns route there s low = (is_in s route, λ k d h. there k d h s low)

-- taken out of their own segments they are gone from each
pub gone_from_all : (old new : Lists) (ns route : List ℕ) → AreAllThere old ns route → AreTakenOut old ns route new → AreRemoved old ns new
gone_from_all old new ns route there out = record {
  many = out.many;
  using = λ s low. out.using s low ∙ by s low (is_in s route) refl;
}
  where
    by : (s : ℕ) → s < length old → (b : Bool) → is_in s route ≡ b → taken ns (using_in old s) b ≡ without_each ns (using_in old s)
    by s low true e = refl
    by s low false e = sym (without_none ns (using_in old s) (λ k d h. there k d h s low ∙ e))

-- and so is one
pub one_from_all : (old new : Lists) (n : ℕ) (route : List ℕ) → IsThere old n route → AreTakenOut old (n ∷ []) route new → IsRemoved old n new
one_from_all old new n route there out = let each = gone_from_all old new (n ∷ []) route (All-cons (λ k. IsThere old k route) n [] there (All-nil (λ k. IsThere old k route))) out in record {
  many = each.many;
  using = λ s low. each.using s low ∙ without_one n (using_in old s);
}

-- numbers that are removed one after the other are removed
removed_both : (old mid new : Lists) (ns ms : List ℕ) → AreRemoved old ms mid → AreRemoved mid ns new → AreRemoved old (ns ++ ms) new
removed_both old mid new ns ms one other = record {
  many = other.many ∙ one.many;
  using = λ s low. other.using s (omega (arith, low, one.many)) ∙ (ap (without_each ns) (one.using s low) ∙ without_both ns ms (using_in old s));
}

-- where nothing is removed all is as it was
pub none_removed : (lists : Lists) → AreRemoved lists [] lists
none_removed lists = record { many = refl; using = λ s low. sym (without_none [] (using_in lists s) (All-nil (λ n. is_in n (using_in lists s) ≡ false))) }

-- where numbers from a place on are removed, those before it are still there with their route
pub still_there : (old mid : Lists) (ns route : List ℕ) (start end : ℕ) → IsStrictlyIncreasing ns → end ≤ length ns → AreRemoved old (drop end ns) mid
    → ((k : ℕ) → start ≤ k → k < end → IsThere old (get_or ns k 0) route) → AreAllThere mid (between start end ns) route
still_there old mid ns route start end rising within out there = λ j d low s h.
    let long = length-between ns start end within in
    let before : start + j < end = omega (arith, low, long) in
    let is : get_or (between start end ns) j d ≡ get_or ns (start + j) 0 = get_or-between ns start end j d before ∙ get_or_default ns (start + j) d 0 (omega (arith, before, within)) in
    let here : s < length old = omega (arith, h, out.many) in
    ap (λ n. is_in n (using_in mid s)) is ∙ (ap (is_in (get_or ns (start + j) 0)) (out.using s here)
    ∙ (other_stays (get_or ns (start + j) 0) (drop end ns) (using_in old s) (not_behind ns (start + j) end rising before (omega (arith, before, within)))
    ∙ there (start + j) (omega arith) before s here))

-- with those of a run before the place it is those from the run on that are removed
pub run_removed : (old mid new : Lists) (ns : List ℕ) (start end : ℕ) → start ≤ end → AreRemoved old (drop end ns) mid → AreRemoved mid (between start end ns) new → AreRemoved old (drop start ns) new
run_removed old mid new ns start end order one other = subst (λ (l : List ℕ). AreRemoved old l new) (sym (drop_split ns start end order)) (removed_both old mid new (between start end ns) (drop end ns) one other)

-- a list that is put back leaves all as they were
pub put_back : (lists : Lists) (at : ℕ) (found put : List ℕ) → found ≡ get_or lists at found → put ≡ found → set lists at put ≡ lists
put_back lists at found put is same = ap (set lists at) (same ∙ is) ∙ set-get_or lists at found

-- a number that was added above all others is there with its route
pub there_once_added : (old new : Lists) (n : ℕ) (route : List ℕ) → AreBelow n old → IsAdded old n route new → IsThere new n route
there_once_added old new n route below had s low = let within : s < length old = omega (arith, low, had.many) in
    ap (is_in n) (had.using s within) ∙ among_end n (using_in old s) (is_in s route) (below s within)
