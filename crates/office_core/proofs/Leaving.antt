-- Permits that are recalled, while they leave the index and are marked one after another.
use Rattle.std.proofs.Common.{◌≡◌, ◌∷◌, [], List, ℕ, ◌-◌, ◌<◌, ◌≤◌, ◌⊎◌, inl, inr, true, false, drop, length, get_or, refl, ap, sym, subst, ◌∙◌, arith}
use Rattle.std.specs.List.{All, AllWithin, between}
use Rattle.std.specs.List.Sorted.{IsStrictlyIncreasing}
use Rattle.std.proofs.lemmas.Bool.{cases_eq, cases_lt, true≢false}
use Rattle.std.proofs.lemmas.Bool.Decides.{nat_tests}
use Rattle.std.proofs.lemmas.List.{get_or-set_other, get_or-set_same, length-set}
use Rattle.std.proofs.lemmas.List.Elements.{All-cons, All-nil, All-weaker}
use Rattle.permit_book.specs.declared.permit.Permit.{Permit}
use Rattle.permit_book.specs.declared.permit.Mark.{Mark}
use Rattle.permit_book.specs.Permits.{AreNumbered, is_issued, is_live, marked, no_permit, permit_of}
use Rattle.recall_index.specs.Uses.{AreRemoved, AreAllThere, IsThere, Lists}
use Rattle.recall_index.proofs.Lists.{still_there}
use Rattle.office_core.specs.Recalls.{AreLive, IsLiveIn, segments_of}
use Rattle.office_core.specs.Users.{IsIndexed}
use Rattle.office_core.proofs.Indexing.{index_inside, index_there}

module _ (m : Mark) (off : is_live m ≡ false) where
  -- one that is live where another is marked is live where it is not
  was_live : (ps : List Permit) (a n : ℕ) → is_issued ps a ≡ true → IsLiveIn (marked ps a m) n → IsLiveIn ps n
  was_live ps a n issued is = record {
    issued = (let many = length-set ps (a - 1) (record (permit_of ps a) { mark = m }) in let there = is.issued in grind (arith, nat_tests, many, there));
    live = by (cases_eq (n - 1) (a - 1));
  }
    where
      by : (n - 1 ≡ a - 1) ⊎ (n - 1 ≡ a - 1 → ⊥) → is_live (permit_of ps n).mark ≡ true
      by (inl same) = let low : a - 1 < length ps = grind (arith, nat_tests, issued) in
          absurd (true≢false (sym is.live ∙ (ap (λ k. is_live (get_or (marked ps a m) k no_permit).mark) same
          ∙ (ap (λ (p : Permit). is_live p.mark) (get_or-set_same ps (a - 1) (record (permit_of ps a) { mark = m }) no_permit low) ∙ off))))
      by (inr ne) = ap (λ (p : Permit). is_live p.mark) (sym (get_or-set_other ps (a - 1) (n - 1) (record (permit_of ps a) { mark = m }) no_permit ne)) ∙ is.live

  pub all_live : (ps : List Permit) (ns : List ℕ) → AreLive m ps ns → All (IsLiveIn ps) ns
  all_live ps [] live = All-nil (IsLiveIn ps)
  all_live ps (n ∷ ns) live = All-cons (IsLiveIn ps) n ns (record { issued = live.0; live = live.1 })
      (All-weaker (IsLiveIn (marked ps n m)) (IsLiveIn ps) (λ k. was_live ps n k live.0) ns (all_live (marked ps n m) ns live.2))

module _ (segments : ℕ) (ps : List Permit) (index : Lists) (is : IsIndexed segments ps index) (h : AreNumbered 0 ps) (ns : List ℕ) (live : All (IsLiveIn ps) ns) where
  module _ (mid : Lists) (start end : ℕ) (route : List ℕ) (some : 0 < end) (few : end ≤ length ns) (its : route ≡ segments_of ps (get_or ns (end - 1) 0)) (out : AreRemoved index (drop end ns) mid) where
    -- the segments of a live permit are in the index
    pub run_inside : All (λ s. s < length mid) route
    run_inside = let low : end - 1 < length ns = omega (arith, some, few) in let last = get_or ns (end - 1) 0 in
        subst (λ (l : List ℕ). All (λ s. s < length mid) l) (sym its) (subst (λ k. All (λ s. s < k) (segments_of ps last)) (sym out.many)
        (index_inside segments ps index is h last (live (end - 1) 0 low).issued (permit_of ps last) refl))

    -- and so are those of each permit with the same segments
    pub run_there : IsStrictlyIncreasing ns → AllWithin (λ n. segments_of ps n ≡ route) ns start (end - 1) → AreAllThere mid (between start end ns) route
    run_there rising alike = still_there index mid ns route start end rising few out (λ k from before.
        let one = live k 0 (omega (arith, before, few)) in
        subst (IsThere index (get_or ns k 0)) (by k from before (cases_lt k (end - 1)))
        (index_there segments ps index is h (get_or ns k 0) one.issued (permit_of ps (get_or ns k 0)) refl one.live))
      where
        by : (k : ℕ) → start ≤ k → k < end → (k < end - 1) ⊎ (end - 1 ≤ k) → segments_of ps (get_or ns k 0) ≡ route
        by k from before (inl less) = alike k 0 from less
        by k from before (inr last) = let same : k ≡ end - 1 = omega (arith, before, last) in ap (λ j. segments_of ps (get_or ns j 0)) same ∙ sym its
