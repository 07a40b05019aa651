-- The index has at each segment the permits that use it, as permits are issued and end.
use Rattle.std.proofs.Common.{◌≡◌, ◌∷◌, ◌++◌, [], List, ℕ, zero, suc, ◌+◌, ◌-◌, ◌<◌, ◌≤◌, Bool, cond, true, false, nat_eq, not, ◌&&◌, map, filter, set, length, get_or, refl, ap, sym, subst, ◌∙◌, arith}
use Rattle.std.specs.List.{All, concat, AllByRecursion as ByRecursion}
use Rattle.std.proofs.lemmas.Bool.Decides.{nat_tests}
use Rattle.std.proofs.lemmas.List.{get_or_default, map-append}
use Rattle.std.proofs.lemmas.List.Elements.{All-append, All-cons, All-nil, All-set, All-weaker, filter-append}
use Rattle.std.proofs.lemmas.Option.{slice_get-get_or}
use Rattle.permit_book.specs.declared.permit.Permit.{Permit}
use Rattle.permit_book.specs.declared.permit.Mark.{Mark}
use Rattle.permit_book.specs.Permits.{AreNumbered, is_issued, is_live, marked, no_permit, permit_of}
use Rattle.recall_index.specs.Uses.{AreBelow, AreRemoved, IsAdded, IsRemoved, IsThere, Lists, using_in, without, without_each, is_in as index_is_in}
use Rattle.recall_index.proofs.Lists.{end_gone}
use Rattle.recall_index.proofs.Rising.{without_next, without_none}
use Rattle.trip_analysis.specs.Findings.{is_number_among}
use Rattle.trip_analysis.proofs.Found.{is_in_from_among}
use Rattle.office_core.specs.Recalls.{AreLive, marked_all}
use Rattle.office_core.specs.Users.{IsIndexed, IsUser, IsOnRoads, users_of, uses}
use Rattle.office_core.proofs.Goods.{numbered-mark}
use Rattle.office_core.proofs.Lists.{pick}
use Rattle.office_core.proofs.Recalling.{in_numbers, numbered}

-- the permits that use a segment, with one permit more
users_issued : (s : ℕ) (ps : List Permit) (p : Permit) → users_of s (ps ++ p ∷ []) ≡ users_of s ps ++ cond (uses s p) (p.number ∷ []) []
users_issued s ps p =
    ap (map (λ (q : Permit). q.number)) (filter-append (uses s) ps (p ∷ []))
    ∙ (map-append (λ (q : Permit). q.number) (filter (uses s) ps) (filter (uses s) (p ∷ [])) ∙ ap (λ l. users_of s ps ++ l) (last (uses s p)))
  where
    last : (b : Bool) → map (λ (q : Permit). q.number) (cond b (p ∷ []) []) ≡ cond b (p.number ∷ []) []
    last true = refl
    last false = refl

-- permits are above the place at which they begin
above : (s b : ℕ) (ps : List Permit) → AreNumbered b ps → ByRecursion (λ k. b < k) (users_of s ps)
above s b [] h = tt
above s b (p ∷ ps) h = let here : b < p.number = omega (arith, h.0) in let rest = weaker (users_of s ps) (above s (b + 1) ps h.1) in
    pick (λ (l : List Permit). ByRecursion (λ k. b < k) (map (λ (x : Permit). x.number) l)) (uses s p) (p ∷ filter (uses s) ps) (filter (uses s) ps) (λ _. (here, rest)) (λ _. rest)
  where
    weaker : (ns : List ℕ) → ByRecursion (λ k. b + 1 < k) ns → ByRecursion (λ k. b < k) ns
    weaker [] h = tt
    weaker (n ∷ ns) h = (omega (arith, h.0), weaker ns h.1)

untouched : (n : ℕ) (ns : List ℕ) → ByRecursion (λ k. n < k) ns → without n ns ≡ ns
untouched n [] h = refl
untouched n (k ∷ ns) h = let e : not (nat_eq k n) ≡ true = grind (arith, nat_tests, h.0) in ap (λ b. cond b (k ∷ without n ns) (without n ns)) e ∙ ap (λ l. k ∷ l) (untouched n ns h.1)

-- a permit that ends uses nothing any more
users_marked : (s b k : ℕ) (ps : List Permit) (m : Mark) → is_live m ≡ false → AreNumbered b ps → users_of s (set ps k (record (get_or ps k no_permit) { mark = m })) ≡ without (b + k + 1) (users_of s ps)
users_marked s b k [] m off h = refl
users_marked s b zero (p ∷ ps) m off h = gone (uses s p) (let same : b + 0 + 1 ≡ b + 1 = omega arith in subst (λ n. without n (users_of s ps) ≡ users_of s ps) (sym same) (untouched (b + 1) (users_of s ps) (above s (b + 1) ps h.1)))
  where
    gone : (x : Bool) → without (b + 0 + 1) (users_of s ps) ≡ users_of s ps → map (λ (y : Permit). y.number) (cond (is_live m && is_number_among s (concat p.trip.routes)) ((record p { mark = m }) ∷ filter (uses s) ps) (filter (uses s) ps)) ≡ without (b + 0 + 1) (map (λ (y : Permit). y.number) (cond x (p ∷ filter (uses s) ps) (filter (uses s) ps)))
    gone true e = let hit : not (nat_eq p.number (b + 0 + 1)) ≡ false = grind (arith, nat_tests, h.0) in rw off (sym (ap (λ c. cond c (p.number ∷ without (b + 0 + 1) (users_of s ps)) (without (b + 0 + 1) (users_of s ps))) hit ∙ e))
    gone false e = rw off (sym e)
users_marked s b (suc k) (p ∷ ps) m off h = kept (uses s p) (users_marked s (b + 1) k ps m off h.1)
  where
    next : List Permit
    next = set ps k (record (get_or ps k no_permit) { mark = m })

    kept : (x : Bool) → users_of s next ≡ without (b + 1 + k + 1) (users_of s ps) → map (λ (y : Permit). y.number) (cond x (p ∷ filter (uses s) next) (filter (uses s) next)) ≡ without (b + suc k + 1) (map (λ (y : Permit). y.number) (cond x (p ∷ filter (uses s) ps) (filter (uses s) ps)))
    kept true e = let same : b + 1 + k + 1 ≡ b + suc k + 1 = omega arith in let other : not (nat_eq p.number (b + suc k + 1)) ≡ true = grind (arith, nat_tests, h.0) in
        ap (λ l. p.number ∷ l) (e ∙ ap (λ n. without n (users_of s ps)) same) ∙ sym (ap (λ c. cond c (p.number ∷ without (b + suc k + 1) (users_of s ps)) (without (b + suc k + 1) (users_of s ps))) other)
    kept false e = let same : b + 1 + k + 1 ≡ b + suc k + 1 = omega arith in e ∙ ap (λ n. without n (users_of s ps)) same

users_without : (s n : ℕ) (ps : List Permit) (m : Mark) → is_live m ≡ false → AreNumbered 0 ps → is_issued ps n ≡ true → users_of s (marked ps n m) ≡ without n (users_of s ps)
users_without s n ps m off h issued = let some : 1 ≤ n = grind (arith, nat_tests, issued) in let at : 0 + (n - 1) + 1 ≡ n = omega (arith, some) in
    users_marked s 0 (n - 1) ps m off h ∙ ap (λ k. without k (users_of s ps)) at

-- and so do many
users_without_each : (s : ℕ) (m : Mark) → is_live m ≡ false → (ps : List Permit) (ns : List ℕ) → AreNumbered 0 ps → AreLive m ps ns → users_of s (marked_all m ps ns) ≡ without_each ns (users_of s ps)
users_without_each s m off ps [] h live = sym (without_none [] (users_of s ps) (All-nil (λ n. index_is_in n (users_of s ps) ≡ false)))
users_without_each s m off ps (n ∷ ns) h live =
    users_without_each s m off (marked ps n m) ns (numbered-mark m 0 (n - 1) ps h) live.2
    ∙ (ap (without_each ns) (users_without s n ps m off h live.0) ∙ without_next n ns (users_of s ps))

on_roads_still : (segments : ℕ) (m : Mark) (ps : List Permit) (ns : List ℕ) → AreLive m ps ns → All (IsOnRoads segments) ps → All (IsOnRoads segments) (marked_all m ps ns)
on_roads_still segments m ps [] live inside = inside
on_roads_still segments m ps (n ∷ ns) live inside = let issued = live.0 in let low : n - 1 < length ps = grind (arith, nat_tests, issued) in
    on_roads_still segments m (marked ps n m) ns live.2 (All-set (IsOnRoads segments) ps (n - 1) _ (inside (n - 1) no_permit low) inside)

-- what stands at the place of a number is its permit
pub found_at : (items ps : List Permit) (n : ℕ) (p : Permit) → items ≡ ps → is_issued ps n ≡ true → p ≡ get_or items (n - 1) p → p ≡ permit_of ps n
found_at items ps n p same issued is = let low : n - 1 < length ps = grind (arith, nat_tests, issued) in
    is ∙ (ap (λ l. get_or l (n - 1) p) same ∙ get_or_default ps (n - 1) p no_permit low)

-- each of the numbers is that of a permit that uses the segment
pub are_users : (s : ℕ) (ps : List Permit) → AreNumbered 0 ps → All (IsUser ps s) (users_of s ps)
are_users s ps h = λ k d low.
    let n = get_or (users_of s ps) k d in
    let on = is_in_from_among n (users_of s ps) k (slice_get-get_or (users_of s ps) k d low) in
    let there = numbered (uses s) ps n h on in
    record {
      issued = (let some : 1 ≤ n = there.0 in let few : n ≤ length ps = there.1 in grind (arith, nat_tests, some, few));
      uses = sym (in_numbers (uses s) ps n h there.0 there.1) ∙ on;
    }

module _ (segments : ℕ) (ps : List Permit) (index : Lists) (is : IsIndexed segments ps index) (h : AreNumbered 0 ps) where
  -- the next number is above all that are there
  pub index_below : (n : ℕ) → n ≡ length ps + 1 → AreBelow n index
  index_below n next s low = let here : s < segments = omega (arith, low, is.many) in
      subst (All (λ k. k < n)) (sym (is.users s here))
      (All-weaker (IsUser ps s) (λ k. k < n) (λ k user. (let issued = user.issued in grind (arith, nat_tests, next, issued))) (users_of s ps) (are_users s ps h))

  -- with its routes added the next permit is in the index
  pub index_issued : (next : Lists) (n : ℕ) (p : Permit) → IsAdded index n (concat p.trip.routes) next → p.number ≡ n → is_live p.mark ≡ true → All (λ s. s < segments) (concat p.trip.routes) → IsIndexed segments (ps ++ p ∷ []) next
  index_issued next n p added same live inside = record {
    many = added.many ∙ is.many;
    users = λ s low. (let here : s < length index = omega (arith, low, is.many) in
        added.using s here ∙ (ap (λ l. l ++ cond (is_number_among s (concat p.trip.routes)) (n ∷ []) []) (is.users s low)
        ∙ (ap (λ k. users_of s ps ++ cond (is_number_among s (concat p.trip.routes)) (k ∷ []) []) (sym same)
        ∙ (ap (λ b. users_of s ps ++ cond (b && is_number_among s (concat p.trip.routes)) (p.number ∷ []) []) (sym live) ∙ sym (users_issued s ps p)))));
    within = All-append (IsOnRoads segments) ps (p ∷ []) is.within (All-cons (IsOnRoads segments) p [] inside (All-nil (IsOnRoads segments)));
  }

  -- and taken out again it leaves the index as it was
  pub index_undone : (mid last : Lists) (n : ℕ) (path : List ℕ) → n ≡ length ps + 1 → IsAdded index n path mid → IsRemoved mid n last → IsIndexed segments ps last
  index_undone mid last n path next added gone = record {
    many = gone.many ∙ (added.many ∙ is.many);
    users = λ s low. (let here : s < length index = omega (arith, low, is.many) in let there : s < length mid = omega (arith, here, added.many) in
        gone.using s there ∙ (ap (without n) (added.using s here) ∙ (end_gone n (using_in index s) (is_number_among s path) (index_below n next s here) ∙ is.users s low)));
    within = is.within;
  }

  -- where many are taken out of it and marked as ended
  pub index_marked_all : (next : Lists) (m : Mark) (ns : List ℕ) → is_live m ≡ false → AreLive m ps ns → AreRemoved index ns next → IsIndexed segments (marked_all m ps ns) next
  index_marked_all next m ns off live gone = record {
    many = gone.many ∙ is.many;
    users = λ s low. (let here : s < length index = omega (arith, low, is.many) in
        gone.using s here ∙ (ap (without_each ns) (is.users s low) ∙ sym (users_without_each s m off ps ns h live)));
    within = on_roads_still segments m ps ns live is.within;
  }

  module _ (n : ℕ) (issued : is_issued ps n ≡ true) where
    some : 1 ≤ n
    some = grind (arith, nat_tests, issued)

    few : n ≤ length ps
    few = grind (arith, nat_tests, issued)

    -- a live permit is there with its routes
    pub index_there : (p : Permit) → p ≡ permit_of ps n → is_live (permit_of ps n).mark ≡ true → IsThere index n (concat p.trip.routes)
    index_there p same live s low = let here : s < segments = omega (arith, low, is.many) in
        ap (is_number_among n) (is.users s here) ∙ (in_numbers (uses s) ps n h some few
        ∙ (ap (λ b. b && is_number_among s (concat (permit_of ps n).trip.routes)) live ∙ ap (λ (q : Permit). is_number_among s (concat q.trip.routes)) (sym same)))

    pub index_inside : (p : Permit) → p ≡ permit_of ps n → All (λ s. s < length index) (concat p.trip.routes)
    index_inside p same = let low : n - 1 < length ps = omega (arith, some, few) in
        subst (λ (q : Permit). All (λ s. s < length index) (concat q.trip.routes)) (sym same)
        (subst (λ k. All (λ s. s < k) (concat (permit_of ps n).trip.routes)) (sym is.many) (is.within (n - 1) no_permit low))

    -- taken out of it, and marked as ended
    pub index_marked : (next : Lists) (m : Mark) → is_live m ≡ false → IsRemoved index n next → IsIndexed segments (marked ps n m) next
    index_marked next m off gone = record {
      many = gone.many ∙ is.many;
      users = λ s low. (let here : s < length index = omega (arith, low, is.many) in
          gone.using s here ∙ (ap (without n) (is.users s low) ∙ sym (users_without s n ps m off h issued)));
      within = (let low : n - 1 < length ps = omega (arith, some, few) in All-set (IsOnRoads segments) ps (n - 1) _ (is.within (n - 1) no_permit low) is.within);
    }
