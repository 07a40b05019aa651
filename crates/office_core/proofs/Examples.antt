-- Small histories and roads that show what the definitions mean.
use Rattle.std.proofs.Common.{◌≡◌, ◌+◌, ◌∷◌, ◌++◌, [], List, ℕ, zero, suc, true, false, Some, refl, ap, sym, subst, arith, ◌∙◌, length, map}
use Rattle.std.specs.Prelude.{slice_get}
use Rattle.std.specs.List.{range_with_len}
use Rattle.std.proofs.lemmas.Bool.{false≢true}
use Rattle.std.proofs.lemmas.List.Elements.{All-nil}
use Rattle.road_graph.specs.declared.segment.Segment.{Segment}
use Rattle.road_graph.specs.Roads.{segment_at}
use Rattle.route_search.specs.Walks.{IsWalk, every}
use Rattle.restriction_log.specs.declared.change.Change.{Change}
use Rattle.restriction_log.specs.declared.change.Change.TheVariants as change
use Rattle.restriction_log.specs.States.{InForce, values_at}
use Rattle.permit_days.specs.Days.{is_before}
use Rattle.permit_book.specs.declared.permit.Permit.{Permit}
use Rattle.permit_book.specs.Permits.{marked, new_permit, trip_of}
use Rattle.permit_book.specs.declared.permit.Mark.TheVariants as mark
use Rattle.permit_book.specs.declared.permit.Status.TheVariants as status
use Rattle.trip_analysis.specs.declared.application.Application.{Application}
use Rattle.trip_analysis.specs.Bases.{BaseLists}
use Rattle.trip_analysis.specs.Findings.{is_number_among}
use Rattle.office_words.specs.declared.entry.Call.TheVariants as call
use Rattle.office_words.specs.declared.entry.Reply.{Reply}
use Rattle.office_words.specs.declared.entry.Reply.TheVariants as reply
use Rattle.office_words.specs.declared.entry.Entry.{Entry}
use Rattle.office_core.specs.Offices.{entry}
use Rattle.office_core.specs.Clearances.{MeetsTruck}
use Rattle.office_core.specs.Happened.{day_after, issued_in, version_after}
use Rattle.office_core.specs.Became.{IsInForce, RecallsAt, SurrendersAt}
use Rattle.office_core.specs.Holdings.{IsMarkOf}
use Rattle.office_core.specs.Passages.{IsPassableWalk}
use Rattle.office_core.specs.Retests.{changed_on}
use Rattle.office_core.specs.Users.{users_of}
use Rattle.office_core.specs.Truths.{IsShutIn}

abbrev replies : List Entry → List Reply
replies es = map (λ e. e.reply) es

-- two permits, and then a posting that recalls the first: the second is still in force, the first is not
module _ (day : List ℕ) (first second : Application) (change : Change) (ends : is_before first.last day ≡ false) (last : is_before second.last day ≡ false) where
  abbrev two : List Entry
  two = entry 0 (call.Held first) (reply.Issued 1 0 ((0 ∷ []) ∷ [])) ∷ entry 0 (call.Held second) (reply.Issued 2 0 ((0 ∷ []) ∷ [])) ∷ []

  abbrev three : List Entry
  three = entry 0 (call.Held first) (reply.Issued 1 0 ((0 ∷ []) ∷ [])) ∷ entry 0 (call.Held second) (reply.Issued 2 0 ((0 ∷ []) ∷ [])) ∷ entry 1 (call.Post change) (reply.Posted 1 (1 ∷ [])) ∷ []

  one_posting : version_after three ≡ 1
  one_posting = refl

  two_permits : issued_in three ≡ 2
  two_permits = refl

  same_day : day_after day three ≡ day
  same_day = refl

  first_recalled : RecallsAt three 1 two
  first_recalled = (1, (1, call.Post change, 1 ∷ [], refl, ([], refl)))

  first_ends : IsInForce day three 1 → ⊥
  first_ends p = p.stands.not_recalled two first_recalled

  none_recalled : (at : List Entry) → RecallsAt two 1 at → ⊥
  none_recalled [] (v, (by, c, ns, on, (back, is))) = let r = ap replies is in cc
  none_recalled (x ∷ []) (v, (by, c, ns, on, (back, is))) = let r = ap replies is in cc
  none_recalled (x ∷ y ∷ []) (v, (by, c, ns, on, (back, is))) = let r = ap replies is in cc
  none_recalled (x ∷ y ∷ z ∷ at) (v, (by, c, ns, on, (back, is))) = let r = ap replies is in cc

  none_given : (at : List Entry) → SurrendersAt two 1 at → ⊥
  none_given [] (by, (back, is)) = let r = ap replies is in cc
  none_given (x ∷ []) (by, (back, is)) = let r = ap replies is in cc
  none_given (x ∷ y ∷ []) (by, (back, is)) = let r = ap replies is in cc
  none_given (x ∷ y ∷ z ∷ at) (by, (back, is)) = let r = ap replies is in cc

  first_before : IsInForce day two 1
  first_before = record {
    trip = first;
    routes = (0 ∷ []) ∷ [];
    issued = ([], 0, call.Held first, 0, refl, (entry 0 (call.Held second) (reply.Issued 2 0 ((0 ∷ []) ∷ [])) ∷ [], refl));
    stands = record { not_recalled = none_recalled; not_surrendered = none_given };
    not_expired = ends;
  }

  second_kept : (at : List Entry) → RecallsAt three 2 at → ⊥
  second_kept [] (v, (by, c, ns, on, (back, is))) = let r = ap replies is in cc
  second_kept (x ∷ []) (v, (by, c, ns, on, (back, is))) = let r = ap replies is in cc
  second_kept (x ∷ y ∷ []) (v, (by, c, ns, on, (back, is))) = let r = ap replies is in let same : 1 ∷ [] ≡ ns = cc in false≢true (ap (is_number_among 2) same ∙ on)
  second_kept (x ∷ y ∷ z ∷ []) (v, (by, c, ns, on, (back, is))) = let r = ap replies is in cc
  second_kept (x ∷ y ∷ z ∷ w ∷ at) (v, (by, c, ns, on, (back, is))) = let r = ap replies is in cc

  second_not_given : (at : List Entry) → SurrendersAt three 2 at → ⊥
  second_not_given [] (by, (back, is)) = let r = ap replies is in cc
  second_not_given (x ∷ []) (by, (back, is)) = let r = ap replies is in cc
  second_not_given (x ∷ y ∷ []) (by, (back, is)) = let r = ap replies is in cc
  second_not_given (x ∷ y ∷ z ∷ []) (by, (back, is)) = let r = ap replies is in cc
  second_not_given (x ∷ y ∷ z ∷ w ∷ at) (by, (back, is)) = let r = ap replies is in cc

  second_stays : IsInForce day three 2
  second_stays = record {
    trip = second;
    routes = (0 ∷ []) ∷ [];
    issued = (entry 0 (call.Held first) (reply.Issued 1 0 ((0 ∷ []) ∷ [])) ∷ [], 0, call.Held second, 0, refl, (entry 1 (call.Post change) (reply.Posted 1 (1 ∷ [])) ∷ [], refl));
    stands = record { not_recalled = second_kept; not_surrendered = second_not_given };
    not_expired = last;
  }

-- a permit that is given back, and a second call that tries it again: its mark says so
module _ (trip : Application) where
  abbrev given : List Entry
  given = entry 0 (call.Held trip) (reply.Issued 1 0 ((0 ∷ []) ∷ [])) ∷ entry 0 (call.Surrender 1) reply.Surrendered ∷ entry 0 (call.Surrender 1) (reply.NotInForce status.Surrendered) ∷ []

  mark_given : IsMarkOf given 1 mark.Surrendered
  mark_given = (entry 0 (call.Held trip) (reply.Issued 1 0 ((0 ∷ []) ∷ [])) ∷ [], (0, (entry 0 (call.Surrender 1) (reply.NotInForce status.Surrendered) ∷ [], refl)))

-- one road, from node 0 to node 2: no walk leads from node 0 to node 1. Where the road is closed, a trip to node 2 is shut in
-- at it
module _ (base : BaseLists) (state : InForce) (road : Segment) (a : Application) (one : base.roads.segments ≡ road ∷ []) (begins : road.from ≡ 0) (ends : road.to ≡ 2) where
  -- the only segment is number 0
  only : (i : ℕ) (s : Segment) → slice_get (road ∷ []) i ≡ Some s → (i ≡ 0) × (s ≡ road)
  only zero s at = (refl, cc)
  only (suc i) s at = cc

  no_road_there : (route : List ℕ) → IsWalk (road ∷ []) every 0 1 route → ⊥
  no_road_there [] walk = omega (arith, walk)
  no_road_there (i ∷ []) (s, at, may, from, rest) = let (first, is) = only i s at in omega (arith, rest, ap (λ (x : Segment). x.to) is, ends)
  no_road_there (i ∷ j ∷ path) (s, at, may, from, (t, at', may', from', rest)) = let (first, is) = only i s at in let (first', is') = only j t at' in
      omega (arith, from', ap (λ (x : Segment). x.to) is, ends, ap (λ (x : Segment). x.from) is', begins)

  module _ (start : a.from ≡ 0) (end : a.to ≡ 2) (closed : (values_at state.values 0).closed ≡ true) where
    shut : MeetsTruck base state a.truck 0 → ⊥
    shut h = false≢true (sym h.posted.is_open ∙ closed)

    -- the truck reaches no node but its start
    stays : (node : ℕ) (route : List ℕ) → IsPassableWalk base state a.truck a.from node route → node ≡ 0
    stays node [] h = sym h.walk ∙ start
    stays node (i ∷ path) h =
        let (s, at, may, from, rest) = h.walk in
        let (first, is) = only i s (ap (λ l. slice_get l i) (sym one) ∙ at) in
        absurd (shut (subst (MeetsTruck base state a.truck) first (h.meets 0 0 (omega arith))))

    there : slice_get base.roads.segments 0 ≡ Some road
    there = ap (λ l. slice_get l 0) one

    is_road : segment_at base.roads.segments 0 ≡ road
    is_road = ap (λ l. segment_at l 0) one

    shut_in : IsShutIn base state state a 0
    shut_in = record {
      road = (0 ∷ [], (road, there, refl, begins ∙ sym start, ends ∙ sym end));
      none = λ route walk. omega (arith, stays a.to route walk, end);
      out = record {
        there = omega (arith, ap length one);
        begins = ([], record { walk = start ∙ sym (ap (λ (x : Segment). x.from) is_road ∙ begins); meets = All-nil (MeetsTruck base state a.truck) });
        ends = λ r. omega (arith, stays (segment_at base.roads.segments 0).to r.0 r.1, ap (λ (x : Segment). x.to) is_road, ends);
      };
      least = λ k leads. omega arith;
      all_fail = λ k leads meets. shut (subst (MeetsTruck base state a.truck) (omega (arith, leads.there, ap length one)) meets);
    }

-- a route of 200 segments that was found before a posting on the hundredth: one place on it changed, so its answer tests one
-- segment at the most
module _ (base : BaseLists) where
  hundredth_changed : changed_on base (change.Height 99 999 ∷ []) 0 (range_with_len 0 200) ≡ 1
  hundredth_changed = refl

-- a hundred permits on segment 0, and a hundred behind them on segment 1: a posting on segment 1 tests a hundred at the most
permits_on : ℕ → ℕ → List Permit
permits_on segment before = map (λ n. new_permit n (trip_of 0 0 ((segment ∷ []) ∷ []) [] []) 0 0) (range_with_len (before + 1) 100)

second_hundred : users_of 1 (permits_on 0 0 ++ permits_on 1 100) ≡ range_with_len 101 100
unfolding permits_on
second_hundred = refl

hundred_users : length (users_of 1 (permits_on 0 0 ++ permits_on 1 100)) ≡ 100
unfolding permits_on
hundred_users = refl

-- where one of them was given back before, the posting tests one less
given_back : length (users_of 1 (marked (permits_on 0 0 ++ permits_on 1 100) 150 mark.Surrendered)) ≡ 99
unfolding permits_on
given_back = refl
