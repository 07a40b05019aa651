-- What an office keeps stays in order.
use Rattle.std.proofs.Common.{◌≡◌, ◌∷◌, ◌++◌, [], List, ℕ, ◌+◌, ◌-◌, ◌<◌, ◌≤◌, true, length, drop, filter, ap, sym, subst, refl, ◌∙◌, Bool, not, Option, None, Some, Result, Ok, Err, IfOk, arith, replicate}
use Rattle.std.proofs.lemmas.Bool.Decides.{nat_tests}
use Rattle.std.specs.Prelude.{slice_get}
use Rattle.std.proofs.lemmas.List.{append-nil, drop_all, get_or-replicate, length-replicate}
use Rattle.std.proofs.lemmas.Option.{get_or_from_slice_get, slice_get_within}
use Rattle.std.specs.List.{All, concat}
use Rattle.std.specs.Arc.{arc_value}
use Rattle.std.specs.List.Sorted.{IsStrictlyIncreasing}
use Rattle.road_graph.specs.Roads.{Roads}
use Rattle.restriction_log.specs.declared.change.Change.{Change}
use Rattle.restriction_log.specs.Changes.{touched}
use Rattle.restriction_log.specs.States.{InForce, state_of}
use Rattle.snapshot_store.specs.Stores.{IsNextOf, NextState, Stored, store_version_of, with_change, state_now as store_state}
use Rattle.permit_book.specs.declared.permit.Permit.{Permit}
use Rattle.permit_book.specs.declared.permit.Mark.TheVariants as mark
use Rattle.permit_book.specs.Permits.{AreNumbered, in_force, is_live, no_permit, permit_of}
use Rattle.recall_index.specs.Uses.{IsAdded, IsRemoved, Lists, using_in}
use Rattle.trip_analysis.specs.declared.application.Application.{Application}
use Rattle.trip_analysis.specs.declared.finding.What.{What}
use Rattle.trip_analysis.specs.Bases.{BaseLists}
use Rattle.trip_analysis.specs.Applications.{Sound}
use Rattle.trip_analysis.specs.Passing.{first_on, is_passable}
use Rattle.trip_analysis.specs.Findings.{InRange, IsFinding, IsFoundAt}
use Rattle.trip_analysis.specs.declared.finding.Proposal.{Proposal}
use Rattle.trip_analysis.specs.Followers.{GoesOn}
use Rattle.trip_analysis.proofs.Following.{goes_on_posted}
use Rattle.office_core.specs.declared.register.Register.TheInside.{Inside}
use Rattle.office_words.specs.declared.entry.Reply.TheVariants as reply
use Rattle.office_core.specs.Recalls.{AreLive, AreVerdicts, InForceMeet, IsRanged, is_recalled, marked_all, recalled_by, recalled_now}
use Rattle.office_core.specs.Users.{IsIndexed, IsUser, users_of}
use Rattle.office_core.specs.Machine.{IsGood, Machine, machine_at, posted_reply, state_with, with_posting}
use Rattle.office_core.specs.Registers.{HeldAt, IsNextState, IsRegister, MeetElsewhere, RegisterParts, is_recalled_in, register_parts_of, posting_reply, recalls_of, register_state_now, stored_now}
use Rattle.office_core.proofs.Founds.{found_in_range, holds_now}
use Rattle.office_core.proofs.Goods.{good_entered, good_posted}
use Rattle.office_core.proofs.ByNumber.{recalled_live, recalled_marked}
use Rattle.office_core.proofs.Recalling.{are_increasing}
use Rattle.office_core.proofs.Indexing.{are_users, index_issued, index_undone}
use Rattle.office_core.proofs.Touching.{met_elsewhere}
use Rattle.office_core.proofs.Among.{recalled_among, recalled_if_failing}

-- the state of the store is that of the postings
pub kept_state : (i : Inside) → IsRegister i → store_state i.store ≡ register_state_now (register_parts_of i)
kept_state i inv = ap (λ (r : Roads). state_of r i.store.postings) inv.store

-- the store is of the base, with what is posted
pub stored_is : (i : Inside) (p : RegisterParts) → register_parts_of i ≡ p → IsRegister i → i.store ≡ stored_now p
stored_is i p seen inv = ap (λ (r : Roads). let s : Stored = record { roads = r; postings = i.store.postings } in s) inv.store ∙ ap stored_now seen

next_here : (i : Inside) (p : RegisterParts) (next : NextState) → register_parts_of i ≡ p → IsRegister i → IsNextOf i.store next → IsNextState p next
next_here i p next seen inv is = subst (λ (s : Stored). IsNextOf s next) (stored_is i p seen inv) is

pub next_if_made : {E : Type 0} (i : Inside) (p : RegisterParts) (r : Result NextState E) → register_parts_of i ≡ p → IsRegister i → IfOk r (IsNextOf i.store) → IfOk r (IsNextState p)
next_if_made i p (Ok next) seen inv is = next_here i p next seen inv is
next_if_made i p (Err e) seen inv is = tt

-- in the state that a posting would make, each permit in force meets its truck but where the change touches
pub elsewhere_if_made : {E : Type 0} (i : Inside) (p : RegisterParts) (change : Change) (r : Result NextState E) → register_parts_of i ≡ p → IsRegister i → IfOk r (IsNextOf i.store) → IfOk r (λ next. next.change ≡ change)
    → IfOk r (λ next. MeetElsewhere p next.state (touched p.base.roads change))
elsewhere_if_made i p change (Ok next) seen inv is same =
    let its : IsNextState p next = next_here i p next seen inv is in
    let made : next.state ≡ state_with p.base p.machine change = its.state ∙ ap (λ (c : Change). state_with p.base p.machine c) same in
    let meet : InForceMeet p.base (register_state_now p) p.machine.day p.machine.permits = subst (λ (q : RegisterParts). InForceMeet q.base (register_state_now q) q.machine.day q.machine.permits) seen inv.good.meets in
    met_elsewhere p.base p.machine.postings next.state change (touched p.base.roads change) p.machine.day p.machine.permits made refl meet
elsewhere_if_made i p change (Err e) seen inv is same = tt

-- the index tells which permits use a segment
pub users_are : (i : Inside) (p : RegisterParts) (s : ℕ) (list : List ℕ) → register_parts_of i ≡ p → IsRegister i → s < length p.base.roads.segments → list ≡ using_in i.index s → All (IsUser p.machine.permits s) list
users_are i p s list seen inv low is =
    let here : s < length (arc_value i.base).roads.segments = subst (λ (q : RegisterParts). s < length q.base.roads.segments) (sym seen) low in
    subst (λ (q : RegisterParts). All (IsUser q.machine.permits s) list) seen
    (subst (All (IsUser i.book s)) (sym (is ∙ inv.index.users s here)) (are_users s i.book inv.good.numbered))

-- those that were told among them are those that a state recalls
pub recalled_whole : (p : RegisterParts) (state : InForce) (segment k : ℕ) (numbers users : List ℕ) → AreNumbered 0 p.machine.permits → MeetElsewhere p state segment → users ≡ users_of segment p.machine.permits → length users ≤ k
    → numbers ++ filter (is_recalled_in p state) (drop k users) ≡ filter (is_recalled_in p state) users → numbers ≡ recalls_of p state
recalled_whole p state segment k numbers users numbered elsewhere are done is =
    sym (append-nil numbers) ∙ (ap (λ l. numbers ++ filter (is_recalled_in p state) l) (sym (drop_all k users done))
    ∙ (is ∙ (ap (filter (is_recalled_in p state)) are ∙ recalled_among p.base state segment p.machine.day p.machine.permits numbered elsewhere)))

-- of a permit in force that uses the segment it decides whether the state fails its truck there
pub recalled_so : (p : RegisterParts) (state : InForce) (segment n : ℕ) (q : Permit) → IsUser p.machine.permits segment n → MeetElsewhere p state segment → q ≡ permit_of p.machine.permits n
    → in_force p.machine.day q ≡ true → not (is_passable p.base state q.trip.truck segment) ≡ is_recalled_in p state n
recalled_so p state segment n q user elsewhere same on =
    let issued = user.issued in
    let low : n - 1 < length p.machine.permits = grind (arith, nat_tests, issued) in
    let own = permit_of p.machine.permits n in
    ap (λ (r : Permit). not (is_passable p.base state r.trip.truck segment)) same
    ∙ recalled_if_failing p.base state segment p.machine.day own (elsewhere (n - 1) no_permit low) user.uses (ap (in_force p.machine.day) (sym same) ∙ on)

no_verdict : (trucks t : ℕ) (b : Bool) (empty : Option Bool) → empty ≡ None → slice_get (replicate trucks empty) t ≡ Some (Some b) → ⊥
no_verdict trucks t b empty none at =
    let low : t < trucks = omega (arith, slice_get_within (replicate trucks empty) t (Some b) at, length-replicate trucks empty) in
    let is : empty ≡ Some b = sym (get_or-replicate trucks t empty empty low) ∙ get_or_from_slice_get (replicate trucks empty) t (Some b) empty at in
    cc

-- where no truck is judged yet, the verdicts are as they should be
pub none_judged : (base : BaseLists) (state : InForce) (segment trucks : ℕ) → trucks ≡ length base.fleet → AreVerdicts base state segment (replicate trucks None)
none_judged base state segment trucks all = record {
  many = length-replicate trucks None ∙ all;
  each = λ t b at. absurd (no_verdict trucks t b None refl at);
}

-- the answer to a posting is made of what it would make
pub posted_as : (p : RegisterParts) (next : NextState) (change : Change) (numbers : List ℕ) (v : ℕ) → IsNextState p next → next.change ≡ change → numbers ≡ recalls_of p next.state → v ≡ length p.machine.postings + 1 → reply.Posted v numbers ≡ posting_reply p change
posted_as p next change numbers v is same are counted = subst (λ (c : Change). reply.Posted v numbers ≡ posting_reply p c) same
    (rw (is.takes, counted, are ∙ ap (recalls_of p) is.state) refl)

-- what is found now is in range, and held at the current version
pub found_within : (i : Inside) (p : RegisterParts) (base : BaseLists) (state : InForce) (a : Application) (w : What) → register_parts_of i ≡ p → IsRegister i → base ≡ arc_value i.base → Sound p.base a → IsFinding base state a w → InRange p.base w
found_within i p base state a w seen inv same sound is =
    let found : IsFinding (arc_value i.base) state a w = subst (λ (b : BaseLists). IsFinding b state a w) same is in
    let asked : Sound (arc_value i.base) a = subst (λ (q : RegisterParts). Sound q.base a) (sym seen) sound in
    subst (λ (q : RegisterParts). InRange q.base w) seen (found_in_range (arc_value i.base) state a w inv.roads asked found)

pub found_held : (i : Inside) (p : RegisterParts) (base : BaseLists) (state : InForce) (a : Application) (n : ℕ) (w : What) → register_parts_of i ≡ p → IsRegister i → base ≡ arc_value i.base → state ≡ store_state i.store → n ≡ length i.store.postings → Sound p.base a → IsFinding base state a w → HeldAt p n a.truck w
found_held i p base state a n w seen inv same here now sound is =
    let found : IsFinding (arc_value i.base) state a w = subst (λ (b : BaseLists). IsFinding b state a w) same is in
    let asked : Sound (arc_value i.base) a = subst (λ (q : RegisterParts). Sound q.base a) (sym seen) sound in
    subst (λ (q : RegisterParts). HeldAt q n a.truck w) seen (holds_now (arc_value i.base) i.store.postings n state a w inv.roads (here ∙ kept_state i inv) now asked found)

pub within_if_found : {E : Type 0} (i : Inside) (p : RegisterParts) (base : BaseLists) (s : Stored) (a : Application) (r : Result Proposal E) → register_parts_of i ≡ p → IsRegister i → base ≡ arc_value i.base → Sound p.base a
    → IfOk r (λ q. IsFoundAt base s a q.what) → IfOk r (λ q. InRange p.base q.what)
within_if_found i p base s a (Ok q) seen inv same sound found = found_within i p base (store_state s) a q.what seen inv same sound found
within_if_found i p base s a (Err e) seen inv same sound found = tt

pub held_if_found : {E : Type 0} (i : Inside) (p : RegisterParts) (base : BaseLists) (s : Stored) (a : Application) (r : Result Proposal E) → register_parts_of i ≡ p → IsRegister i → base ≡ arc_value i.base → s ≡ i.store → Sound p.base a
    → IfOk r (λ q. q.seen ≡ store_version_of s) → IfOk r (λ q. IsFoundAt base s a q.what) → IfOk r (λ q. HeldAt p q.seen a.truck q.what)
held_if_found i p base s a (Ok q) seen inv same is sound at found =
    found_held i p base (store_state s) a q.seen q.what seen inv same (ap store_state is) (at ∙ ap store_version_of is) sound found
held_if_found i p base s a (Err e) seen inv same is sound at found = tt

-- the segments that are passed are in the index
pub segments_there : (i : Inside) (p : RegisterParts) (path : List ℕ) → register_parts_of i ≡ p → IsRegister i → All (λ s. s < length p.base.roads.segments) path → All (λ s. s < length i.index) path
segments_there i p path seen inv inside = subst (λ k. All (λ s. s < k) path) (sym inv.index.many) (subst (λ (q : RegisterParts). All (λ s. s < length q.base.roads.segments) path) (sym seen) inside)

-- with one permit more, whose routes meet, and its routes in the index
pub issue_keeps : (i : Inside) (p : RegisterParts) (book : List Permit) (index : Lists) (q : Permit) → register_parts_of i ≡ p → IsRegister i → q.number ≡ length i.book + 1 → is_live q.mark ≡ true
    → q.trip.truck < length p.base.fleet → All (λ s. s < length p.base.roads.segments) (concat q.trip.routes) → first_on p.base (register_state_now p) q.trip.truck (concat q.trip.routes) ≡ None
    → IsAdded i.index q.number (concat q.trip.routes) index → book ≡ i.book ++ q ∷ [] → IsRegister (record i { book = book; index = index })
issue_keeps i p book index q seen inv number live there within meets added entered =
    let base : BaseLists = arc_value i.base in
    let m : Machine = machine_at i.store.postings i.book i.day in
    let fits : q.trip.truck < length base.fleet = subst (λ (r : RegisterParts). q.trip.truck < length r.base.fleet) (sym seen) there in
    let inside : All (λ s. s < length base.roads.segments) (concat q.trip.routes) = subst (λ (r : RegisterParts). All (λ s. s < length r.base.roads.segments) (concat q.trip.routes)) (sym seen) within in
    let passes : first_on base (register_state_now (register_parts_of i)) q.trip.truck (concat q.trip.routes) ≡ None = subst (λ (r : RegisterParts). first_on r.base (register_state_now r) q.trip.truck (concat q.trip.routes) ≡ None) (sym seen) meets in
    let ranged : IsRanged base q = record { truck = fits; routes = inside } in
    record {
      roads = inv.roads;
      good = rw entered (good_entered base m q number ranged passes inv.good);
      store = inv.store;
      follower = inv.follower;
      later = inv.later;
      index = rw entered (index_issued (length base.roads.segments) i.book i.index inv.index inv.good.numbered index q.number q added refl live inside);
    }

-- with no permit more, and its routes out of the index again
pub undo_keeps : (i : Inside) (book : List Permit) (mid index : Lists) (n : ℕ) (path : List ℕ) → IsRegister i → n ≡ length i.book + 1 → IsAdded i.index n path mid → IsRemoved mid n index → book ≡ i.book → IsRegister (record i { book = book; index = index })
undo_keeps i book mid index n path inv next added gone same = record {
  roads = inv.roads;
  good = rw same inv.good;
  store = inv.store;
  follower = inv.follower;
  later = inv.later;
  index = rw same (index_undone (length (arc_value i.base).roads.segments) i.book i.index inv.index inv.good.numbered mid index n path next added gone);
}

-- the permits that a state recalls are live still when those before them are marked
pub recalls_live : (i : Inside) (p : RegisterParts) (next : InForce) (v : ℕ) (numbers : List ℕ) → register_parts_of i ≡ p → IsRegister i → numbers ≡ recalls_of p next → AreLive (mark.Recalled v) i.book numbers
recalls_live i p next v numbers seen inv are =
    let same : numbers ≡ recalled_by (arc_value i.base) next i.day i.book = are ∙ ap (λ (q : RegisterParts). recalls_of q next) (sym seen) in
    rw same (recalled_live (arc_value i.base) next i.day v i.book inv.good.numbered)

-- and their numbers rise
pub recalls_rise : (i : Inside) (p : RegisterParts) (next : InForce) (numbers : List ℕ) → register_parts_of i ≡ p → IsRegister i → numbers ≡ recalls_of p next → IsStrictlyIncreasing numbers
recalls_rise i p next numbers seen inv are =
    let same : numbers ≡ recalled_by (arc_value i.base) next i.day i.book = are ∙ ap (λ (q : RegisterParts). recalls_of q next) (sym seen) in
    rw same (are_increasing (is_recalled (arc_value i.base) next i.day) i.book inv.good.numbered)

-- what the posting of a change leaves
pub record Posted (i : Inside) (p : RegisterParts) (change : Change) (next : Inside) : Type 0 where
  pub kept : IsRegister next
  pub after : (register_parts_of next).machine ≡ with_posting p.base p.machine change (posted_reply p.base p.machine change)

pub post_keeps : (i : Inside) (p : RegisterParts) (store : Stored) (next : NextState) (book : List Permit) (index : Lists) (v : ℕ) (numbers : List ℕ) → register_parts_of i ≡ p → IsRegister i → IsNextState p next
    → numbers ≡ recalls_of p next.state → v ≡ store_version_of i.store + 1 → store ≡ with_change i.store next.change → book ≡ marked_all (mark.Recalled v) i.book numbers → IsIndexed (length i.index) book index
    → Posted i p next.change (record i { store = store; book = book; index = index })
post_keeps i p store next book index v numbers seen inv is are counted longer marks indexed =
    let here : BaseLists = arc_value i.base in
    let m : Machine = machine_at i.store.postings i.book i.day in
    let change : Change = next.change in
    let its : IsNextState (register_parts_of i) next = subst (λ (q : RegisterParts). IsNextState q next) (sym seen) is in
    let recalls : numbers ≡ recalled_by here (state_with here m change) i.day i.book = are ∙ (ap (λ (q : RegisterParts). recalls_of q next.state) (sym seen) ∙ ap (recalls_of (register_parts_of i)) its.state) in
    let permits : book ≡ recalled_now here (state_with here m change) i.day v i.book =
    marks ∙ (ap (marked_all (mark.Recalled v) i.book) recalls ∙ recalled_marked here (state_with here m change) i.day v i.book inv.good.numbered) in
    let goes : machine_at store.postings book i.day ≡ with_posting here m change (reply.Posted v (recalls_of (register_parts_of i) (state_with here m change))) =
    ap (λ (t : Stored). machine_at t.postings book i.day) longer ∙ ap (λ (l : List Permit). machine_at (i.store.postings ++ change ∷ []) l i.day) permits in
    let answered : with_posting here m change (reply.Posted v (recalls_of (register_parts_of i) (state_with here m change))) ≡ with_posting here m change (posted_reply here m change) =
    rw (its.takes, counted) refl in
    record {
      kept = record {
        roads = inv.roads;
        good = subst (IsGood here) (sym goes) (good_posted here m change v (recalls_of (register_parts_of i) (state_with here m change)) its.takes inv.good);
        store = ap (λ (t : Stored). t.roads) longer ∙ inv.store;
        follower = inv.follower;
        later = subst (GoesOn i.follower.last) (sym longer) (goes_on_posted i.follower.last i.store change inv.later);
        index = subst (λ k. IsIndexed k book index) inv.index.many indexed;
      };
      after = goes ∙ (answered ∙ ap (λ (q : RegisterParts). with_posting q.base q.machine change (posted_reply q.base q.machine change)) seen);
    }
