-- Each entry of a legal history may stand in a journal.
use Rattle.std.proofs.Common.{◌≡◌, ◌+◌, ◌-◌, ◌^◌, ◌<◌, ◌≤◌, ◌∷◌, [], List, ℕ, suc, Bool, true, false, not, nat_eq, cond, All, length, refl, sym, subst, Option, Some, None, inl, inr, arith, length-append, length-set}
use Rattle.std.specs.Prelude.{slice_get}
use Rattle.std.specs.List.{AllByRecursion, concat, range_with_len}
use Rattle.std.proofs.lemmas.Bool.{cases_Bool, cases_lt}
use Rattle.std.proofs.lemmas.List.{get_or_past, length-map, set_past}
use Rattle.std.proofs.lemmas.List.Elements.{All-filter, All-head, All-map, All-nil, All-push, All-set, All-tail, All-weaker, All-from_recursion, recursion_from_All}
use Rattle.influence_line.proofs.Members.{All-range}
use Rattle.road_graph.specs.Roads.{IsRoads}
use Rattle.restriction_log.specs.Changes.{takes}
use Rattle.restriction_log.specs.States.{AreOf, InForce}
use Rattle.restriction_log.specs.declared.change.Change.{Change}
use Rattle.clearance_rules.specs.Loads.{is_load}
use Rattle.clearance_rules.specs.declared.limit.Limit.{Limit}
use Rattle.permit_days.specs.Days.{is_before}
use Rattle.route_search.specs.Walks.{every}
use Rattle.route_search.specs.declared.shortest.Shortest.{Shortest}
use Rattle.route_search.specs.declared.shortest.Shortest.TheVariants as shortest
use Rattle.route_search.specs.Founds.{IsShortest}
use Rattle.route_search.proofs.Cuts.{shortest_in_range}
use Rattle.trip_analysis.specs.declared.application.Application.{Application}
use Rattle.trip_analysis.specs.declared.base.Truck.{Truck}
use Rattle.trip_analysis.specs.declared.failing.Failing.{Failing}
use Rattle.trip_analysis.specs.declared.finding.What.{What}
use Rattle.trip_analysis.specs.declared.finding.What.TheVariants as what
use Rattle.trip_analysis.specs.Applications.{AreAskedRoutes, IsAskedWalk, Sound}
use Rattle.trip_analysis.specs.Bases.{BaseLists, IsBase, no_truck, truck_of}
use Rattle.trip_analysis.specs.Passing.{first_on, first_or, flags_of, is_passable, limit_for, needs_none}
use Rattle.trip_analysis.specs.Findings.{InRange, IsFinding, IsFoundBy, asked_finding, first_meeting, leaves, leaving, proposed_of}
use Rattle.trip_analysis.proofs.Found.{found_in_range, pick}
use Rattle.trip_analysis.proofs.Joined.{all_routes, walks_there}
use Rattle.trip_routes.specs.Routes.{AreRoutes}
use Rattle.permit_book.specs.declared.permit.Mark.{Mark}
use Rattle.permit_book.specs.declared.permit.Mark.TheVariants as mark
use Rattle.permit_book.specs.declared.permit.Permit.{Permit}
use Rattle.permit_book.specs.declared.permit.Status.TheVariants as status
use Rattle.permit_book.specs.Permits.{AreNumbered, in_force, is_issued, new_permit, no_permit, permit_of, status_by, status_of}
use Rattle.office_words.specs.declared.entry.Call.{Call}
use Rattle.office_words.specs.declared.entry.Call.TheVariants as call
use Rattle.office_words.specs.declared.entry.Entry.{Entry}
use Rattle.office_words.specs.declared.entry.Reply.{Reply}
use Rattle.office_words.specs.declared.entry.Reply.TheVariants as reply
use Rattle.office_core.specs.Machine.{IsAnswer, IsGood, IsLegalFrom, Machine, MayAsk, after, after_entry, opened, posted_reply, recalled_with, reply_in, state_at, state_in, state_with, trip_for, version_of, with_day, with_permit, with_posting, with_surrender}
use Rattle.office_core.specs.Recalls.{is_recalled, recalled_if}
use Rattle.office_core.specs.Replies.{day_reply, early_reply, show_reply, shown, surrender_reply}
use Rattle.office_core.proofs.Cases.{apply_found, given, held_given, none_early}
use Rattle.office_core.proofs.Founds.{of_base}
use Rattle.office_core.proofs.Goods.{good_after}
use Rattle.office_core.proofs.Lasting.{numbers_of}
use Rattle.journal_reader.specs.Fits.{FitsApplication, FitsAsked, FitsCall, FitsChange, FitsDay, FitsEntry, FitsIndex, FitsIndices, FitsLimit, FitsNumber, FitsNumbers, FitsReply, FitsRoutes, FitsStatus, FitsWhat}
use Rattle.program_laws.proofs.Limiting.{limit_fits, state_ranged}

-- what is known of an application by the record that it comes from
pub record IsRequest (a : Application) : Type 0 where
  pub first : FitsDay a.first
  pub last : FitsDay a.last

-- what is known of a call by the command that it comes from
abbrev pub IsAsked : Call → Type 0
IsAsked call.Snapshot = Unit {0}
IsAsked (call.Submit a p) = IsRequest a
IsAsked (call.Held a) = IsRequest a
IsAsked (call.Post change) = FitsChange change
IsAsked (call.Day day) = FitsDay day
IsAsked (call.Surrender number) = FitsNumber number
IsAsked (call.Show number) = FitsNumber number

-- what a permit keeps may stand in a journal
abbrev pub FitsMark : Mark → Type 0
FitsMark mark.Live = Unit {0}
FitsMark (mark.Recalled version) = FitsNumber version
FitsMark mark.Surrendered = Unit {0}

pub record FitsPermit (p : Permit) : Type 0 where
  pub caller : FitsIndex p.trip.caller
  pub truck : FitsIndex p.trip.truck
  pub first : FitsDay p.trip.first
  pub last : FitsDay p.trip.last
  pub version : FitsNumber p.version
  pub seen : FitsNumber p.seen
  pub mark : FitsMark p.mark

-- a machine after so many entries
pub record FitsMachine (n : ℕ) (m : Machine) : Type 0 where
  pub postings : length m.postings ≤ n
  pub permits : length m.permits ≤ n
  pub day : FitsDay m.day
  pub each : All FitsPermit m.permits

pub fits_opened : (day : List ℕ) → FitsDay day → FitsMachine 0 (opened day)
fits_opened day h = record { postings = omega arith; permits = omega arith; day = h; each = All-nil FitsPermit }

fits_longer : (n : ℕ) (m : Machine) → FitsMachine n m → FitsMachine (n + 1) m
fits_longer n m h = record { postings = omega (arith, h.postings); permits = omega (arith, h.permits); day = h.day; each = h.each }

-- lists of indices
indices : (bound : ℕ) (xs : List ℕ) → bound ≤ 65536 → All (λ x. x < bound) xs → FitsIndices xs
indices bound xs few all = recursion_from_All FitsIndex xs (All-weaker (λ x. x < bound) FitsIndex (λ x h. omega (arith, h, few)) xs all)

from_places : (bound : ℕ) (xs : List ℕ) → bound ≤ 65536 → ((k v : ℕ) → slice_get xs k ≡ Some v → v < bound) → FitsIndices xs
from_places bound [] few at = tt
from_places bound (x ∷ xs) few at = (omega (arith, at 0 x refl, few), from_places bound xs few (λ k v h. at (suc k) v h))

numbered_within : (n : ℕ) (ps : List Permit) (bound : ℕ) → AreNumbered n ps → n + length ps ≤ bound → AllByRecursion (λ (p : Permit). p.number ≤ bound) ps
numbered_within n [] bound h le = tt
numbered_within n (p ∷ ps) bound h le = (omega (arith, h.0), numbered_within (n + 1) ps bound h.1 (omega arith))

status_fits : (m : Mark) (last day : List ℕ) → FitsMark m → FitsStatus (status_by m last day)
status_fits mark.Live last day h = pick FitsStatus (is_before last day) status.Expired status.InForce (λ _. tt) (λ _. tt)
status_fits (mark.Recalled version) last day h = h
status_fits mark.Surrendered last day h = tt

module _ (base : BaseLists) (roads : IsRoads base.roads) (fleet : IsBase base) (sizes : All (λ (t : Truck). is_load t.load.height t.load.width t.load.length ≡ true) base.fleet) where
  abbrev IsThere : ℕ → Type 0
  IsThere s = s < length base.roads.segments

  segment_fits : (s : ℕ) → IsThere s → FitsIndex s
  segment_fits s there = omega (arith, roads.few_segments)

  routes_fit : (routes : List (List ℕ)) → AreRoutes routes → All IsThere (concat routes) → FitsRoutes routes
  routes_fit routes are there =
      (are, recursion_from_All FitsIndices routes (All-weaker (All IsThere) FitsIndices (λ route. indices (length base.roads.segments) route (omega (arith, roads.few_segments))) routes (all_routes IsThere routes there)))

  application_fits : (a : Application) → Sound base a → IsRequest a → FitsApplication a
  application_fits a sound request = (omega (arith, sound.truck, fleet.few), omega (arith, sound.from, roads.few_nodes), omega (arith, sound.to, roads.few_nodes), asked_fits a.asked sound.asked sound.routes, request.first, request.last)
    where
      asked_fits : (asked : Option (List (List ℕ))) → IsAskedWalk base.roads a.from a.to asked → AreAskedRoutes asked → FitsAsked asked
      asked_fits None walks are = tt
      asked_fits (Some routes) walks are = routes_fit routes are (walks_there base.roads.segments every a.from a.to routes walks)

  -- the routes that are found are one to eight, and the nodes of a cut are there
  abbrev IsListed : What → Type 0
  IsListed (what.Route routes) = AreRoutes routes
  IsListed (what.Cut nodes) = (k v : ℕ) → slice_get nodes k ≡ Some v → v < length base.roads.nodes
  IsListed other = Unit {0}

  asked_listed : (f : Option Failing) (routes : List (List ℕ)) → AreRoutes routes → IsListed (asked_finding f routes)
  asked_listed (Some f) routes are = tt
  asked_listed None routes are = are

  searched_listed : (flags : List Bool) (a b : ℕ) (f : Shortest) → a < length base.roads.nodes → IsShortest base.roads flags a b f → IsListed (proposed_of f)
  searched_listed flags a b (shortest.Route segments feet) there h = record { some = omega arith; few = omega arith }
  searched_listed flags a b (shortest.Cut reached) there h = shortest_in_range base.roads flags a b (shortest.Cut reached) roads there h
  searched_listed flags a b (shortest.NoRoad reached) there h = shortest_in_range base.roads flags a b (shortest.NoRoad reached) roads there h

  found_listed : (state : InForce) (a : Application) (w : What) (asked : Option (List (List ℕ))) → Sound base a → AreAskedRoutes asked → IsFoundBy base state a asked w → IsListed w
  found_listed state a w (Some routes) sound are h = subst IsListed (sym h) (asked_listed (first_on base state a.truck (concat routes)) routes are)
  found_listed state a w None sound are (f, is, same) = subst IsListed (sym same) (searched_listed (flags_of base state a.truck) a.from a.to f sound.from is)

  -- what is found for an application is in range and listed
  abbrev IsKnown : What → Type 0
  IsKnown w = InRange base w × IsListed w

  known : (state : InForce) (a : Application) (w : What) → Sound base a → IsFinding base state a w → IsKnown w
  known state a w sound h = (
    found_in_range base state a w roads sound h,
    elim (cases_Bool (needs_none base a.truck)) [
      | inl free ↦ subst IsListed (sym (h.legal free)) tt
      | inr needed ↦ found_listed state a w a.asked sound sound.routes (h.found needed)
    ],
  )

  what_fits : (w : What) → IsKnown w → FitsWhat w
  what_fits what.NotNeeded h = tt
  what_fits (what.Route routes) h = routes_fit routes h.1 h.0
  what_fits (what.Fails s) h = segment_fits s h.0
  what_fits (what.Cut nodes) h = from_places (length base.roads.nodes) nodes (omega (arith, roads.few_nodes)) h.1

  leaving_there : (nodes : List ℕ) → All IsThere (leaving base.roads nodes)
  leaving_there nodes =
      All-filter (leaves base.roads nodes) IsThere (range_with_len 0 (length base.roads.segments - 0)) (All-range IsThere 0 (length base.roads.segments - 0) (λ i low high. omega arith))

  meeting_there : (state : InForce) (truck : ℕ) (list : List ℕ) (k : ℕ) → All IsThere list → first_meeting base state truck list ≡ Some k → IsThere k
  meeting_there state truck [] k all e = cc
  meeting_there state truck (s ∷ rest) k all e = by (is_passable base state truck s) (meeting_there state truck rest k (All-tail IsThere s rest all)) e
    where
      by : (b : Bool) → (first_meeting base state truck rest ≡ Some k → IsThere k) → cond b (Some s) (first_meeting base state truck rest) ≡ Some k → IsThere k
      by true later e = let same : s ≡ k = cc in subst IsThere same (All-head IsThere s rest all)
      by false later e = later e

  -- what an office answers from a machine that fits
  module _ (n : ℕ) (m : Machine) (few : n + 2 < 2 ^ 32) (good : IsGood base m) (h : FitsMachine n m) where
    is_of : AreOf base.roads (state_in base m)
    is_of = of_base base.roads m.postings roads good.taken

    limit_of_segment : (truck s : ℕ) (l : Limit) → truck < length base.fleet → IsThere s → limit_for base (state_in base m) truck s ≡ Some l → FitsLimit l
    limit_of_segment truck s l inside there e =
        limit_fits base.roads (state_in base m) (truck_of base truck).load s roads is_of (state_ranged base.roads m.postings roads good.taken)
        (sizes truck no_truck inside) (fleet.trains truck no_truck inside) (segment_fits s there) l e

    version_fits : FitsNumber (version_of m)
    version_fits = omega (arith, h.postings)

    first_fits : (truck : ℕ) (route : List ℕ) (f : Failing) → truck < length base.fleet → All IsThere route → first_on base (state_in base m) truck route ≡ Some f → FitsLimit f.limit
    first_fits truck [] f inside all e = cc
    first_fits truck (s ∷ rest) f inside all e = by (limit_for base (state_in base m) truck s) refl (first_fits truck rest f inside (All-tail IsThere s rest all)) e
      where
        by : (o : Option Limit) → limit_for base (state_in base m) truck s ≡ o → (first_on base (state_in base m) truck rest ≡ Some f → FitsLimit f.limit)
            → first_or o s (first_on base (state_in base m) truck rest) ≡ Some f → FitsLimit f.limit
        by (Some l) is later e =
            let same : record { segment = s; limit = l } ≡ f = cc in
            subst (λ (g : Failing). FitsLimit g.limit) same (limit_of_segment truck s l inside (All-head IsThere s rest all) is)
        by None is later e = later e

    found_fits : (a : Application) (w : What) → a.truck < length base.fleet → (early_reply base m.day a ≡ None → IsKnown w) → FitsReply (reply_in base m a w)
    found_fits a w inside is_known = apply_found base (state_in base m) (version_of m) m.day (length m.permits + 1) a w FitsReply (λ _. h.day) (λ _. tt) (λ early needed.
        let both = is_known (none_early base m.day a early needed) in
        let there = both.0 in record {
          not_needed = λ _. tt;
          no_road = λ _ _ _. tt;
          now_fails = λ routes f e is. (version_fits, first_fits a.truck (concat routes) f inside (subst (InRange base) e there) is);
          issued = λ routes e meets. (omega (arith, h.permits), version_fits, routes_fit routes (subst IsListed e both.1) (subst (InRange base) e there));
          refused = λ s l e is. (version_fits, limit_of_segment a.truck s l inside (subst (InRange base) e there) is);
          now_meets = λ s e is. (version_fits, segment_fits s (subst (InRange base) e there));
          cut_refused = λ nodes rest s l e out none is.
              (version_fits, limit_of_segment a.truck s l inside (All-head IsThere s rest (subst (All IsThere) out (leaving_there nodes))) is);
          cut_meets = λ nodes s e is. (version_fits, segment_fits s (meeting_there (state_in base m) a.truck (leaving base.roads nodes) s (leaving_there nodes) is));
        })

    recalled_fit : (change : Change) → FitsNumbers (recalled_with base m change)
    recalled_fit change =
        let all = All-from_recursion (λ (p : Permit). p.number ≤ length m.permits) m.permits (numbered_within 0 m.permits (length m.permits) good.numbered (omega arith)) in
        recursion_from_All FitsNumber (recalled_with base m change)
        (All-map FitsNumber (λ (p : Permit). p.number) _ (All-weaker (λ (p : Permit). p.number ≤ length m.permits) (λ (p : Permit). FitsNumber p.number) (λ p le. omega (arith, le, h.permits)) _
        (All-filter (is_recalled base (state_with base m change) m.day) (λ (p : Permit). p.number ≤ length m.permits) m.permits all)))

    mark_at : (number : ℕ) → FitsMark (permit_of m.permits number).mark
    mark_at number = elim (cases_lt (number - 1) (length m.permits)) [
      | inl inside ↦ (h.each (number - 1) no_permit inside).mark
      | inr past ↦ subst (λ (p : Permit). FitsMark p.mark) (sym (get_or_past m.permits (number - 1) no_permit past)) tt
    ]

    surrender_fits : (caller number : ℕ) → FitsReply (surrender_reply m.permits m.day caller number)
    surrender_fits caller number =
        let p = permit_of m.permits number in
        pick FitsReply (not (is_issued m.permits number)) reply.Unknown _ (λ _. tt)
        (λ _. pick FitsReply (not (nat_eq p.trip.caller caller)) reply.NotYours _ (λ _. tt)
        (λ _. pick FitsReply (not (in_force m.day p)) (reply.NotInForce (status_of p m.day)) reply.Surrendered (λ _. status_fits p.mark p.trip.last m.day (mark_at number)) (λ _. tt)))

    show_fits : (number : ℕ) → FitsReply (show_reply m.permits m.day number)
    show_fits number = by (is_issued m.permits number) refl
      where
        by : (b : Bool) → is_issued m.permits number ≡ b → FitsReply (cond (not b) reply.Unknown (shown (permit_of m.permits number) number m.day))
        by false e = tt
        by true e =
            let (some, within) = numbers_of m.permits number e in
            let p = h.each (number - 1) no_permit (omega (arith, some, within)) in
            (omega (arith, within, h.permits), p.caller, p.truck, p.first, p.last, p.version, p.seen, status_fits (permit_of m.permits number).mark (permit_of m.permits number).trip.last m.day p.mark)

    reply_fits : (caller : ℕ) (c : Call) (r : Reply) → IsAsked c → MayAsk base m c → IsAnswer base m caller c r → FitsReply r
    reply_fits caller call.Snapshot r asked may is = given FitsReply (reply.SnapshotAt (version_of m)) r version_fits tt is
    reply_fits caller (call.Submit a p) r asked may is =
        given FitsReply (reply_in base m a p.what) r (found_fits a p.what may.sound.truck (λ _. known (state_at base m p.seen) a p.what may.sound may.found)) tt is
    reply_fits caller (call.Held a) r asked may is =
        held_given FitsReply base m caller a r (λ w held. found_fits a w may.truck (λ early. known (state_in base m) a w may (held early))) tt is
    reply_fits caller (call.Post change) r asked may is =
        given FitsReply (posted_reply base m change) r (pick FitsReply (takes base.roads change) (reply.Posted (version_of m + 1) (recalled_with base m change)) reply.OutOfRange (λ _. (omega (arith, h.postings), recalled_fit change)) (λ _. tt)) tt is
    reply_fits caller (call.Day day) r asked may is =
        given FitsReply (day_reply m.day day) r (pick FitsReply (is_before day m.day) (reply.DayBack m.day) (reply.DayIs day) (λ _. h.day) (λ _. asked)) tt is
    reply_fits caller (call.Surrender number) r asked may is = given FitsReply (surrender_reply m.permits m.day caller number) r (surrender_fits caller number) tt is
    reply_fits caller (call.Show number) r asked may is = given FitsReply (show_reply m.permits m.day number) r (show_fits number) tt is

    call_fits : (c : Call) → IsAsked c → MayAsk base m c → FitsCall c
    call_fits call.Snapshot asked may = tt
    call_fits (call.Submit a p) asked may = (
      application_fits a may.sound asked,
      omega (arith, may.seen, h.postings),
      what_fits p.what (known (state_at base m p.seen) a p.what may.sound may.found),
    )
    call_fits (call.Held a) asked may = application_fits a may asked
    call_fits (call.Post change) asked may = asked
    call_fits (call.Day day) asked may = asked
    call_fits (call.Surrender number) asked may = asked
    call_fits (call.Show number) asked may = asked

    -- and the machine after the answer fits
    issue_fits : (caller : ℕ) (a : Application) (seen : ℕ) (r : Reply) → FitsIndex caller → FitsIndex a.truck → FitsDay a.first × FitsDay a.last → FitsNumber seen → FitsReply r
        → FitsMachine (n + 1) (with_permit m caller a seen r)
    issue_fits caller a seen (reply.Issued number version routes) who truck days since fits =
        let p = new_permit number (trip_for caller a routes) version seen in record {
          postings = omega (arith, h.postings);
          permits = omega (arith, length-append m.permits (p ∷ []), h.permits);
          day = h.day;
          each = All-push FitsPermit m.permits p h.each (record { caller = who; truck = truck; first = days.0; last = days.1; version = fits.1; seen = since; mark = tt });
        }
    issue_fits caller a seen _ who truck days since fits = fits_longer n m h

    post_fits : (change : Change) (r : Reply) → FitsReply r → FitsMachine (n + 1) (with_posting base m change r)
    post_fits change (reply.Posted version recalled) fits = record {
      postings = omega (arith, length-append m.postings (change ∷ []), h.postings);
      permits = omega (arith, length-map m.permits (recalled_if base (state_with base m change) m.day version), h.permits);
      day = h.day;
      each = All-map FitsPermit (recalled_if base (state_with base m change) m.day version) m.permits (All-weaker FitsPermit (λ p. FitsPermit (recalled_if base (state_with base m change) m.day version p)) (λ p is.
          pick FitsPermit (is_recalled base (state_with base m change) m.day p) (record p { mark = mark.Recalled version }) p
          (λ _. record { caller = is.caller; truck = is.truck; first = is.first; last = is.last; version = is.version; seen = is.seen; mark = fits.0 }) (λ _. is)) m.permits h.each);
    }
    post_fits change _ fits = fits_longer n m h

    day_fits : (r : Reply) → FitsReply r → FitsMachine (n + 1) (with_day m r)
    day_fits (reply.DayIs day) fits = record { postings = omega (arith, h.postings); permits = omega (arith, h.permits); day = fits; each = h.each }
    day_fits _ fits = fits_longer n m h

    given_back_fits : (number : ℕ) (r : Reply) → FitsMachine (n + 1) (with_surrender m number r)
    given_back_fits number reply.Surrendered =
        let p = record (permit_of m.permits number) { mark = mark.Surrendered } in record {
          postings = omega (arith, h.postings);
          permits = omega (arith, length-set m.permits (number - 1) p, h.permits);
          day = h.day;
          each = elim (cases_lt (number - 1) (length m.permits)) [
            | inl inside ↦ (let is = h.each (number - 1) no_permit inside in
                All-set FitsPermit m.permits (number - 1) p (record { caller = is.caller; truck = is.truck; first = is.first; last = is.last; version = is.version; seen = is.seen; mark = tt }) h.each)
            | inr past ↦ subst (All FitsPermit) (sym (set_past m.permits (number - 1) p past)) h.each
          ];
        }
    given_back_fits number _ = fits_longer n m h

    after_fits : (caller : ℕ) (c : Call) (r : Reply) → FitsIndex caller → MayAsk base m c → FitsCall c → FitsReply r → FitsMachine (n + 1) (after base m caller c r)
    after_fits caller call.Snapshot r who may asked fits = fits_longer n m h
    after_fits caller (call.Submit a p) r who may asked fits = let (a_fits, seen, w) = asked in let (truck, from, to, routes, first, last) = a_fits in issue_fits caller a p.seen r who truck (first, last) seen fits
    after_fits caller (call.Held a) r who may asked fits = let (truck, from, to, routes, first, last) = asked in issue_fits caller a (version_of m) r who truck (first, last) version_fits fits
    after_fits caller (call.Post change) r who may asked fits = post_fits change r fits
    after_fits caller (call.Day day) r who may asked fits = day_fits r fits
    after_fits caller (call.Surrender number) r who may asked fits = given_back_fits number r
    after_fits caller (call.Show number) r who may asked fits = fits_longer n m h

  -- the entries of a history, from a machine after n entries
  pub history_fits : (n : ℕ) (m : Machine) (es : List Entry) → n + length es + 2 < 2 ^ 32 → IsGood base m → FitsMachine n m → IsLegalFrom base m es
      → All (λ e. FitsIndex e.caller) es → All (λ e. IsAsked e.call) es → AllByRecursion FitsEntry es
  history_fits n m [] few good h legal callers asked = tt
  history_fits n m (e ∷ es) few good h (step, rest) callers asked =
      let room : n + 2 < 2 ^ 32 = omega arith in
      let who = All-head (λ (x : Entry). FitsIndex x.caller) e es callers in
      let this = All-head (λ (x : Entry). IsAsked x.call) e es asked in
      let c = call_fits n m room good h e.call this step.asked in
      let r = reply_fits n m room good h e.caller e.call e.reply this step.asked step.answer in (
        (who, c, r),
        history_fits (n + 1) (after_entry base m e) es (omega arith) (good_after base m e roads step good)
            (after_fits n m room good h e.caller e.call e.reply who step.asked c r) rest (All-tail (λ (x : Entry). FitsIndex x.caller) e es callers) (All-tail (λ (x : Entry). IsAsked x.call) e es asked),
      )
