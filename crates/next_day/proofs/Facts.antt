-- What each permit that stands behind a history keeps.
use Rattle.std.proofs.Common.{◌≡◌, ◌≤◌, ◌+◌, ◌∷◌, ◌++◌, [], ℕ, List, Option, Some, None, Bool, true, false, length, refl, ap, sym, subst, ◌∙◌, if◌then◌else◌, append_assoc, arith, inl, inr}
use Rattle.std.specs.Prelude.{All, nat_le}
use Rattle.std.specs.List.{concat, cons_option}
use Rattle.std.proofs.lemmas.Bool.{cases_Bool, leb-true}
use Rattle.std.proofs.lemmas.List.{append-nil}
use Rattle.std.proofs.lemmas.List.Elements.{All-cons, All-head, All-nil, All-tail, All-weaker}
use Rattle.std.proofs.lemmas.Option.{same_Some}
use Rattle.axle_train.specs.Bounds.{IsTrain}
use Rattle.permit_days.specs.Days.{days_between, is_before}
use Rattle.permit_book.specs.declared.permit.Permit.{Permit}
use Rattle.permit_book.specs.declared.trip.Trip.{Trip}
use Rattle.road_graph.specs.Roads.{IsRoads}
use Rattle.restriction_log.specs.States.{AreOf, InForce}
use Rattle.restriction_log.proofs.Standing.{state_is_of}
use Rattle.clearance_rules.specs.Loads.{IsLegalLoad}
use Rattle.clearance_rules.proofs.Legal.{legal_means}
use Rattle.clearance_rules.proofs.Meeting.{meets_none}
use Rattle.route_search.specs.Walks.{IsWalk, every}
use Rattle.trip_routes.specs.Routes.{AreRoutes}
use Rattle.trip_analysis.specs.Applications.{Sound, is_annual}
use Rattle.trip_analysis.specs.Bases.{AreTrains, BaseLists, no_truck, truck_of}
use Rattle.trip_analysis.specs.Passing.{first_on, first_or, needs_none}
use Rattle.trip_analysis.specs.declared.application.Application.{Application}
use Rattle.office_words.specs.declared.entry.Call.{Call}
use Rattle.office_words.specs.declared.entry.Entry.{Entry}
use Rattle.office_words.specs.declared.entry.Reply.{Reply}
use Rattle.office_words.specs.declared.entry.Reply.TheVariants as reply
use Rattle.office_core.specs.Became.{IsInForce}
use Rattle.office_core.specs.Clearances.{MeetsTruck}
use Rattle.office_core.specs.Happened.{Day, History, Routes, Stands, WasIssued, application_in, day_after, issued_in, state_left_by, state_seen}
use Rattle.office_core.specs.Holdings.{HoldsWhatItSays, permit_after}
use Rattle.office_core.specs.Machine.{IsLegal, Machine, machine_of, state_in, trip_for}
use Rattle.office_core.specs.Offices.{entry}
use Rattle.office_core.specs.Passages.{ArePassableWalks, IsPassableWalk}
use Rattle.office_core.specs.Promises.{KeepsPromises}
use Rattle.office_core.specs.Truths.{TruePermit, WasFound}
use Rattle.office_core.proofs.Counts.{issued-append, issued-cons}
use Rattle.office_core.proofs.Goods.{good_of}
use Rattle.office_core.proofs.Promises.{hold_what_they_say, keep_promises}
use Rattle.next_day.specs.Standing.{Standing, is_standing, standing_in, standing_of}
use Rattle.next_day.proofs.Again.{CanGoOn}

-- What a permit keeps that stands behind a history: the entry that issued it, for its trip and at a version; that its application
-- was sound and its routes are one to eight passable walks of it, as they were found; that its truck is not legal; that it is in
-- force in words of the entries, so that its last day is not before the day; and that its routes meet its truck now.
pub record IsSoundStanding (base : BaseLists) (day : Day) (es : History) (p : Standing) : Type 0 where
  pub front : History
  pub call : Call
  pub version : ℕ
  pub stands : Stands es front (entry p.holder call (reply.Issued p.number version p.routes))
  pub asked : application_in call ≡ Some p.trip
  pub permit : TruePermit base day front call p.number version p.routes
  pub sound : Sound base p.trip
  pub few : AreRoutes p.routes
  pub walks : ArePassableWalks base (state_left_by base front) p.trip.truck p.trip.from p.trip.to p.routes
  pub found : WasFound base (state_seen base front call) p.trip p.routes p.trip.asked
  pub needed : IsLegalLoad (truck_of base p.trip.truck).load → ⊥
  pub in_force : IsInForce day es p.number
  pub not_expired : is_before p.trip.last (day_after day es) ≡ false
  pub meets : All (MeetsTruck base (state_left_by base es) p.trip.truck) (concat p.routes)

-- an entry that issued a permit which stands
pub record IsIssueOf (m : Machine) (caller : ℕ) (o : Option Application) (r : Reply) (p : Standing) : Type 0 where
  pub holder : caller ≡ p.holder
  pub trip : o ≡ Some p.trip
  pub version : ℕ
  pub told : r ≡ reply.Issued p.number version p.routes
  pub stands : is_standing m p.number ≡ true

pub issue_is : (m : Machine) (caller : ℕ) (o : Option Application) (r : Reply) (p : Standing) → standing_of m caller o r ≡ Some p → IsIssueOf m caller o r p
issue_is m caller (Some trip) (reply.Issued n v routes) p e = by (is_standing m n) refl e
  where
    by : (b : Bool) → is_standing m n ≡ b → (if b then Some (record { number = n; holder = caller; trip = trip; routes = routes }) else None) ≡ Some p → IsIssueOf m caller (Some trip) (reply.Issued n v routes) p
    by false off is = cc
    by true on is = let q : Standing = record { number = n; holder = caller; trip = trip; routes = routes } in let same : q ≡ p = same_Some q p is in record {
      holder = ap (λ (x : Standing). x.holder) same;
      trip = ap (λ (x : Standing). Some x.trip) same;
      version = v;
      told = ap (λ (x : Standing). reply.Issued x.number v x.routes) same;
      stands = sym (ap (λ (x : Standing). is_standing m x.number) same) ∙ on;
    }
issue_is m caller (Some trip) _ p e = cc
issue_is m caller None r p e = cc

-- what holds of each permit that an entry of a history issued and that stands holds of all that stand
pub each_issued : (P : Standing → Type 0) (m : Machine) (es front rest : History) → es ≡ front ++ rest
    → ((at : History) (e : Entry) (p : Standing) → Stands es at e → standing_of m e.caller (application_in e.call) e.reply ≡ Some p → P p) → All P (standing_in m rest)
each_issued P m es front [] is f = All-nil P
each_issued P m es front (e ∷ rest) is f =
    by (standing_of m e.caller (application_in e.call) e.reply) refl (each_issued P m es (front ++ e ∷ []) rest (is ∙ sym (append_assoc front (e ∷ []) rest)) f)
  where
    by : (o : Option Standing) → standing_of m e.caller (application_in e.call) e.reply ≡ o → All P (standing_in m rest) → All P (cons_option o (standing_in m rest))
    by None none others = others
    by (Some p) one others = All-cons P p (standing_in m rest) (f front e p (rest, is) one) others

-- no segment fails a truck where each meets it
none_on : (base : BaseLists) (state : InForce) (truck : ℕ) → IsRoads base.roads → IsTrain (truck_of base truck).load.train
    → (segments : List ℕ) → All (MeetsTruck base state truck) segments → first_on base state truck segments ≡ None
none_on base state truck roads train [] all = refl
none_on base state truck roads train (s ∷ segments) all =
    ap (λ l. first_or l s (first_on base state truck segments)) (meets_none base.roads state (truck_of base truck).load s roads train (All-head (MeetsTruck base state truck) s segments all))
    ∙ none_on base state truck roads train segments (All-tail (MeetsTruck base state truck) s segments all)

-- a permit with two routes or more was asked for with them, so its days are within a year
within_year : (base : BaseLists) (state : InForce) (a : Application) (routes : Routes) (asked : Option Routes) (days : ℕ)
    → WasFound base state a routes asked → (is_annual asked ≡ true → days ≤ 365) → nat_le 2 (length routes) ≡ true → days ≤ 365
within_year base state a routes None days found year many = absurd (omega (arith, leb-true 2 (length routes) many, ap length found.alone))
within_year base state a routes (Some asked) days found year many = year (ap (λ (l : Routes). nat_le 2 (length l)) (sym found.0) ∙ many)

module _ (base : BaseLists) (day : Day) (es : History) (roads : IsRoads base.roads) (trains : AreTrains base) (legal : IsLegal base day es) where
  keeps : KeepsPromises base day es
  keeps = keep_promises base day es roads trains legal

  holds : HoldsWhatItSays base day es
  holds = hold_what_they_say base day es roads trains legal

  -- what is in force is of the roads
  pub state_of_roads : AreOf base.roads (state_in base (machine_of base day es))
  state_of_roads = state_is_of base.roads (machine_of base day es).postings roads (good_of base day es roads legal).taken

  -- a permit that an entry issued has its number
  pub was_issued : (at : History) (by n v : ℕ) (c : Call) (routes : Routes) → Stands es at (entry by c (reply.Issued n v routes)) → WasIssued es n
  was_issued at by n v c routes stands =
      let e = entry by c (reply.Issued n v routes) in
      let number = (keeps.issued at by c n v routes stands).number in
      let many : issued_in es ≡ issued_in at + issued_in (e ∷ stands.0) = ap issued_in stands.1 ∙ issued-append at (e ∷ stands.0) in
      (omega (arith, number), omega (arith, number, many, issued-cons e stands.0))

  -- what an office holds of a permit is what its entry says
  held_trip : (at : History) (by n v : ℕ) (c : Call) (routes : Routes) (a : Application) → Stands es at (entry by c (reply.Issued n v routes)) → application_in c ≡ Some a
      → (permit_after base day es n).trip ≡ trip_for by a routes
  held_trip at by n v c routes a stands asked =
      let held = holds.held at by c n v routes stands in
      ap (λ (x : Permit). x.trip) held.same ∙ ap (λ (b : Application). trip_for by b routes) (same_Some held.trip a (sym held.asked ∙ asked))

  pub sound_of : (at : History) (c : Call) (v : ℕ) (p : Standing) → Stands es at (entry p.holder c (reply.Issued p.number v p.routes)) → application_in c ≡ Some p.trip
      → is_standing (machine_of base day es) p.number ≡ true → IsSoundStanding base day es p
  sound_of at c v p stands asked on =
      let permit = keeps.issued at p.holder c p.number v p.routes stands in
      let trip_is : permit.trip ≡ p.trip = same_Some permit.trip p.trip (sym permit.asked.is ∙ asked) in
      let f = (holds.in_force p.number (was_issued at p.holder p.number v c p.routes stands)).0 on in
      let (place, by, call, version, of_trip, there) = f.issued in
      let same : trip_for by f.trip f.routes ≡ trip_for p.holder p.trip p.routes =
      sym (held_trip place by p.number version call f.routes f.trip there of_trip) ∙ held_trip at p.holder p.number v c p.routes p.trip stands asked in
      record {
        front = at;
        call = c;
        version = v;
        stands = stands;
        asked = asked;
        permit = permit;
        sound = subst (Sound base) trip_is permit.asked.sound;
        few = permit.few;
        walks = subst (λ (a : Application). ArePassableWalks base (state_left_by base at) a.truck a.from a.to p.routes) trip_is permit.walks;
        found = subst (λ (a : Application). WasFound base (state_seen base at c) a p.routes a.asked) trip_is permit.found;
        needed = subst (λ (a : Application). IsLegalLoad (truck_of base a.truck).load → ⊥) trip_is permit.needed;
        in_force = f;
        not_expired = ap (λ (t : Trip). is_before t.last (day_after day es)) (sym same) ∙ f.not_expired;
        meets = subst (λ (t : Trip). All (MeetsTruck base (state_left_by base es) t.truck) (concat t.routes)) same (keeps.in_force es [] p.number (sym (append-nil es)) f);
      }

  -- each permit that stands is such a one
  pub each_sound : All (IsSoundStanding base day es) (standing_in (machine_of base day es) es)
  each_sound = each_issued (IsSoundStanding base day es) (machine_of base day es) es [] es refl
      (λ at e p stands is. let h = issue_is (machine_of base day es) e.caller (application_in e.call) e.reply p is in
      sound_of at e.call h.version p (subst (Stands es at) (λ i. entry (h.holder i) e.call (h.told i)) stands) h.trip h.stands)

  -- and can go on
  pub goes_on : (p : Standing) → IsSoundStanding base day es p → CanGoOn base (state_in base (machine_of base day es)) (machine_of base day es).day p
  goes_on p h = record {
    sound = h.sound;
    few = h.few;
    walks = All-weaker (IsPassableWalk base (state_left_by base h.front) p.trip.truck p.trip.from p.trip.to) (IsWalk base.roads.segments every p.trip.from p.trip.to)
        (λ path walk. walk.walk) p.routes h.walks;
    year = within_year base (state_seen base h.front h.call) p.trip p.routes p.trip.asked (days_between p.trip.first p.trip.last) h.found h.sound.year;
    needed = elim (cases_Bool (needs_none base p.trip.truck)) [
      | inl free ↦ absurd (h.needed ((legal_means (truck_of base p.trip.truck).load (needs_none base p.trip.truck) refl).0 free))
      | inr needs ↦ needs
    ];
    not_expired = ap (is_before p.trip.last) holds.today ∙ h.not_expired;
    meets = ap (λ (s : InForce). first_on base s p.trip.truck (concat p.routes)) holds.state
        ∙ none_on base (state_left_by base es) p.trip.truck roads (trains p.trip.truck no_truck h.sound.truck) (concat p.routes) h.meets;
  }

  pub each_goes_on : All (CanGoOn base (state_in base (machine_of base day es)) (machine_of base day es).day) (standing_in (machine_of base day es) es)
  each_goes_on = All-weaker (IsSoundStanding base day es) (CanGoOn base (state_in base (machine_of base day es)) (machine_of base day es).day) goes_on
      (standing_in (machine_of base day es) es) each_sound
