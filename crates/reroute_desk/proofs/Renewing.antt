-- Applying again for a recalled permit: that it may be asked, and what may come of it.
use Rattle.std.proofs.Common.{◌≡◌, ◌∙◌, ap, sym, refl, subst, ℕ, [], ◌∷◌, ◌++◌, Bool, true, false, cond, Option, Some, arith}
use Rattle.std.specs.declared.cmp.Ordering.{Ordering}
use Rattle.std.specs.declared.cmp.Ordering.TheVariants.{Less, Equal, Greater}
use Rattle.std.specs.Ordering.{is_lt, nat_cmp}
use Rattle.std.specs.Cmp.Lexicographic.{nat_list_cmp_total, slice_cmp}
use Rattle.std.specs.List.{concat}
use Rattle.road_graph.specs.Roads.{IsRoads}
use Rattle.permit_days.specs.Days.{is_before}
use Rattle.clearance_rules.specs.Loads as loads
use Rattle.trip_analysis.specs.Bases.{AreTrains, BaseLists, truck_of}
use Rattle.trip_analysis.specs.Applications.{Sound}
use Rattle.trip_analysis.specs.Findings.{is_number_among}
use Rattle.trip_analysis.specs.declared.application.Application.{Application}
use Rattle.office_words.specs.declared.entry.Call.TheVariants as call
use Rattle.office_words.specs.declared.entry.Reply.{Reply}
use Rattle.office_words.specs.declared.entry.Reply.TheVariants as reply
use Rattle.office_core.specs.Became.{WasIssuedFor}
use Rattle.office_core.specs.Happened.{Day, History, Route, Routes, Stands, day_after, state_left_by}
use Rattle.office_core.specs.Machine.{IsLegal, machine_of}
use Rattle.office_core.specs.Offices.{entry}
use Rattle.office_core.specs.Passages.{ArePassableWalks, IsRoadWalk}
use Rattle.office_core.specs.Promises.{KeepsPromises}
use Rattle.office_core.proofs.Cases.{AnswersTrip, held_answers}
use Rattle.office_core.proofs.Histories.{last_step}
use Rattle.office_core.proofs.Promises.{keep_promises}
use Rattle.reroute_desk.specs.Desks.{AnswersRenewal}
use Rattle.reroute_desk.specs.Replacements.{first_from, renewed}

same_trip : {a b : Application} {o : Option Application} → o ≡ Some a → o ≡ Some b → a ≡ b
same_trip e f = cc

-- What is so of the trip for which a permit was issued: it can be asked for, its truck needs a permit, and there is a road.
pub record IsWanted (base : BaseLists) (trip : Application) : Type 0 where
  pub sound : Sound base trip
  pub needed : loads.IsLegalLoad (truck_of base trip.truck).load → ⊥
  pub road : (route : Route) × IsRoadWalk base trip.from trip.to route

-- routes with a segment are at least one
first_road : (base : BaseLists) (es : History) (trip : Application) (routes : Routes) (s : ℕ) → is_number_among s (concat routes) ≡ true → ArePassableWalks base (state_left_by base es) trip.truck trip.from trip.to routes → (route : Route) × IsRoadWalk base trip.from trip.to route
first_road base es trip [] s on walks = absurd cc
first_road base es trip (route ∷ routes) s on walks = (route, (walks 0 [] (omega arith)).walk)

pub wanted : (base : BaseLists) (day : Day) (es : History) (n : ℕ) (trip : Application) (routes : Routes) (s : ℕ) → KeepsPromises base day es → WasIssuedFor es n trip routes → is_number_among s (concat routes) ≡ true → IsWanted base trip
wanted base day es n trip routes s keeps (at, by, c, v, asked, stands) on =
    let permit = keeps.issued at by c n v routes stands in
    let same : permit.trip ≡ trip = same_trip permit.asked.is asked in
    subst (λ (a : Application). IsWanted base a) same (record {
      sound = permit.asked.sound;
      needed = permit.needed;
      road = first_road base at permit.trip routes s on permit.walks;
    })

contrary : {b : Bool} → b ≡ true → b ≡ false → ⊥
contrary e f = cc

-- no day is before itself
not_itself : (a : Day) → is_before a a ≡ false
not_itself a = by (slice_cmp nat_cmp a a) refl
  where
    by : (o : Ordering) → slice_cmp nat_cmp a a ≡ o → is_lt o ≡ false
    by Equal e = refl
    by Greater e = refl
    by Less e = let turned = nat_list_cmp_total.antisymm a a in absurd cc

module _ (today first : Day) where
  -- the later day of a trip's first day and today is one of them, and is not before today
  one_of : (P : Day → Type 0) → P today → (is_before first today ≡ false → P first) → P (first_from today first)
  one_of P now later = by (is_before first today) refl
    where
      by : (b : Bool) → is_before first today ≡ b → P (cond b today first)
      by true is = now
      by false is = later is

pub not_late : (today first : Day) → is_before (first_from today first) today ≡ false
not_late today first = one_of today first (λ d. is_before d today ≡ false) (not_itself today) (λ later. later)

-- the application once more can be asked
pub sound_again : (base : BaseLists) (today : Day) (trip : Application) → Sound base trip → is_before trip.last today ≡ false → Sound base (renewed today trip)
sound_again base today trip sound in_time = record {
  truck = sound.truck;
  from = sound.from;
  to = sound.to;
  apart = sound.apart;
  routes = tt;
  asked = tt;
  days = one_of today trip.first (λ d. is_before trip.last d ≡ false) in_time (λ later. sound.days);
  year = λ annual. absurd cc;
}

-- what comes where the application is renewed
module _ (base : BaseLists) (day : Day) (es : History) (caller : ℕ) (trip : Application) (w : IsWanted base trip) (roads : IsRoads base.roads) (trains : AreTrains base) where
  abbrev a : Application
  a = renewed (day_after day es) trip

  module _ (r : Reply) (legal : IsLegal base day (es ++ entry caller (call.Held a) r ∷ [])) where
    after : KeepsPromises base day (es ++ entry caller (call.Held a) r ∷ [])
    after = keep_promises base day (es ++ entry caller (call.Held a) r ∷ []) roads trains legal

    at_end : (q : Reply) → r ≡ q → Stands (es ++ entry caller (call.Held a) r ∷ []) es (entry caller (call.Held a) q)
    at_end q is = ([], ap (λ (x : Reply). es ++ entry caller (call.Held a) x ∷ []) is)

    by : (q : Reply) → r ≡ q → AnswersTrip q → AnswersRenewal q
    by (reply.Issued n v routes) is answers = tt
    by (reply.Refused v l) is answers = tt
    by reply.NoMemory is answers = tt
    by (reply.Outdated v why) is answers =
        let true_one = after.outdated es caller (call.Held a) v why (at_end (reply.Outdated v why) is) in let asked = true_one.asked in absurd cc
    by reply.NotNeeded is answers =
        let true_one = after.not_needed es caller (call.Held a) (at_end reply.NotNeeded is) in
        let same : true_one.trip ≡ a = same_trip true_one.asked.is refl in
        absurd (w.needed (subst (λ (t : Application). loads.IsLegalLoad (truck_of base t.truck).load) same true_one.legal))
    by reply.NoRoad is answers =
        let true_one = after.no_road es caller (call.Held a) (at_end reply.NoRoad is) in
        let same : true_one.trip ≡ a = same_trip true_one.asked.is refl in
        absurd (true_one.none w.road.0 (subst (λ (t : Application). IsRoadWalk base t.from t.to w.road.0) (sym same) w.road.1))
    by (reply.Late named) is answers =
        let true_one = after.late es caller (call.Held a) named (at_end (reply.Late named) is) in
        let same : true_one.trip ≡ a = same_trip true_one.asked.is refl in
        let begins : is_before true_one.trip.first named ≡ true = true_one.begins in
        let today : named ≡ day_after day es = true_one.today in
        let early : is_before (first_from (day_after day es) trip.first) (day_after day es) ≡ false = not_late (day_after day es) trip.first in
        absurd (contrary (sym (ap (λ (d : Day). is_before true_one.trip.first d) today) ∙ begins) (ap (λ (t : Application). is_before t.first (day_after day es)) same ∙ early))
    by _ is answers = absurd answers

    pub answers_renewal : AnswersRenewal r
    answers_renewal = by r refl (held_answers base (machine_of base day es) caller a r (last_step base day es (entry caller (call.Held a) r) legal).answer)
