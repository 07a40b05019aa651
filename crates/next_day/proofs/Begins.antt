-- The next day begins with the permits that stood: each is issued anew at once.
use Rattle.std.proofs.Common.{◌≡◌, ◌≢◌, ◌<◌, ◌+◌, ◌∷◌, ◌++◌, [], ℕ, Bool, List, None, get_or, true, length, map, refl, ap, sym, subst, ◌∙◌, if◌then◌else◌, arith, inl}
use Rattle.std.specs.Prelude.{All, Some, unwrap_or}
use Rattle.std.specs.List.{AllByRecursion as ByRecursion}
use Rattle.std.proofs.lemmas.Bool.{false≢true}
use Rattle.std.proofs.lemmas.List.{length-append}
use Rattle.std.proofs.lemmas.List.Elements.{All-cons, All-nil, All-weaker, recursion_from_All}
use Rattle.permit_days.specs.Days.{is_day_text}
use Rattle.permit_book.specs.declared.permit.Permit.{Permit}
use Rattle.permit_book.specs.Permits.{new_permit}
use Rattle.road_graph.specs.Roads.{IsRoads}
use Rattle.restriction_log.specs.States.{AreOf, InForce}
use Rattle.trip_analysis.specs.Bases.{AreTrains, BaseLists}
use Rattle.trip_analysis.specs.Applications.{Sound}
use Rattle.trip_analysis.specs.Findings.{asked_finding, is_number_among}
use Rattle.trip_analysis.specs.declared.finding.What.TheVariants as what
use Rattle.day_text.specs.Days.{DayParts}
use Rattle.office_words.specs.declared.entry.Entry.{Entry}
use Rattle.office_words.specs.declared.entry.Reply.TheVariants as reply
use Rattle.office_core.specs.Happened.{Day, History}
use Rattle.office_core.specs.Machine.{IsLegal, IsLegalFrom, Machine, machine_at, machine_of, opened, reply_in, state_in, trip_for}
use Rattle.office_core.specs.Replies.{routes_reply}
use Rattle.office_core.proofs.Promises.{keep_promises}
use Rattle.analyst_pool.specs.Unfolds.{IsFinished, answered, concluded, looked_at, submitted}
use Rattle.day_trial.specs.Serial.{CarriesOut, IsSerial, SerialHistoriesAreOne}
use Rattle.day_writer.specs.Sheets.{base_in_force}
use Rattle.next_day.specs.Beginning.{beginning, issued_anew, issued_at_once}
use Rattle.next_day.specs.Laws.{BeginsWithWhatStood, beginning_behind, standing_behind}
use Rattle.next_day.specs.NextDay.{application_on, next_day, next_from, order_for, trucks_kept}
use Rattle.next_day.specs.Standing.{Standing}
use Rattle.next_day.proofs.Again.{CanGoOn, IsCarried, meets_again, not_free, on_time, sound_again}
use Rattle.next_day.proofs.Facts.{IsSoundStanding, each_goes_on, each_sound, state_of_roads}
use Rattle.next_day.proofs.Trucks.{each_kept}

-- each of the entries finds memory
abbrev FindsMemory : Entry → Type 0
FindsMemory e = e.reply ≢ reply.NoMemory

-- the commands are carried out by these entries
finished_at_once : (caller n : ℕ) (kept : List ℕ) (today : Day) (p : Standing) → IsFinished caller (order_for kept today p).command (issued_at_once caller (application_on kept today p) n p.routes)
finished_at_once caller n kept today p = record {
  last = reply.Issued n 0 p.routes;
  unfolds = record {
    tries = 0;
    front = [];
    last = issued_at_once caller (application_on kept today p) n p.routes;
    outdated = refl;
    ends = concluded (omega arith) (answered (0, what.Route p.routes, refl) refl refl);
    whole = refl;
  };
  room = refl;
  memory = λ e. cc;
}

carried_out : (kept : List ℕ) (today : Day) (last : ℕ) (standing : List Standing) → CarriesOut (map (order_for kept today) standing) (issued_anew kept today last standing)
carried_out kept today last [] = refl
carried_out kept today last (p ∷ standing) = record {
  front = issued_at_once p.holder (application_on kept today p) (last + 1) p.routes;
  back = issued_anew kept today (last + 1) standing;
  finished = finished_at_once p.holder (last + 1) kept today p;
  behind = carried_out kept today (last + 1) standing;
  whole = refl;
}

find_memory : (kept : List ℕ) (today : Day) (last : ℕ) (standing : List Standing) → All FindsMemory (issued_anew kept today last standing)
find_memory kept today last [] = All-nil FindsMemory
find_memory kept today last (p ∷ standing) =
    let look = looked_at p.holder 0 in
    let submit = submitted p.holder (application_on kept today p) 0 (what.Route p.routes) (reply.Issued (last + 1) 0 p.routes) in
    let rest = issued_anew kept today (last + 1) standing in
    All-cons FindsMemory look (submit ∷ rest) (λ e. cc) (All-cons FindsMemory submit rest (λ e. cc) (find_memory kept today (last + 1) standing))

-- a permit that can go on, with its truck, and from a day on
pub record GoesOn (base : BaseLists) (state : InForce) (kept : List ℕ) (today : Day) (p : Standing) : Type 0 where
  pub can : CanGoOn base state today p
  pub carried : IsCarried kept p

module _ (base : BaseLists) (state : InForce) (kept : List ℕ) (today : Day) (of_roads : AreOf base.roads state) (today_is : is_day_text today ≡ true) where
  abbrev next : BaseLists
  next = base_in_force base state kept

  -- an office with these permits and no posting
  abbrev at : List Permit → Machine
  at permits = machine_at [] permits today

  -- issues it at once
  told : (permits : List Permit) (p : Standing) → GoesOn base state kept today p
      → reply_in next (at permits) (application_on kept today p) (what.Route p.routes) ≡ reply.Issued (length permits + 1) 0 p.routes
  told permits p h =
      let late = on_time base state kept today p h.carried.truck in
      let free = not_free base state kept today p h.carried.truck h.can in
      let meets = meets_again base state kept today p h.carried.truck of_roads h.can in
      λ i. unwrap_or (if late i then Some (reply.Late today) else (if free i then Some reply.NotNeeded else None)) (routes_reply (length permits + 1) 0 p.routes (meets i))

  issued_legal : (permits : List Permit) (standing : List Standing) → ByRecursion (GoesOn base state kept today) standing
      → IsLegalFrom next (at permits) (issued_anew kept today (length permits) standing)
  issued_legal permits [] all = tt
  issued_legal permits (p ∷ standing) all =
      let h = all.0 in
      let a = application_on kept today p in
      let meets = meets_again base state kept today p h.carried.truck of_roads h.can in
      let permit : Permit = new_permit (length permits + 1) (trip_for p.holder a p.routes) 0 0 in
      let more : length (permits ++ permit ∷ []) ≡ length permits + 1 = length-append permits (permit ∷ []) in (
        record { asked = tt; answer = inl refl; next_is = refl },
        (
          record {
            asked = record {
              sound = sound_again base state kept today p h.carried.truck h.can today_is h.carried.first;
              seen = omega arith;
              found = record {
                legal = λ free. absurd (false≢true (sym (not_free base state kept today p h.carried.truck h.can) ∙ free));
                found = λ needs. sym (ap (λ o. asked_finding o p.routes) meets);
              };
            };
            answer = inl (sym (told permits p h));
            next_is = refl;
          },
          subst (λ n. IsLegalFrom next (at (permits ++ permit ∷ [])) (issued_anew kept today n standing)) more (issued_legal (permits ++ permit ∷ []) standing all.1),
        ),
      )

  -- the history with which the next day begins is one of its office
  pub beginning_legal : (standing : List Standing) → All (GoesOn base state kept today) standing → IsLegalFrom next (opened today) (beginning kept today standing)
  beginning_legal standing all = issued_legal [] standing (recursion_from_All (GoesOn base state kept today) standing all)

-- so the next day begins with it
pub begins_with : (file : DayParts) (m : Machine) (kept : List ℕ) (standing : List Standing) → AreOf file.base.roads (state_in file.base m) → is_day_text m.day ≡ true
    → All (GoesOn file.base (state_in file.base m) kept m.day) standing → IsRoads (next_from file m kept standing).base.roads → AreTrains (next_from file m kept standing).base
    → IsSerial (next_from file m kept standing) (beginning kept m.day standing)
begins_with file m kept standing of_roads today_is all roads trains =
    let legal = beginning_legal file.base (state_in file.base m) kept m.day of_roads today_is standing all in
    record {
      legal = legal;
      promises = keep_promises (next_from file m kept standing).base m.day (beginning kept m.day standing) roads trains legal;
      commands = carried_out kept m.day 0 standing;
      memory = find_memory kept m.day 0 standing;
    }

module _ (only : Bool) (file : DayParts) (es : History) (roads : IsRoads file.base.roads) (trains : AreTrains file.base) (legal : IsLegal file.base file.day es) where
  abbrev left : Machine
  left = machine_of file.base file.day es

  abbrev kept : List ℕ
  kept = trucks_kept only (length file.base.fleet) (standing_behind file es)

  -- the truck of each permit that stands goes on
  pub trucks_go_on : All (λ p. is_number_among p.trip.truck kept ≡ true) (standing_behind file es)
  trucks_go_on = each_kept only (length file.base.fleet) (standing_behind file es)
      (All-weaker (IsSoundStanding file.base file.day es) (λ (p : Standing). p.trip.truck < length file.base.fleet) (λ p h. h.sound.truck)
      (standing_behind file es) (each_sound file.base file.day es roads trains legal))

  module _ (today_is : is_day_text left.day ≡ true) (firsts : All (λ p. is_day_text p.trip.first ≡ true) (standing_behind file es)) where
    -- each permit that stands goes on
    pub all_go_on : All (GoesOn file.base (state_in file.base left) kept left.day) (standing_behind file es)
    all_go_on = λ k d within. record {
      can = each_goes_on file.base file.day es roads trains legal k d within;
      carried = record { truck = trucks_go_on k d within; first = firsts k d within };
    }

    -- an application for each of them is sound on the next day
    pub applications_sound : All (λ p. Sound (next_day only file es).base (application_on kept left.day p)) (standing_behind file es)
    applications_sound = λ k d within.
        let p = get_or (standing_behind file es) k d in
        let h : GoesOn file.base (state_in file.base left) kept left.day p = all_go_on k d within in
        sound_again file.base (state_in file.base left) kept left.day p h.carried.truck h.can today_is h.carried.first

    -- the next day begins with them, and with nothing else
    pub begins : SerialHistoriesAreOne → IsRoads (next_day only file es).base.roads → AreTrains (next_day only file es).base → BeginsWithWhatStood only file es
    begins one next_roads next_trains =
        let serial = begins_with file left kept (standing_behind file es) (state_of_roads file.base file.day es roads trains legal) today_is all_go_on next_roads next_trains in
        record { begins = serial; alone = λ other h. one (next_day only file es) (beginning_behind only file es) other next_roads serial h }
