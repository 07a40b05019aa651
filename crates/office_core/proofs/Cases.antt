-- What holds of each case of an answer to an application holds of the answer.
use Rattle.std.proofs.Common.{◌≡◌, ◌∷◌, [], List, ℕ, ◌+◌, ◌⊎◌, inl, inr, true, false, ap, sym, refl, ◌∙◌, Option, Some, None, length, not, nat_eq, subst, unwrap_or, arith}
use Rattle.std.specs.List.{concat}
use Rattle.restriction_log.specs.States.{InForce}
use Rattle.restriction_log.specs.Changes.{takes}
use Rattle.clearance_rules.specs.declared.limit.Limit.{Limit}
use Rattle.permit_days.specs.Days.{is_before}
use Rattle.permit_book.specs.declared.permit.Status.{Status}
use Rattle.permit_book.specs.Permits.{permit_of, is_issued, in_force, status_of}
use Rattle.trip_analysis.specs.declared.application.Application.{Application}
use Rattle.trip_analysis.specs.declared.failing.Failing.{Failing}
use Rattle.trip_analysis.specs.declared.finding.What.{What}
use Rattle.trip_analysis.specs.Bases.{BaseLists}
use Rattle.trip_analysis.specs.Passing.{limit_for, first_on}
use Rattle.trip_analysis.specs.Findings.{first_meeting, leaving}
use Rattle.office_words.specs.declared.entry.Call.{Call}
use Rattle.office_words.specs.declared.entry.Reply.{Reply}
use Rattle.office_core.specs.Replies.{routes_reply, fails_reply, refused_or, cut_reply, what_reply, is_late, is_free, early_reply, apply_reply, day_reply, surrender_reply, shown, show_reply, is_full}
use Rattle.office_core.specs.Machine.{Machine, version_of, state_in, reply_in, posted_reply, IsAnswer, IsHeld}
use Rattle.office_words.specs.declared.entry.Call.TheVariants as call
use Rattle.office_words.specs.declared.entry.Reply.TheVariants as reply
use Rattle.office_words.specs.declared.entry.Cause.TheVariants as cause
use Rattle.trip_analysis.specs.declared.finding.What.TheVariants as what
use Rattle.office_core.proofs.Lists.{pick}

-- what holds of the given answer and of want of memory holds of each answer
pub given : (P : Reply → Type 0) (x r : Reply) {N : Type 0} → P x → P reply.NoMemory → (r ≡ x) ⊎ ((r ≡ reply.NoMemory) × N) → P r
given P x r h none (inl e) = subst P (sym e) h
given P x r h none (inr e) = subst P (sym e.0) none

-- and so where the office finds itself what is needed, if it holds whatever is found
pub held_given : (P : Reply → Type 0) (base : BaseLists) (m : Machine) (caller : ℕ) (a : Application) (r : Reply) → ((w : What) → IsHeld base (state_in base m) m.day a w → P (reply_in base m a w)) → P reply.NoMemory → IsAnswer base m caller (call.Held a) r → P r
held_given P base m caller a r each none (inl (w, found, is)) = subst P (sym is) (each w found)
held_given P base m caller a r each none (inr e) = subst P (sym e.0) none

-- and of each answer to a surrender
pub surrender_given : (P : Reply → Type 0) (base : BaseLists) (m : Machine) (caller number : ℕ) (r : Reply) → P reply.Unknown → P reply.NotYours → ((s : Status) → P (reply.NotInForce s)) → (in_force m.day (permit_of m.permits number) ≡ true → P reply.Surrendered) → P reply.NoMemory → IsAnswer base m caller (call.Surrender number) r → P r
surrender_given P base m caller number r unknown others over back none = let p = permit_of m.permits number in
    given P (surrender_reply m.permits m.day caller number) r (pick P (not (is_issued m.permits number)) reply.Unknown _ (λ _. unknown)
    (λ _. pick P (not (nat_eq p.trip.caller caller)) reply.NotYours _ (λ _. others)
    (λ _. pick P (not (in_force m.day p)) (reply.NotInForce (status_of p m.day)) reply.Surrendered (λ _. over (status_of p m.day)) (λ e. back (grind (arith, e)))))) none

module _ (base : BaseLists) (state : InForce) (v : ℕ) (day : List ℕ) (number : ℕ) (a : Application) (w : What) where
  pub record Cases (P : Reply → Type 0) : Type 0 where
    pub not_needed : w ≡ what.NotNeeded → P reply.NotNeeded
    pub no_road : (nodes : List ℕ) → w ≡ what.Cut nodes → leaving base.roads nodes ≡ [] → P reply.NoRoad
    pub now_fails : (routes : List (List ℕ)) (f : Failing) → w ≡ what.Route routes → first_on base state a.truck (concat routes) ≡ Some f → P (reply.Outdated v (cause.NowFails f.limit))
    pub issued : (routes : List (List ℕ)) → w ≡ what.Route routes → first_on base state a.truck (concat routes) ≡ None → P (reply.Issued number v routes)
    pub refused : (s : ℕ) (l : Limit) → w ≡ what.Fails s → limit_for base state a.truck s ≡ Some l → P (reply.Refused v l)
    pub now_meets : (s : ℕ) → w ≡ what.Fails s → limit_for base state a.truck s ≡ None → P (reply.Outdated v (cause.NowMeets s))
    pub cut_refused : (nodes rest : List ℕ) (s : ℕ) (l : Limit) → w ≡ what.Cut nodes → leaving base.roads nodes ≡ s ∷ rest → first_meeting base state a.truck (leaving base.roads nodes) ≡ None → limit_for base state a.truck s ≡ Some l → P (reply.Refused v l)
    pub cut_meets : (nodes : List ℕ) (s : ℕ) → w ≡ what.Cut nodes → first_meeting base state a.truck (leaving base.roads nodes) ≡ Some s → P (reply.Outdated v (cause.NowMeets s))

  module _ (P : Reply → Type 0) (c : Cases P) where
    routes_case : (routes : List (List ℕ)) → w ≡ what.Route routes → (f : Option Failing) → first_on base state a.truck (concat routes) ≡ f → P (routes_reply number v routes f)
    routes_case routes e (Some f) h = c.now_fails routes f e h
    routes_case routes e None h = c.issued routes e h

    fails_case : (s : ℕ) → w ≡ what.Fails s → (l : Option Limit) → limit_for base state a.truck s ≡ l → P (fails_reply v s l)
    fails_case s e (Some l) h = c.refused s l e h
    fails_case s e None h = c.now_meets s e h

    -- the first that leaves is not of those that meet, where none is
    first_out : (s : ℕ) (rest : List ℕ) → first_meeting base state a.truck (s ∷ rest) ≡ None → limit_for base state a.truck s ≡ None → ⊥
    first_out s rest none meets_now = grind (arith, none, meets_now)

    refused_case : (nodes rest : List ℕ) (s : ℕ) → w ≡ what.Cut nodes → leaving base.roads nodes ≡ s ∷ rest → first_meeting base state a.truck (leaving base.roads nodes) ≡ None → (l : Option Limit) → limit_for base state a.truck s ≡ l → P (refused_or v l)
    refused_case nodes rest s e out none (Some l) h = c.cut_refused nodes rest s l e out none h
    refused_case nodes rest s e out none None h = absurd (first_out s rest (ap (first_meeting base state a.truck) (sym out) ∙ none) h)

    cut_case : (nodes : List ℕ) → w ≡ what.Cut nodes → (out : List ℕ) → leaving base.roads nodes ≡ out → (least : Option ℕ) → first_meeting base state a.truck (leaving base.roads nodes) ≡ least → P (cut_reply base state a.truck v out least)
    cut_case nodes e [] out least h = c.no_road nodes e out
    cut_case nodes e (s ∷ rest) out (Some k) h = c.cut_meets nodes k e h
    cut_case nodes e (s ∷ rest) out None h = refused_case nodes rest s e out h (limit_for base state a.truck s) refl

    what_case : (u : What) → w ≡ u → P (what_reply base state v number a.truck u)
    what_case what.NotNeeded e = c.not_needed e
    what_case (what.Route routes) e = routes_case routes e (first_on base state a.truck (concat routes)) refl
    what_case (what.Fails s) e = fails_case s e (limit_for base state a.truck s) refl
    what_case (what.Cut nodes) e = cut_case nodes e (leaving base.roads nodes) refl (first_meeting base state a.truck (leaving base.roads nodes)) refl

    found_case : P (what_reply base state v number a.truck w)
    found_case = what_case w refl

  -- the answer, where each case is known if the trip is neither late nor free
  pub apply_found : (P : Reply → Type 0) → (is_late day a ≡ true → P (reply.Late day)) → (is_free base a ≡ true → P reply.NotNeeded) → (is_late day a ≡ false → is_free base a ≡ false → Cases P) → P (apply_reply base state v day number a w)
  apply_found P late free c =
      let Holds : Option Reply → Type 0 = λ o. P (unwrap_or o (what_reply base state v number a.truck w)) in
      pick Holds (is_late day a) (Some (reply.Late day)) _ late
      (λ early. pick Holds (is_free base a) (Some reply.NotNeeded) None free (λ needed. found_case P (c early needed)))

  pub apply_cases : (P : Reply → Type 0) → P (reply.Late day) → P reply.NotNeeded → Cases P → P (apply_reply base state v day number a w)
  apply_cases P late free c = apply_found P (λ _. late) (λ _. free) (λ _ _. c)

-- no answer is known early where the trip is neither late nor free
pub none_early : (base : BaseLists) (day : List ℕ) (a : Application) → is_late day a ≡ false → is_free base a ≡ false → early_reply base day a ≡ None
none_early base day a early needed = rw (early, needed) refl

abbrev NotFull : Reply → Type 0
NotFull r = is_full r ≡ false

-- what may come of an application
abbrev pub AnswersTrip : Reply → Type 0
AnswersTrip (reply.Issued n v routes) = Unit {0}
AnswersTrip (reply.Refused v l) = Unit {0}
AnswersTrip (reply.Outdated v why) = Unit {0}
AnswersTrip reply.NotNeeded = Unit {0}
AnswersTrip reply.NoRoad = Unit {0}
AnswersTrip (reply.Late day) = Unit {0}
AnswersTrip reply.NoMemory = Unit {0}
AnswersTrip _ = ⊥

trip_answered : (base : BaseLists) (m : Machine) (a : Application) (w : What) → AnswersTrip (reply_in base m a w)
trip_answered base m a w = apply_cases base (state_in base m) (version_of m) m.day (length m.permits + 1) a w AnswersTrip tt tt (record {
  not_needed = λ _. tt;
  no_road = λ _ _ _. tt;
  now_fails = λ _ _ _ _. tt;
  issued = λ _ _ _. tt;
  refused = λ _ _ _ _. tt;
  now_meets = λ _ _ _. tt;
  cut_refused = λ _ _ _ _ _ _ _ _. tt;
  cut_meets = λ _ _ _ _. tt;
})

pub held_answers : (base : BaseLists) (m : Machine) (caller : ℕ) (a : Application) (r : Reply) → IsAnswer base m caller (call.Held a) r → AnswersTrip r
held_answers base m caller a r = held_given AnswersTrip base m caller a r (λ w _. trip_answered base m a w) tt

trip_open : (r : Reply) → AnswersTrip r → NotFull r
trip_open (reply.Full most) answers = absurd answers
trip_open _ answers = refl

-- an answer of the machine is never `Full`
pub never_full : (base : BaseLists) (m : Machine) (caller : ℕ) (c : Call) (r : Reply) → IsAnswer base m caller c r → is_full r ≡ false
never_full base m caller call.Snapshot r answer = given NotFull (reply.SnapshotAt (version_of m)) r refl refl answer
never_full base m caller (call.Submit a p) r answer = given NotFull (reply_in base m a p.what) r (trip_open (reply_in base m a p.what) (trip_answered base m a p.what)) refl answer
never_full base m caller (call.Held a) r answer = trip_open r (held_answers base m caller a r answer)
never_full base m caller (call.Post change) r answer = given NotFull (posted_reply base m change) r (pick NotFull (takes base.roads change) (reply.Posted _ _) reply.OutOfRange (λ _. refl) (λ _. refl)) refl answer
never_full base m caller (call.Day day) r answer = given NotFull (day_reply m.day day) r (pick NotFull (is_before day m.day) (reply.DayBack m.day) (reply.DayIs day) (λ _. refl) (λ _. refl)) refl answer
never_full base m caller (call.Surrender number) r answer = surrender_given NotFull base m caller number r refl refl (λ _. refl) (λ _. refl) refl answer
never_full base m caller (call.Show number) r answer = given NotFull (show_reply m.permits m.day number) r (pick NotFull (not (is_issued m.permits number)) reply.Unknown (shown (permit_of m.permits number) number m.day) (λ _. refl) (λ _. refl)) refl answer
