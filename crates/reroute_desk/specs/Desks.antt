-- A desk that applies again for recalled permits, beside the office that it calls.
use Rattle.std.specs.Prelude.{◌≡◌, ◌≢◌, ◌<◌, ◌++◌, ◌∷◌, [], ◌==◌, ◌&&◌, not, ℕ, Bool, true, false, List, map, filter, All, Option, Some, None, Result, Err, is_some}
use Rattle.permit_days.specs.Days.{is_before}
use Rattle.trip_analysis.specs.declared.application.Application.{Application}
use Rattle.office_words.specs.declared.entry.Call.TheVariants as call
use Rattle.office_words.specs.declared.entry.Entry.{Entry}
use Rattle.office_words.specs.declared.entry.Reply.{Reply}
use Rattle.office_words.specs.declared.entry.Reply.TheVariants as reply
use Rattle.office_core.specs.Became.{WasIssuedFor}
use Rattle.office_core.specs.Happened.{Day, History, Numbers, Routes, day_after}
use Rattle.office_core.specs.Offices.{IsFull, Opened}
use Rattle.reroute_desk.specs.Issues.{recalled_in}
use Rattle.reroute_desk.specs.declared.handled.Handled.{Handled}
use Rattle.reroute_desk.specs.declared.handled.HandledAs.{HandledAs}
use Rattle.reroute_desk.specs.declared.handled.HandledAs.TheVariants.{Ended, Refused, Replaced}
use Rattle.reroute_desk.specs.declared.refusal.RerouteRefusal.{RerouteRefusal}
use Rattle.reroute_desk.specs.declared.refusal.RerouteRefusal.TheVariants.{Full, NoMemory}
use Rattle.reroute_desk.specs.declared.rerouter.Rerouter.TheInside.{Inside}
use Rattle.reroute_desk.specs.Notes.{AreNotes, Noted, no_notes}
use Rattle.reroute_desk.specs.Replacements.{again_behind}

-- whose calls it makes, what it has handled, and what it has noted of the history
pub record Desk : Type 0 where
  pub caller : ℕ
  pub handled : List Handled
  pub notes : Noted

abbrev pub desk_of : Inside → Desk
desk_of d = record { caller = d.caller; handled = d.handled.items; notes = d.notes }

-- a desk that has handled nothing
abbrev pub new_desk : ℕ → Desk
new_desk caller = record { caller = caller; handled = []; notes = no_notes }

-- the numbers of the permits that were handled, in order
abbrev pub olds_of : List Handled → Numbers
olds_of items = map (λ h. h.old) items

-- an entry of a history, with all that stand before it
pub record Placed : Type 0 where
  pub front : History
  pub entry : Entry

-- the entries of a history that goes on behind these
abbrev pub placed_behind : History → History → List Placed
placed_behind front [] = []
placed_behind front (e ∷ es) = record { front = front; entry = e } ∷ placed_behind (front ++ e ∷ []) es

-- whether the answer was that memory was wanting
abbrev pub is_lack : Reply → Bool
is_lack reply.NoMemory = true
is_lack _ = false

-- whether an entry is one of this caller for which memory sufficed
abbrev pub is_answered : ℕ → Entry → Bool
is_answered caller e = (e.caller == caller) && not (is_lack e.reply)

-- the entries of a caller for which memory sufficed, in order
abbrev pub answered_by : ℕ → History → List Placed
answered_by caller es = filter (λ p. is_answered caller p.entry) (placed_behind [] es)

-- the reply that is kept of what was done about a permit
abbrev pub kept_reply : HandledAs → Option Reply
kept_reply Ended = None
kept_reply (Replaced number version routes) = Some (reply.Issued number version routes)
kept_reply (Refused version limit) = Some (reply.Refused version limit)

-- the permits that were applied for again, in order
abbrev pub renewals : List Handled → List Handled
renewals items = filter (λ h. is_some (kept_reply h.what)) items

-- By its entry the desk asked the office to find itself what the permit needs once more, on the day at that place; and the
-- answer is what is kept of it.
pub record AsksAgain (opening : Day) (caller : ℕ) (h : Handled) (p : Placed) : Type 0 where
  pub trip : Application
  pub is_again : again_behind opening p.front h.old ≡ Some trip
  pub by : p.entry.caller ≡ caller
  pub asked : p.entry.call ≡ call.Held trip
  pub answer : kept_reply h.what ≡ Some p.entry.reply

-- one entry for each permit, in order
abbrev pub AskAgain : Day → ℕ → List Handled → List Placed → Type 0
AskAgain opening caller [] [] = Unit {0}
AskAgain opening caller [] (p ∷ ps) = ⊥
AskAgain opening caller (h ∷ hs) [] = ⊥
AskAgain opening caller (h ∷ hs) (p ∷ ps) = AsksAgain opening caller h p × AskAgain opening caller hs ps

-- these permits are the first that were recalled, and these numbers are left
abbrev pub AreFirst : List Handled → History → Numbers → Type 0
AreFirst items es left = recalled_in es ≡ olds_of items ++ left

-- the day that it is at the office
abbrev pub office_day : Opened → Day
office_day o = day_after o.opening o.history

-- What a desk and the office have in common whenever it is asked to catch up.
pub record KeepsUp (desk : Desk) (o : Opened) : Type 0 where
  -- its caller has a number that a caller may have
  pub caller : desk.caller < 65536
  -- what it has handled is a front of what was recalled
  pub first : (left : Numbers) × AreFirst desk.handled o.history left
  -- its entries for which memory sufficed are one for each permit that it applied for again, in order
  pub asked : AskAgain o.opening desk.caller (renewals desk.handled) (answered_by desk.caller o.history)
  -- it has noted of the history what is so
  pub noted : AreNotes desk.notes o.history

-- whether nothing was done about a permit, since its last day was before the day
abbrev pub is_ended : HandledAs → Bool
is_ended Ended = true
is_ended _ = false

-- the permit was issued for a trip, and nothing was done about it exactly where the last day of the trip is before today
pub record IsTimely (es : History) (today : Day) (h : Handled) : Type 0 where
  pub trip : Application
  pub routes : Routes
  pub issued : WasIssuedFor es h.old trip routes
  pub ended : is_ended h.what ≡ is_before trip.last today

-- whether a refusal says that memory was wanting
abbrev pub is_wanting : Result (Unit {0}) RerouteRefusal → Bool
is_wanting (Err NoMemory) = true
is_wanting _ = false

-- What a desk does while it catches up. The history grows by entries of its caller alone, which recall nothing and set no day.
-- One of them is answered that memory was wanting only where the desk says so. What was handled before stays, and items come
-- behind it. Of these a permit has ended exactly where its last day is before the day of the office.
pub record HasGoneOn (desk : Desk) (o : Opened) (r : Result (Unit {0}) RerouteRefusal) (next : Desk) (now : Opened) : Type 0 where
  pub own : List Entry
  pub grown : now ≡ record o { history = o.history ++ own }
  pub by_caller : All (λ e. e.caller ≡ desk.caller) own
  pub recalls_none : recalled_in now.history ≡ recalled_in o.history
  pub sets_no_day : office_day now ≡ office_day o
  pub memory : is_wanting r ≡ false → All (λ e. e.reply ≢ reply.NoMemory) own
  pub caller : next.caller ≡ desk.caller
  pub items : List Handled
  pub handled : next.handled ≡ desk.handled ++ items
  pub timely : All (IsTimely now.history (office_day o)) items
  pub kept : KeepsUp next now

-- there is exactly one item for each recall of the history, in order
abbrev pub HasHandledAll : Desk → Opened → Type 0
HasHandledAll desk o = olds_of desk.handled ≡ recalled_in o.history

-- this permit is the first that is left
abbrev pub IsNext : Desk → Opened → ℕ → Type 0
IsNext desk o old = (rest : Numbers) × AreFirst desk.handled o.history (old ∷ rest)

-- this permit is the first that is left, and its last day is not before the day
pub record IsFirstLeft (desk : Desk) (o : Opened) (old : ℕ) : Type 0 where
  pub next : IsNext desk o old
  pub trip : Application
  pub routes : Routes
  pub issued : WasIssuedFor o.history old trip routes
  pub in_time : is_before trip.last (office_day o) ≡ false

-- The cause of a refusal: the history holds the most entries that it may, and a permit is left that has not expired. Want of
-- memory may come wherever memory is taken.
abbrev pub IsRerouteCause : Desk → Opened → RerouteRefusal → Type 0
IsRerouteCause desk o (Full entries) = (entries ≡ o.most) × IsFull o × ((old : ℕ) × IsFirstLeft desk o old)
IsRerouteCause desk o NoMemory = Unit {0}

-- the answer may come where a permit is applied for again
abbrev pub AnswersRenewal : Reply → Type 0
AnswersRenewal (reply.Issued number version routes) = Unit {0}
AnswersRenewal (reply.Refused version limit) = Unit {0}
AnswersRenewal (reply.Full entries) = Unit {0}
AnswersRenewal reply.NoMemory = Unit {0}
AnswersRenewal _ = ⊥

-- the answer for which a desk refuses
abbrev pub refusal_reply : RerouteRefusal → Reply
refusal_reply (Full entries) = reply.Full entries
refusal_reply NoMemory = reply.NoMemory
