-- The office as a machine: each entry of a history is a step, from what the entries before it leave.
use Rattle.std.specs.Prelude.{◌≡◌, ℕ, ◌+◌, ◌<◌, ◌≤◌, ◌⊎◌, Bool, false, IsTrue, List, [], ◌∷◌, ◌++◌, length, filter, take, if◌then◌else◌, ◌==◌, All, None, is_none}
use Rattle.restriction_log.specs.declared.change.Change.{Change}
use Rattle.restriction_log.specs.Changes.{takes, AreTaken}
use Rattle.restriction_log.specs.States.{InForce, state_of}
use Rattle.snapshot_store.specs.Stores.{Stored}
use Rattle.permit_book.specs.declared.permit.Permit.{Permit}
use Rattle.permit_book.specs.declared.permit.Mark.TheVariants as mark
use Rattle.permit_book.specs.declared.trip.Trip.{Trip}
use Rattle.permit_book.specs.Permits.{new_permit, next_permit, trip_of, AreNumbered, marked}
use Rattle.trip_analysis.specs.declared.application.Application.{Application}
use Rattle.trip_analysis.specs.declared.finding.Proposal.{Proposal}
use Rattle.trip_analysis.specs.declared.finding.What.{What}
use Rattle.trip_analysis.specs.Bases.{BaseLists}
use Rattle.trip_analysis.specs.Applications.{Sound}
use Rattle.trip_analysis.specs.Findings.{IsFinding}
use Rattle.office_words.specs.declared.entry.Call.{Call}
use Rattle.office_words.specs.declared.entry.Call.TheVariants as call
use Rattle.office_words.specs.declared.entry.Reply.{Reply}
use Rattle.office_words.specs.declared.entry.Reply.TheVariants as reply
use Rattle.office_words.specs.declared.entry.Entry.{Entry}
use Rattle.office_core.specs.Recalls.{InForceMeet, IsRanged, recalled_by, recalled_now}
use Rattle.office_core.specs.Replies.{apply_reply, day_reply, early_reply, is_issue, show_reply, surrender_reply}

-- the postings so far, the permits so far, and the day
pub record Machine : Type 0 where
  pub postings : List Change
  pub permits : List Permit
  pub day : List ℕ

-- the machine with these postings, these permits and this day
abbrev pub machine_at : List Change → List Permit → List ℕ → Machine
machine_at postings permits day = record { postings = postings; permits = permits; day = day }

-- an office begins with nothing posted and no permit
abbrev pub opened : List ℕ → Machine
opened day = machine_at [] [] day

-- the version is the number of the last posting
abbrev pub version_of : Machine → ℕ
version_of m = length m.postings

-- what is posted, and on which roads
abbrev pub stored_of : BaseLists → Machine → Stored
stored_of base m = record { roads = base.roads; postings = m.postings }

-- what is in force on the roads
abbrev pub state_in : BaseLists → Machine → InForce
state_in base m = state_of base.roads m.postings

-- what was in force at an earlier version
abbrev pub state_at : BaseLists → Machine → ℕ → InForce
state_at base m seen = state_of base.roads (take seen m.postings)

-- the answer to an application for which this was found
abbrev pub reply_in : BaseLists → Machine → Application → What → Reply
reply_in base m a w = apply_reply base (state_in base m) (version_of m) m.day (length m.permits + 1) a w

-- what is in force once a change is posted
abbrev pub state_with : BaseLists → Machine → Change → InForce
state_with base m change = state_of base.roads (m.postings ++ change ∷ [])

-- the permits in force that fail once a change is posted, by their numbers
abbrev pub recalled_with : BaseLists → Machine → Change → List ℕ
recalled_with base m change = recalled_by base (state_with base m change) m.day m.permits

-- the answer to a posting: the next number, and the permits that it recalls
abbrev pub posted_reply : BaseLists → Machine → Change → Reply
posted_reply base m change =
    if takes base.roads change
    then reply.Posted (version_of m + 1) (recalled_with base m change)
    else reply.OutOfRange

-- the proposal is what is found for the application at the version that it names, and that version was reached
pub record IsFound (base : BaseLists) (m : Machine) (a : Application) (p : Proposal) : Type 0 where
  pub sound : Sound base a
  pub seen : p.seen ≤ version_of m
  pub found : IsFinding base (state_at base m p.seen) a p.what

-- what may be asked
abbrev pub MayAsk : BaseLists → Machine → Call → Type 0
MayAsk base m (call.Submit a p) = IsFound base m a p
MayAsk base m (call.Held a) = Sound base a
MayAsk base m _ = Unit {0}

-- where want of memory may be the answer: in place of a permit, in place of a posting, and wherever the office has to find
-- something itself
abbrev pub may_lack : BaseLists → Machine → Call → Bool
may_lack base m (call.Submit a p) = is_issue (reply_in base m a p.what)
may_lack base m (call.Held a) = is_none (early_reply base m.day a)
may_lack base m (call.Post change) = takes base.roads change
may_lack base m _ = false

-- what the office finds itself. Where the answer is known before, nothing is looked for
abbrev pub IsHeld : BaseLists → InForce → List ℕ → Application → What → Type 0
IsHeld base state day a w = early_reply base day a ≡ None → IsFinding base state a w

-- the answer where memory suffices
abbrev pub IsGiven : BaseLists → Machine → ℕ → Call → Reply → Type 0
IsGiven base m caller call.Snapshot r = r ≡ reply.SnapshotAt (version_of m)
IsGiven base m caller (call.Submit a p) r = r ≡ reply_in base m a p.what
IsGiven base m caller (call.Held a) r = (w : What) × IsHeld base (state_in base m) m.day a w × (r ≡ reply_in base m a w)
IsGiven base m caller (call.Post change) r = r ≡ posted_reply base m change
IsGiven base m caller (call.Day day) r = r ≡ day_reply m.day day
IsGiven base m caller (call.Surrender number) r = r ≡ surrender_reply m.permits m.day caller number
IsGiven base m caller (call.Show number) r = r ≡ show_reply m.permits m.day number

-- the answer where memory suffices, or that it was wanting, where that may be
abbrev pub IsAnswer : BaseLists → Machine → ℕ → Call → Reply → Type 0
IsAnswer base m caller c r = IsGiven base m caller c r ⊎ ((r ≡ reply.NoMemory) × IsTrue (may_lack base m c))

-- there is a number left for a posting, and one for a permit
pub record HasRoom (m : Machine) : Type 0 where
  pub postings : length m.postings < 1000000
  pub permits : length m.permits < 1000000

-- the trip of a permit that is issued to a caller for an application, along these routes
abbrev pub trip_for : ℕ → Application → List (List ℕ) → Trip
trip_for caller a routes = trip_of caller a.truck routes a.first a.last

-- the permits after an application is answered: an issued one is added, live
abbrev pub with_issued : List Permit → ℕ → Application → ℕ → Reply → List Permit
with_issued permits caller a seen (reply.Issued number version routes) =
    permits ++ new_permit number (trip_for caller a routes) version seen ∷ []
with_issued permits caller a seen _ = permits

-- the machine after an application is answered
abbrev pub with_permit : Machine → ℕ → Application → ℕ → Reply → Machine
with_permit m caller a seen r = record m { permits = with_issued m.permits caller a seen r }

-- the next permit is issued for a trip, whose routes were found at this version
abbrev pub with_next : Machine → Trip → ℕ → Machine
with_next m trip seen = record m { permits = m.permits ++ next_permit m.permits trip (version_of m) seen ∷ [] }

-- after a posting each permit in force that then fails is recalled by it
abbrev pub with_posting : BaseLists → Machine → Change → Reply → Machine
with_posting base m change (reply.Posted version recalled) = record m {
  postings = m.postings ++ change ∷ [];
  permits = recalled_now base (state_with base m change) m.day version m.permits;
}
with_posting base m change _ = m

-- the machine after a day is answered: a day that was set is the day, and else nothing changes
abbrev pub with_day : Machine → Reply → Machine
with_day m (reply.DayIs day) = record m { day = day }
with_day m _ = m

-- the machine after a surrender is answered: a permit that was given back is marked so, and else nothing changes
abbrev pub with_surrender : Machine → ℕ → Reply → Machine
with_surrender m number reply.Surrendered = record m { permits = marked m.permits number mark.Surrendered }
with_surrender m number _ = m

-- the machine after a call is answered; a permit that the office finds itself is found at the current version
abbrev pub after : BaseLists → Machine → ℕ → Call → Reply → Machine
after base m caller call.Snapshot r = m
after base m caller (call.Submit a p) r = with_permit m caller a p.seen r
after base m caller (call.Held a) r = with_permit m caller a (version_of m) r
after base m caller (call.Post change) r = with_posting base m change r
after base m caller (call.Day day) r = with_day m r
after base m caller (call.Surrender number) r = with_surrender m number r
after base m caller (call.Show number) r = m

-- one step of the machine
pub record Step (base : BaseLists) (m : Machine) (e : Entry) (next : Machine) : Type 0 where
  pub asked : MayAsk base m e.call
  pub answer : IsAnswer base m e.caller e.call e.reply
  pub next_is : next ≡ after base m e.caller e.call e.reply

-- the machine after an entry
abbrev pub after_entry : BaseLists → Machine → Entry → Machine
after_entry base m e = after base m e.caller e.call e.reply

-- the machine after entries, one after another
abbrev pub after_all : BaseLists → Machine → List Entry → Machine
after_all base m [] = m
after_all base m (e ∷ es) = after_all base (after_entry base m e) es

-- each entry is a step from what the entries before it leave
abbrev pub IsLegalFrom : BaseLists → Machine → List Entry → Type 0
IsLegalFrom base m [] = Unit {0}
IsLegalFrom base m (e ∷ es) = Step base m e (after_entry base m e) × IsLegalFrom base (after_entry base m e) es

-- the history is one of an office of this base that opened on this day
abbrev pub IsLegal : BaseLists → List ℕ → List Entry → Type 0
IsLegal base day es = IsLegalFrom base (opened day) es

-- the machine that a history leaves
abbrev pub machine_of : BaseLists → List ℕ → List Entry → Machine
machine_of base day es = after_all base (opened day) es

-- the entries of one caller, in order
abbrev pub entries_by : ℕ → List Entry → List Entry
entries_by caller es = filter (λ e. e.caller == caller) es

-- what every legal history leaves: the network takes each posting; permits are numbered by their places, with trucks and
-- segments that are there; and each that is in force meets what is in force on the roads
pub record IsGood (base : BaseLists) (m : Machine) : Type 0 where
  pub taken : AreTaken base.roads m.postings
  pub numbered : AreNumbered 0 m.permits
  pub ranged : All (IsRanged base) m.permits
  pub meets : InForceMeet base (state_in base m) m.day m.permits
