-- What contracts see of what an office keeps, and what its answers say of it.
use Rattle.std.specs.Prelude.{◌≡◌, ℕ, ◌+◌, ◌≤◌, ◌<◌, Bool, true, false, List, length, Option}
use Rattle.std.specs.Arc.{arc_value}
use Rattle.road_graph.specs.Roads.{IsRoads}
use Rattle.restriction_log.specs.declared.change.Change.{Change}
use Rattle.restriction_log.specs.States.{InForce}
use Rattle.snapshot_store.specs.Stores.{IsNextOf, NextState, Stored}
use Rattle.permit_book.specs.declared.trip.Trip.{Trip}
use Rattle.permit_book.specs.Permits.{permit_of}
use Rattle.trip_analysis.specs.declared.application.Application.{Application}
use Rattle.trip_analysis.specs.declared.finding.What.{What}
use Rattle.trip_analysis.specs.Bases.{BaseLists}
use Rattle.trip_analysis.specs.Findings.{HoldsIn, IsFinding, first_meeting, leaving}
use Rattle.trip_analysis.specs.Followers.{GoesOn}
use Rattle.office_words.specs.declared.entry.Call.{Call}
use Rattle.office_words.specs.declared.entry.Reply.{Reply}
use Rattle.office_words.specs.declared.entry.Reply.TheVariants as reply
use Rattle.office_core.specs.declared.register.Register.TheInside.{Inside}
use Rattle.office_core.specs.Recalls.{InForceMeetElsewhere, is_recalled, recalled_by}
use Rattle.office_core.specs.Replies.{is_issue, what_reply}
use Rattle.office_core.specs.Retests.{AreTestsWithin, changed_on, is_changed}
use Rattle.office_core.specs.Costs.{IsCost}
use Rattle.office_core.specs.Users.{IsIndexed}
use Rattle.office_core.specs.Machine.{IsGiven, IsGood, Machine, after, machine_at, may_lack, posted_reply, state_at, state_in, stored_of, version_of, with_next, with_permit, with_posting}

-- what the office is about, and the machine
pub record RegisterParts : Type 0 where
  pub base : BaseLists
  pub machine : Machine

abbrev pub register_parts_of : Inside → RegisterParts
register_parts_of r = record { base = arc_value r.base; machine = machine_at r.store.postings r.book r.day }

-- the roads are in order; the postings, the permits and the day are as every legal history leaves them; the store is of the
-- roads, and the follower of the base and not ahead of the store; the index has at each segment the permits that use it
pub record IsRegisterKept (r : Inside) (parts : RegisterParts) : Type 0 where
  pub roads : IsRoads parts.base.roads
  pub good : IsGood parts.base parts.machine
  pub store : r.store.roads ≡ parts.base.roads
  pub follower : r.follower.base ≡ parts.base
  pub later : GoesOn r.follower.last r.store
  pub index : IsIndexed (length parts.base.roads.segments) parts.machine.permits r.index

abbrev pub IsRegister : Inside → Type 0
IsRegister r = IsRegisterKept r (register_parts_of r)

-- what is in force on the roads, and what was at an earlier version
abbrev pub register_state_now : RegisterParts → InForce
register_state_now r = state_in r.base r.machine

abbrev pub state_then : RegisterParts → ℕ → InForce
state_then r seen = state_at r.base r.machine seen

-- what is posted, and on which roads
abbrev pub stored_now : RegisterParts → Stored
stored_now r = stored_of r.base r.machine

-- this is what a posting would make of the store
abbrev pub IsNextState : RegisterParts → NextState → Type 0
IsNextState r next = IsNextOf (stored_now r) next

-- this is the answer to the call, where memory suffices
abbrev pub Gives : RegisterParts → ℕ → Call → Reply → Type 0
Gives r caller c given = IsGiven r.base r.machine caller c given

-- this is what the call and its answer leave
abbrev pub LeavesParts : RegisterParts → ℕ → Call → RegisterParts → Reply → Type 0
LeavesParts r caller c next given = next.machine ≡ after r.base r.machine caller c given

-- want of memory may be the answer to the call
abbrev pub MayLack : RegisterParts → Call → Type 0
MayLack r c = may_lack r.base r.machine c ≡ true

-- the answer to what was found for a truck
abbrev pub found_reply : RegisterParts → ℕ → What → Reply
found_reply r truck w = what_reply r.base (register_state_now r) (version_of r.machine) (length r.machine.permits + 1) truck w

abbrev pub IsReplyTo : RegisterParts → ℕ → What → Reply → Type 0
IsReplyTo r truck w given = given ≡ found_reply r truck w

-- that answer issues a permit
abbrev pub Issues : RegisterParts → ℕ → What → Type 0
Issues r truck w = is_issue (found_reply r truck w) ≡ true

-- this is found now, and what was found held at this version
abbrev pub IsFoundNow : RegisterParts → Application → What → Type 0
IsFoundNow r a w = IsFinding r.base (register_state_now r) a w

abbrev pub HeldAt : RegisterParts → ℕ → ℕ → What → Type 0
HeldAt r seen truck w = HoldsIn r.base (state_then r seen) truck w

-- the answer that issues the next permit
abbrev pub next_issue : RegisterParts → List (List ℕ) → Reply
next_issue r routes = reply.Issued (length r.machine.permits + 1) (version_of r.machine) routes

-- this is what an answer to an application leaves, for which something was found at this version
abbrev pub Permits : RegisterParts → ℕ → Application → ℕ → RegisterParts → Reply → Type 0
Permits r caller a seen next given = next.machine ≡ with_permit r.machine caller a seen given

-- this is left where the next permit is issued for a trip, whose routes were found at this version
abbrev pub Enters : RegisterParts → Trip → ℕ → RegisterParts → Type 0
Enters r trip seen next = next.machine ≡ with_next r.machine trip seen

-- the answer to a posting, and what it leaves
abbrev pub posting_reply : RegisterParts → Change → Reply
posting_reply r change = posted_reply r.base r.machine change

abbrev pub Posts : RegisterParts → Change → RegisterParts → Reply → Type 0
Posts r change next given = next.machine ≡ with_posting r.base r.machine change given

-- the least segment out of these nodes that a truck may pass
abbrev pub least_out : BaseLists → InForce → ℕ → List ℕ → Option ℕ
least_out base state truck nodes = first_meeting base state truck (leaving base.roads nodes)

-- the permits that a state recalls
abbrev pub recalls_of : RegisterParts → InForce → List ℕ
recalls_of r state = recalled_by r.base state r.machine.day r.machine.permits

-- whether a state recalls the permit of a number
abbrev pub is_recalled_in : RegisterParts → InForce → ℕ → Bool
is_recalled_in r state n = is_recalled r.base state r.machine.day (permit_of r.machine.permits n)

-- each permit, if it is in force, meets its truck in a state at all of its segments but this one
abbrev pub MeetElsewhere : RegisterParts → InForce → ℕ → Type 0
MeetElsewhere r state segment = InForceMeetElsewhere r.base state segment r.machine.day r.machine.permits

-- whether the segment changed after a version
abbrev pub has_changed : RegisterParts → ℕ → ℕ → Bool
has_changed r seen s = is_changed r.base r.machine.postings seen s

-- no segment changed after a version, from this one up to that
abbrev pub AreUnchanged : RegisterParts → ℕ → ℕ → ℕ → Type 0
AreUnchanged r seen from to = (s : ℕ) → from ≤ s → s < to → has_changed r seen s ≡ false

-- how many of these segments changed after a version; one that stands twice counts twice
abbrev pub changed_among : RegisterParts → ℕ → List ℕ → ℕ
changed_among r seen segments = changed_on r.base r.machine.postings seen segments

-- how many segments out of these nodes changed after a version
abbrev pub changed_out : RegisterParts → ℕ → List ℕ → ℕ
changed_out r seen nodes = changed_among r seen (leaving r.base.roads nodes)

-- only what changed after this version is tested again of what was found then, and one more where its limit is asked for
abbrev pub IsRetested : RegisterParts → ℕ → What → ℕ → ℕ → Type 0
IsRetested r seen w before now = AreTestsWithin r.base r.machine.postings seen w before now

-- so many segments were tested before the call is answered, and so many when it is
abbrev pub Costs : RegisterParts → Call → ℕ → ℕ → Type 0
Costs r c before now = IsCost r.base r.machine c before now
