-- What contracts see of a desk, and of the calls that are made of it with a pass.
use Rattle.std.specs.Prelude.{◌≡◌, ℕ, List, [], Option, Some, None, if◌then◌else◌, unwrap_or}
use Rattle.road_graph.specs.Roads.{no_roads}
use Rattle.trip_analysis.specs.Bases.{BaseLists}
use Rattle.office_words.specs.declared.entry.Call.{Call}
use Rattle.office_words.specs.declared.entry.Entry.{Entry}
use Rattle.office_words.specs.declared.entry.Reply.{Reply}
use Rattle.office_core.specs.declared.calls.Looked.{Looked}
use Rattle.office_core.specs.declared.calls.Looked.TheVariants as looked
use Rattle.office_core.specs.Machine.{MayAsk}
use Rattle.office_core.specs.Offices.{Opened, stored_in_office}
use Rattle.office_core.specs.Calls.{Answered, Calling, machine_seen}
use Rattle.office_turn.specs.Told.{Lock, Passing}

-- what no turn changes of an office: what it is about, the day on which it opened, and the most entries that its history
-- may hold
abbrev pub Terms : Type 0
Terms = BaseLists × List ℕ × ℕ

-- the terms of an office
abbrev pub terms_of : Opened → Terms
terms_of o = (o.base, o.opening, o.most)

-- the lock gives as many turns as its office may hold entries
abbrev pub IsTied : Lock Terms → Type 0
IsTied lock = (base : BaseLists) × (day : List ℕ) × (lock.terms ≡ Some (base, day, lock.most))

-- what stands where a lock has no terms, which is never
abbrev pub no_terms : Terms
no_terms = (record { roads = no_roads; fleet = [] }, [], 0)

-- the terms of a lock
abbrev pub terms_in : Lock Terms → Terms
terms_in lock = unwrap_or lock.terms no_terms

-- the most entries of the history, where the pass was answered that they are reached
abbrev pub full_of : Passing Entry Terms → Option ℕ
full_of p = if p.worn then Some p.lock.most else None

-- the calls that are made of a desk with one pass: they belong to the lock, and are those of the pass's number
abbrev pub calls_with_pass : Passing Entry Terms → Calling (Lock Terms)
calls_with_pass p = record {
  who = record {
    place = Some p.lock;
    reference = None;
    caller = p.number;
    base = (terms_in p.lock).0;
    opening = (terms_in p.lock).1;
    most = p.lock.most;
  };
  seen = p.seen;
  own = p.own;
  full = full_of p;
}

-- what may be asked with a pass: what may be asked of the history that it has seen
abbrev pub MayAskWith : Passing Entry Terms → Call → Type 0
MayAskWith p c = MayAsk (calls_with_pass p).who.base (machine_seen (calls_with_pass p)) c

-- a call was answered with a pass
abbrev pub AnswersWith : Passing Entry Terms → Call → Reply → Passing Entry Terms → Type 0
AnswersWith p c r next = Answered (calls_with_pass p) c r (calls_with_pass next)

-- what a look hands out is what is then posted. It is never that the history is full
abbrev pub HandsOut : Looked → Opened → Type 0
HandsOut (looked.At s) o = s ≡ stored_in_office o
HandsOut looked.NoMemory o = Unit {0}
HandsOut (looked.Full most) o = ⊥
