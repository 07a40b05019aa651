-- What contracts see of one seat.
use Rattle.office_words.specs.declared.entry.Call.{Call}
use Rattle.office_core.specs.declared.seat.OneSeat.{OneSeat}
use Rattle.office_core.specs.Calls.{Calling, one_seat}
use Rattle.office_core.specs.Counted.{TestsFor}

-- the calls of its caller, of the office to which it holds the one reference
abbrev pub calls_of : {L : Type 0} → OneSeat L → Calling (Unit {0})
calls_of s = one_seat s.office.ghost_name s.caller s.office.now.office

-- no more was tested for a call than it may cost
abbrev pub IsCostOf : {L : Type 0} → OneSeat L → Call → OneSeat L → Type 0
IsCostOf s c next = TestsFor s.office.now c next.office.now
