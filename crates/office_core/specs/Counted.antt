-- What contracts see of an office with the counter of its tests.
use Rattle.std.specs.Prelude.{◌≡◌, ◌≤◌, ◌++◌, ◌∷◌, [], ℕ, List, length, vec_capacity}
use Rattle.office_words.specs.declared.entry.Call.{Call}
use Rattle.office_core.specs.Costs.{Counts, IsCost}
use Rattle.office_core.specs.Offices.{HasPlace, IsFull, Opened, machine_in}
use Rattle.office_core.specs.Readings.{last_of, values_of}
use Rattle.office_core.specs.declared.counted.CountedOffice.TheInside.{Inside}

-- the office, and what its counter showed behind each entry of its history
pub record Counted : Type 0 where
  pub office : Opened
  pub readings : List ℕ

abbrev pub counted_in : {L : Type 0} → Inside L → Counted
counted_in o = record { office = o.office; readings = values_of o.readings.items }

-- the counter was read behind each entry, and rose in its turn by no more than its call may cost
abbrev pub AreCounted : Opened → List ℕ → Type 0
AreCounted o readings = Counts o.base o.opening o.history readings

-- a call was answered in a turn: the counter was read once more, and has risen since the last reading by no more than the call may
-- cost
pub record CountsTurn (o : Counted) (c : Call) (next : Counted) : Type 0 where
  pub reading : ℕ
  pub one_more : next.readings ≡ o.readings ++ reading ∷ []
  pub cost : IsCost o.office.base (machine_in o.office) c (last_of o.readings) reading

-- a call was asked: its turn was counted, or the history was full and nothing was tested
pub record TestsFor (o : Counted) (c : Call) (next : Counted) : Type 0 where
  pub turn : HasPlace o.office → CountsTurn o c next
  pub none : IsFull o.office → next.readings ≡ o.readings

-- The counter was read behind each entry, and nothing was counted after the last reading. There is room for the readings that are
-- still to come.
pub record IsCounted {L : Type 0} (o : Inside L) : Type 0 where
  pub counted : AreCounted o.office (values_of o.readings.items)
  pub last : o.steps ≡ last_of (values_of o.readings.items)
  pub each : length o.readings.items ≡ length o.office.history
  pub room : o.office.most ≤ vec_capacity o.readings
