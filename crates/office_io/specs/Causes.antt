-- When a count of faults rose in a call.
use Rattle.std.specs.Prelude.{◌≡◌, ℕ, ◌+◌, ◌-◌, ◌^◌, ◌≤◌, min, List, length, take, Option, Result, OnOk, OnErr, IsErrOf}
use Rattle.std.specs.Io.KnownBytes.{Appends, Consumes}
use Rattle.office_io.specs.declared.sink.WriteFault.{WriteFault}
use Rattle.office_io.specs.declared.source.ReadRefusal.{ReadRefusal}
use Rattle.office_io.specs.declared.source.ReadRefusal.TheVariants.{ReadFault, TooLong}

-- One more, up to the last value of a count, where it stands still.
abbrev pub counted : ℕ → ℕ
counted count = min (count + 1) (2 ^ 64 - 1)

-- A count rose in a call: it is greater than before, or stands at its last value.
abbrev pub Rose : ℕ → ℕ → Type 0
Rose before now = counted before ≤ now

-- A count of faults never falls, stands in a call that answers no fault, and rose in one that does.
pub record HasCause {T E : Type 0} (before now : ℕ) (result : Result T E) : Type 0 where
  pub later : before ≤ now
  pub stands : OnOk result (now ≡ before)
  pub failed : OnErr result (Rose before now)

-- Some bytes were taken, no more than this many.
abbrev pub TookAtMost : ℕ → Option (List ℕ) → Option (List ℕ) → Type 0
TookAtMost most old new = (taken : List ℕ) × Consumes old new taken × (length taken ≤ most)

-- As many bytes were taken.
abbrev pub TookExactly : ℕ → Option (List ℕ) → Option (List ℕ) → Type 0
TookExactly count old new = (taken : List ℕ) × Consumes old new taken × (length taken ≡ count)

-- What holds where a reader answers that the source failed.
abbrev pub OnReadFault : {T : Type 0} → Result T ReadRefusal → Type 0 → Type 0
OnReadFault result P = IsErrOf result ReadFault → P

-- What holds where a reader answers anything but that the source failed.
abbrev pub UnlessReadFault : {T : Type 0} → Result T ReadRefusal → Type 0 → Type 0
UnlessReadFault result P = (IsErrOf result ReadFault → ⊥) → P

-- What holds where a reader answers that there were too many bytes.
abbrev pub OnTooLong : {T : Type 0} → Result T ReadRefusal → Type 0 → Type 0
OnTooLong result P = IsErrOf result TooLong → P

-- As many of the bytes were appended as the fault says were written.
abbrev pub AppendedPart : Option (List ℕ) → Option (List ℕ) → List ℕ → WriteFault → Type 0
AppendedPart old new bytes fault = Appends old new (take fault.written bytes)
