-- What an auditor knows of the entries so far, and what it says of the next one.
use Rattle.std.specs.Prelude.{◌≡◌, ◌<◌, ◌+◌, ℕ, List, length, All}
use Rattle.std.specs.Arc.{arc_value}
use Rattle.office_words.specs.declared.entry.Entry.{Entry}
use Rattle.office_words.specs.declared.entry.Call.{Call}
use Rattle.office_core.specs.Machine.{MayAsk, Step, after_entry, opened, version_of}
use Rattle.office_core.specs.Registers.{stored_now}
use Rattle.journal_audit.specs.declared.auditor.Auditor.{Auditor}
use Rattle.journal_audit.specs.Seats.{IsSeat}
use Rattle.journal_audit.specs.Versions.{AreVersions, IsNamed, versions_of}

-- the office that is gone through again is about the base, the snapshots are of its versions up to the current one, and what is
-- known at the seats is known there
pub record IsAuditor (a : Auditor) : Type 0 where
  pub base : a.replay.base ≡ arc_value a.base
  pub versions : AreVersions (stored_now a.replay) a.versions
  pub all : length a.versions.kept.items ≡ versions_of (stored_now a.replay)
  pub seats : All (IsSeat (arc_value a.base) a.versions) a.seats.items
  pub many : length a.seats.items ≡ 16

-- there is a mark for the current version
abbrev pub HasMark : Auditor → Type 0
HasMark a = version_of a.replay.machine < length a.versions.named.items

-- the version that a submit names is marked
abbrev pub IsNamedBy : Auditor → Call → Type 0
IsNamedBy a c = IsNamed a.versions.named.items c

-- the call may be asked of the office
abbrev pub MayBeAsked : Auditor → Call → Type 0
MayBeAsked a c = MayAsk a.replay.base a.replay.machine c

-- the entry is a step of the machine
abbrev pub IsStepOf : Auditor → Entry → Type 0
IsStepOf a e = Step a.replay.base a.replay.machine e (after_entry a.replay.base a.replay.machine e)

-- an auditor who only looked: what its office keeps, and the snapshots, are as they were
pub record OnlyLooked (old new : Auditor) : Type 0 where
  pub base : new.base ≡ old.base
  pub replay : new.replay ≡ old.replay
  pub versions : new.versions ≡ old.versions
  pub auditor : IsAuditor new

-- the entry is a step, and the auditor is behind it
pub record HasPassed (old : Auditor) (e : Entry) (new : Auditor) : Type 0 where
  pub step : IsStepOf old e
  pub base : new.replay.base ≡ old.replay.base
  pub machine : new.replay.machine ≡ after_entry old.replay.base old.replay.machine e
  pub named : new.versions.named.items ≡ old.versions.named.items
  pub auditor : IsAuditor new

-- an auditor who has judged no entry yet of this history, of an office that opens on a day
pub record HasOpened (a : Auditor) (day : List ℕ) (history : List Entry) : Type 0 where
  pub machine : a.replay.machine ≡ opened day
  pub named : All (λ e. IsNamedBy a e.call) history
  pub marks : length a.versions.named.items ≡ length history + 1
  pub auditor : IsAuditor a
