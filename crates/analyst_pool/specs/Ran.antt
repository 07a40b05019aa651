-- What a worker has done.
use Rattle.std.specs.Prelude.{◌≡◌, ◌≢◌, ◌≤◌, [], ℕ, List, Option, Some, All, vec_len}
use Rattle.trip_analysis.specs.Bases.{BaseLists}
use Rattle.office_words.specs.declared.entry.Command.{Command}
use Rattle.office_words.specs.declared.entry.Entry.{Entry}
use Rattle.office_core.specs.Calls.{Calling}
use Rattle.analyst_pool.specs.declared.worker.Outcome.{Outcome}
use Rattle.analyst_pool.specs.declared.worker.Outcome.TheVariants as outcome
use Rattle.analyst_pool.specs.declared.worker.Worker.{Worker}
use Rattle.office_words.specs.Commands.{MayCarryOut}
use Rattle.analyst_pool.specs.Leaves.{Grew}
use Rattle.analyst_pool.specs.Unfolds.{AreFinished, IsBrokenOff, IsStopped, WentTo}

-- the entries that a script adds with this outcome, to the own entries of calls that are then full so
abbrev pub AddsEntries : ℕ → List Command → Outcome → List Entry → Option ℕ → Type 0
AddsEntries caller script outcome.Waiting es full = es ≡ []
AddsEntries caller script outcome.Done es full = AreFinished caller script es
AddsEntries caller script (outcome.NoMemory k) es full = WentTo caller script k (IsBrokenOff caller) es
AddsEntries caller script (outcome.Full k most) es full =
    WentTo caller script k (λ c last. IsStopped caller c last most) es × (full ≡ Some most)

-- a script was carried out, as far as the outcome says
pub record CarriedOutAll {P : Type 0} (v : Calling P) (script : List Command) (o : Outcome) (w : Calling P) : Type 0 where
  pub ended : o ≢ outcome.Waiting
  pub entries : List Entry
  pub grew : Grew v entries w
  pub adds : AddsEntries v.who.caller script o entries w.full

module _ {C P : Type 0} where
  -- a worker who has not begun, of an office that is about this, with a script that may be carried out
  pub record HasNotBegun (base : BaseLists) (view : C → Calling P) (w : Worker C) : Type 0 where
    pub waits : w.outcome ≡ outcome.Waiting
    pub about : (view w.calls).who.base ≡ base
    pub sound : All (MayCarryOut base) w.script.items
    pub short : vec_len w.script ≤ 4294967295

  -- a worker carried out its script, as far as the outcome says
  pub record Ran (view : C → Calling P) (before after : Worker C) : Type 0 where
    pub actor : after.actor ≡ before.actor
    pub script : after.script ≡ before.script
    pub ended : after.outcome ≢ outcome.Waiting
    pub entries : List Entry
    pub grew : Grew (view before.calls) entries (view after.calls)
    pub adds : AddsEntries (view before.calls).who.caller before.script.items after.outcome entries (view after.calls).full
