-- Laws of the entries that commands make.
use Rattle.std.specs.Prelude.{◌≡◌, ◌≢◌, ◌<◌, ◌≤◌, ◌+◌, ◌*◌, ℕ, List, length, All}
use Rattle.road_graph.specs.Roads.{IsRoads}
use Rattle.trip_analysis.specs.declared.application.Application.{Application}
use Rattle.trip_analysis.specs.Bases.{BaseLists}
use Rattle.office_words.specs.declared.entry.Command.{Command}
use Rattle.office_words.specs.declared.entry.Command.TheVariants as command
use Rattle.office_words.specs.declared.entry.Entry.{Entry}
use Rattle.office_words.specs.declared.entry.Reply.{Reply}
use Rattle.office_words.specs.declared.entry.Reply.TheVariants as reply
use Rattle.office_core.specs.Machine.{IsLegalFrom, Machine}
use Rattle.analyst_pool.specs.Unfolds.{AreFinished, IsAttempt, IsFinished, IsStopped, Unfolds, WentTo}

-- a command makes at most 17 entries
abbrev pub UnfoldingsAreShort : Type 0
UnfoldingsAreShort =
    (caller : ℕ) (c : Command) (es : List Entry) (r : Reply) → Unfolds caller c es r → length es ≤ 17

-- one that a full history stopped made at most 16
abbrev pub StoppedAreShorter : Type 0
StoppedAreShorter =
    (caller : ℕ) (c : Command) (es : List Entry) (most : ℕ) → IsStopped caller c es most → length es ≤ 16

-- so a script that is done makes at most 17 entries for each of its commands
abbrev pub ScriptsAreShort : Type 0
ScriptsAreShort =
    (caller : ℕ) (script : List Command) (es : List Entry)
    → AreFinished caller script es → length es ≤ 17 * length script

-- one that a full history stopped made at most 17 for each command ahead of that, and at most 16 more
abbrev pub StoppedScriptsAreShorter : Type 0
StoppedScriptsAreShorter =
    (caller : ℕ) (script : List Command) (k most : ℕ) (es : List Entry)
    → WentTo caller script k (λ c last. IsStopped caller c last most) es
    → (k < length script) × (length es ≤ 17 * k + 16)

-- none of these entries says that no memory was left
abbrev pub FoundMemory : List Entry → Type 0
FoundMemory es = All (λ e. e.reply ≢ reply.NoMemory) es

-- none of a script that is done says so
abbrev pub FinishedFoundMemory : Type 0
FinishedFoundMemory =
    (caller : ℕ) (script : List Command) (es : List Entry) → AreFinished caller script es → FoundMemory es

-- where nobody else calls meanwhile, an application is decided by its first attempt
abbrev pub FirstAttemptsDecide : Type 0
FirstAttemptsDecide =
    (base : BaseLists) (m : Machine) (caller : ℕ) (a : Application) (es : List Entry)
    → IsRoads base.roads → IsFinished caller (command.Apply a) es → IsLegalFrom base m es
    → (r : Reply) × IsAttempt caller a r es

-- where nobody else calls meanwhile, the entries of a command are determined by what the office holds
abbrev pub FinishedAreOne : Type 0
FinishedAreOne =
    (base : BaseLists) (m : Machine) (caller : ℕ) (c : Command) (es fs : List Entry)
    → IsRoads base.roads → IsFinished caller c es → IsFinished caller c fs
    → IsLegalFrom base m es → IsLegalFrom base m fs → es ≡ fs

-- and so are those of a list of commands
abbrev pub RunsAreOne : Type 0
RunsAreOne =
    (base : BaseLists) (m : Machine) (caller : ℕ) (cs : List Command) (es fs : List Entry)
    → IsRoads base.roads → AreFinished caller cs es → AreFinished caller cs fs
    → IsLegalFrom base m es → IsLegalFrom base m fs → es ≡ fs
