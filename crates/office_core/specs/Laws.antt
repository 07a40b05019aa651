-- Laws of the machine beside what every legal history promises.
use Rattle.std.specs.Prelude.{◌≡◌, ◌≢◌, ℕ}
use Rattle.trip_analysis.specs.Bases.{BaseLists}
use Rattle.office_words.specs.declared.entry.Call.{Call}
use Rattle.office_words.specs.declared.entry.Reply.{Reply}
use Rattle.office_words.specs.declared.entry.Reply.TheVariants as reply
use Rattle.office_core.specs.Machine.{IsAnswer, Machine}

-- an answer that is not want of memory is determined by what the office holds, the caller and the call
abbrev pub AnswersAreOne : Type 0
AnswersAreOne = (base : BaseLists) (m : Machine) (caller : ℕ) (call : Call) (r s : Reply)
    → IsAnswer base m caller call r → IsAnswer base m caller call s
    → r ≢ reply.NoMemory → s ≢ reply.NoMemory → r ≡ s
