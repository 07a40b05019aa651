-- How the parts of a run end: the reading, the refusal, and the writing of a text.
use Rattle.std.specs.Prelude.{◌≡◌, ◌⊎◌, ◌<◌, ℕ, Bool, true, List, length, take, IfSome}
use Rattle.std.specs.String.{string_bytes}
use Rattle.std.specs.Io.KnownBytes.{Appends}
use Rattle.office_io.specs.Causes.{Rose}
use Rattle.office_io.specs.declared.source.ReadRefusal.{ReadRefusal}
use Rattle.office_io.specs.declared.source.ReadRefusal.TheVariants as unread
use Rattle.permit_program.specs.Runs.{SinkAt, SinkFailed, SourceAt, WroteLine, bytes_line}
use Rattle.permit_program.specs.declared.refusal.Refusal.{Refusal}
use Rattle.permit_program.specs.declared.refusal.Refusal.TheVariants.{NoMemory, Refused}

-- why the source gave no bytes, or not all of them: it failed and was right to say so, or had more than are read at the most, or memory was
-- wanting, while it did not fail
abbrev pub WasUnread : {S : Type 0} → Bool → ℕ → SourceAt S → SourceAt S → ReadRefusal → Type 0
WasUnread reads most before after unread.ReadFault = Rose before.faults after.faults
WasUnread reads most before after unread.TooLong =
    (reads ≡ true) × (after.faults ≡ before.faults) × IfSome before.left (λ bytes. most < length bytes)
WasUnread reads most before after unread.NoMemory = after.faults ≡ before.faults

-- how a run ends whose bytes were not all read
abbrev pub AnswersUnread : {K : Type 0} → ReadRefusal → SinkAt K → SinkAt K → ℕ → Type 0
AnswersUnread unread.ReadFault before after status = (status ≡ 3) × (after ≡ before)
AnswersUnread unread.TooLong before after status = (status ≡ 6) × WroteLine bytes_line before after
AnswersUnread unread.NoMemory before after status = (status ≡ 7) × (after ≡ before)

-- how a run ends whose bytes are refused
abbrev pub AnswersRefusal : {K : Type 0} → Refusal → SinkAt K → SinkAt K → ℕ → Type 0
AnswersRefusal (Refused status line) before after result = (result ≡ status) × WroteLine (string_bytes line) before after
AnswersRefusal NoMemory before after result = (result ≡ 7) × (after ≡ before)

-- how the writing of a text ends: with 0 it is whole, and with 4 the sink failed behind a front of it
pub record AnswersText {K : Type 0} (text : List ℕ) (before after : SinkAt K) (status : ℕ) : Type 0 where
  pub whole : status ≡ 0 → Appends before.held after.held text × (after.faults ≡ before.faults)
  pub front : status ≡ 4 → ((count : ℕ) × Appends before.held after.held (take count text)) × SinkFailed before after
  pub statuses : (status ≡ 0) ⊎ (status ≡ 4)
