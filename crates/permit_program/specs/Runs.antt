-- What one run of the program does: its status, what it read, what it wrote, and who was told of recalls.
use Rattle.std.specs.Prelude.{◌≡◌, ◌≢◌, ◌⊎◌, ℕ, ◌+◌, ◌<◌, ◌≤◌, Bool, true, false, nat_lt, List, [], ◌∷◌, ◌++◌, codes, length, take, Option, Some, None, IfSome, IsSomeAnd}
use Rattle.std.specs.Io.KnownBytes.{Appends}
use Rattle.office_io.specs.Causes.{Rose, TookAtMost}
use Rattle.office_io.specs.declared.sink.Sink as Sink
use Rattle.office_io.specs.declared.source.Source as Source
use Rattle.notice_desk.specs.Deliveries.{Delivered, RoseAt, StoppedAt}
use Rattle.notice_desk.specs.Standings.{Standing, fault_counts, standings, texts}
use Rattle.notice_desk.specs.Lines.{EachWrote, WroteUntilAt}
use Rattle.notice_desk.specs.declared.notice.Notice as Notice
use Rattle.notice_desk.specs.declared.notice.Recall.{Recall}
use Rattle.notice_desk.specs.declared.subscribers.Subscribers.{Subscribers}
use Rattle.command_line.specs.declared.asked.Asked.{Asked}
use Rattle.command_line.specs.declared.asked.Task.TheVariants.{Day}
use Rattle.permit_program.specs.Command.{Answer, Command, Makes, MakesAndTells}
use Rattle.permit_program.specs.Commands.{command_of}
use Rattle.permit_program.specs.Headline.{CountedHeadline}
use Rattle.permit_program.specs.declared.runs.Alone.{Alone}
use Rattle.permit_program.specs.declared.runs.Alone.TheVariants as alone

-- how many bytes the permit office's program reads at the most
abbrev pub most_bytes : ℕ
most_bytes = 4194304

-- the line that answers words that ask for nothing
abbrev pub usage_line : List ℕ
usage_line = codes "usage: permit_cli check|day|make|trial|audit|design|convoy|reroute [--seed N] [--size N] [--trucks N] [--gap N]" ++ (10 ∷ [])

-- the line that answers too many bytes
abbrev pub bytes_line : List ℕ
bytes_line = codes "refused: bytes" ++ (10 ∷ [])

-- a program, as a value: how many bytes it reads at the most, the line that answers words that ask for nothing, and the command of
-- what they can ask for
pub record Program (A : Type 0) : Type 1 where
  pub most : ℕ
  pub usage : List ℕ
  pub command_of : A → Command

-- the permit office's program
abbrev pub permit_cli : Program Asked
permit_cli = record { most = most_bytes; usage = usage_line; command_of = command_of }

-- a source at some time: itself, the bytes that it has left, where it tells them, and how often it has failed
pub record SourceAt (S : Type 0) : Type 0 where
  pub itself : S
  pub left : Option (List ℕ)
  pub faults : ℕ

-- a sink at some time: itself, the bytes that it holds, where it tells them, and how often it has failed
pub record SinkAt (K : Type 0) : Type 0 where
  pub itself : K
  pub held : Option (List ℕ)
  pub faults : ℕ

-- the notice desk at some time: how those stand who are told of recalls, how often the object of each has failed, and what it
-- wrote for those who read it, where it tells that
pub record DeskAt : Type 0 where
  pub standings : List Standing
  pub faults : List ℕ
  pub texts : List (Option (List ℕ))

-- what a run meets outside: where bytes come from, where they go, and who is told of recalls
pub record Outside (S K : Type 0) : Type 0 where
  pub source : SourceAt S
  pub sink : SinkAt K
  pub desk : DeskAt

-- a source at some time, as the ghost members of its `Source` show it
abbrev pub source_at : {S : Type 0} → Source.Ghosts S → S → SourceAt S
source_at of source = record { itself = source; left = of.left source; faults = of.faults source }

-- a sink at some time, as the ghost members of its `Sink` show it
abbrev pub sink_at : {K : Type 0} → Sink.Ghosts K → K → SinkAt K
sink_at of sink = record { itself = sink; held = of.held sink; faults = of.faults sink }

-- what a run meets outside: this source, this sink and this desk
abbrev pub outside_of : {S K : Type 0} → Source.Ghosts S → Sink.Ghosts K → S → K → DeskAt → Outside S K
outside_of of_source of_sink source sink desk = record {
  source = source_at of_source source;
  sink = sink_at of_sink sink;
  desk = desk;
}

-- the notice desk of these subscribers, as the ghost members of their objects' `Notice` show it
abbrev pub desk_at : {X : Type 0} {Y : X → Type 0} → ((x : X) → Notice.Ghosts (Y x)) → Subscribers X Y → DeskAt
desk_at of subscribers = record {
  standings = standings (λ n. (of n.vtable).list n.value) subscribers;
  faults = fault_counts (λ n. (of n.vtable).faults n.value) subscribers;
  texts = texts (λ n. (of n.vtable).text n.value) subscribers;
}

-- the source failed meanwhile
abbrev pub SourceFailed : {S K : Type 0} → Outside S K → Outside S K → Type 0
SourceFailed before after = Rose before.source.faults after.source.faults

-- the sink failed meanwhile
abbrev pub SinkFailed : {K : Type 0} → SinkAt K → SinkAt K → Type 0
SinkFailed before after = Rose before.faults after.faults

-- the object of one who is told of recalls failed meanwhile
abbrev pub NoticeFailed : DeskAt → DeskAt → Type 0
NoticeFailed before after = (place : ℕ) × RoseAt place before.faults after.faults

-- these are all the bytes that the source had left, where it tells them, and it has none left
abbrev pub TookAll : {S : Type 0} → SourceAt S → SourceAt S → List ℕ → Type 0
TookAll before after bytes = IfSome before.left (λ left. (bytes ≡ left) × (after.left ≡ Some []))

-- what is read: all that was left, or nothing
abbrev pub Took : {S : Type 0} → Bool → SourceAt S → SourceAt S → List ℕ → Type 0
Took true before after bytes = TookAll before after bytes
Took false before after bytes = (bytes ≡ []) × (after ≡ before)

-- who was told what: each of the recalls, by whom it is for, in order and once, and the text of each grew by the lines of just
-- these; or nobody was told anything
abbrev pub Told : Option (List Recall) → DeskAt → DeskAt → Type 0
Told None before after = after ≡ before
Told (Some recalls) before after =
    Delivered before.standings recalls after.standings × (after.faults ≡ before.faults)
    × EachWrote before.standings recalls before.texts after.texts

-- Status 0: some bytes were taken, all that the command reads; the text that it makes of them was appended; and all were told
-- of the recalls.
pub record WroteAll {S K : Type 0} (command : Command) (before after : Outside S K) : Type 0 where
  pub bytes : List ℕ
  pub text : List ℕ
  pub took : Took command.reads before.source after.source bytes
  pub made : Makes command bytes text
  pub wrote : Appends before.sink.held after.sink.held text
  pub told : Told (command.recalls bytes text made.output) before.desk after.desk

-- Status 4: some bytes were taken, all that the command reads, but of the text that it makes of them only the front was
-- appended.
pub record WroteFront {S K : Type 0} (command : Command) (before after : Outside S K) : Type 0 where
  pub bytes : List ℕ
  pub text : List ℕ
  pub count : ℕ
  pub took : Took command.reads before.source after.source bytes
  pub made : Makes command bytes text
  pub wrote : Appends before.sink.held after.sink.held (take count text)

-- Status 8: the whole text was appended. Then its recalls were told up to one at which an object failed: those before its
-- subscriber were told all, those after it none, and its subscriber what came before that recall. Each text grew by the lines of
-- just these, and that of the object which failed by a front of the next line too.
pub record WroteUntold {S K : Type 0} (command : Command) (before after : Outside S K) : Type 0 where
  pub bytes : List ℕ
  pub text : List ℕ
  pub recalls : List Recall
  pub took : Took command.reads before.source after.source bytes
  pub made : MakesAndTells command bytes text recalls
  pub wrote : Appends before.sink.held after.sink.held text
  pub place : ℕ
  pub stopped : StoppedAt place before.desk.standings recalls after.desk.standings
  pub rose : RoseAt place before.desk.faults after.desk.faults
  pub part : WroteUntilAt place before.desk.standings recalls after.desk.standings before.desk.texts after.desk.texts

-- A line was appended, whole where the sink did not fail, and else a front of it.
pub record WroteLine {K : Type 0} (line : List ℕ) (before after : SinkAt K) : Type 0 where
  pub front : (count : ℕ) × Appends before.held after.held (take count line)
  pub whole : (SinkFailed before after → ⊥) → Appends before.held after.held line

-- Some bytes were taken, all that the command reads, and not too many; it refuses them in this way, with this status, and the
-- line was appended.
pub record RefusedFile {S K : Type 0} (most status : ℕ) (command : Command) (before after : Outside S K) : Type 0 where
  pub bytes : List ℕ
  pub answer : Answer
  pub took : Took command.reads before.source after.source bytes
  pub few : length bytes ≤ most
  pub refused : command.Judges bytes (Some answer)
  pub is_status : answer.status ≡ status
  pub told : WroteLine answer.line before.sink after.sink

-- Status 6 for bytes: more were left than a command reads, and the line that says so was appended.
pub record RefusedBytes {S K : Type 0} (most status : ℕ) (command : Command) (before after : Outside S K) : Type 0 where
  pub is_status : status ≡ 6
  pub reads : command.reads ≡ true
  pub many : IfSome before.source.left (λ bytes. most < length bytes)
  pub told : WroteLine bytes_line before.sink after.sink

-- The status that a judgement calls for, where nothing fails.
abbrev pub status_called_for : Option Answer → ℕ
status_called_for None = 0
status_called_for (Some answer) = answer.status

-- The status that bytes call for: 6 where there are too many, and else the one of the command's judgement of them.
abbrev pub CallFor : Command → Bool → List ℕ → ℕ → Type 0
CallFor command true bytes status = status ≡ 6
CallFor command false bytes status = (judgement : Option Answer) × command.Judges bytes judgement × (status ≡ status_called_for judgement)

-- The status is this one; and in the place of 0 the sink may have failed, or an object that is told.
abbrev pub IsStatusOr : ℕ → ℕ → Type 0
IsStatusOr wanted status = (status ≡ wanted) ⊎ ((wanted ≡ 0) × ((status ≡ 4) ⊎ (status ≡ 8)))

-- The status is the one that a command and bytes call for, of which so many are read at the most, or memory was wanting.
abbrev pub IsStatusFor : ℕ → Command → List ℕ → ℕ → Type 0
IsStatusFor most command bytes status =
    (status ≡ 7) ⊎ ((wanted : ℕ) × CallFor command (nat_lt most (length bytes)) bytes wanted × IsStatusOr wanted status)

-- The bytes that a command is to have: what the source has left, where it tells that, or none.
abbrev pub bytes_for : Bool → Option (List ℕ) → Option (List ℕ)
bytes_for true left = left
bytes_for false left = Some []

-- The status is the one that the command and its bytes call for, where they are told.
abbrev pub IsStatusSettled : ℕ → Command → Option (List ℕ) → ℕ → Type 0
IsStatusSettled most command left status = IfSome (bytes_for command.reads left) (λ bytes. IsStatusFor most command bytes status)

-- A status that is no refusal's.
abbrev pub IsPlain : ℕ → Type 0
IsPlain status = (status ≡ 0) ⊎ (status ≡ 2) ⊎ (status ≡ 3) ⊎ (status ≡ 4) ⊎ (status ≡ 7) ⊎ (status ≡ 8)

-- What a run of a program does: what was asked for, what stood outside before it and after it, and its status.
pub record IsRun {A S K : Type 0} (program : Program A) (asked : Option A) (before after : Outside S K) (status : ℕ) : Type 0 where
  -- 0: the command was carried out
  pub done : status ≡ 0 → IsSomeAnd asked (λ a. WroteAll (program.command_of a) before after)
  -- the cause of each other status: 2 comes exactly where nothing was asked for, unless no memory was left to read the words
  pub usage : status ≡ 2 → asked ≡ None
  pub unasked : asked ≡ None → (status ≡ 2) ⊎ (status ≡ 7)
  pub read : status ≡ 3 → SourceFailed before after
  pub written : status ≡ 4 → SinkFailed before.sink after.sink
  pub noticed : status ≡ 8 → NoticeFailed before.desk after.desk
  -- every other status is of a refusal: there were too many bytes, or the command refuses them, and the line was written
  pub refused : IsPlain status
      ⊎ IsSomeAnd asked (λ a. RefusedBytes program.most status (program.command_of a) before after
      ⊎ RefusedFile program.most status (program.command_of a) before after)
  -- where the source does not fail, the command and its bytes decide, unless the sink or an object fails or no memory is left
  pub settled : (SourceFailed before after → ⊥) → IfSome asked (λ a. IsStatusSettled program.most (program.command_of a) before.source.left status)
  -- what was written with each other status
  pub usage_told : status ≡ 2 → WroteLine program.usage before.sink after.sink
  pub nothing_read : status ≡ 3 → after.sink ≡ before.sink
  pub front : status ≡ 4 → IsSomeAnd asked (λ a. WroteFront (program.command_of a) before after)
  pub nothing_kept : status ≡ 7 → after.sink ≡ before.sink
  pub untold : status ≡ 8 → IsSomeAnd asked (λ a. WroteUntold (program.command_of a) before after)
  -- what stays: nobody is told anything but with 0 and 8; where nothing is asked for nothing is read; no status but 3 comes
  -- with a fault of the source, and neither 0 nor 8 with one of the sink
  pub unheard : status ≢ 0 → status ≢ 8 → after.desk ≡ before.desk
  pub untouched : status ≡ 2 → after.source ≡ before.source
  pub calm : status ≢ 3 → after.source.faults ≡ before.source.faults
  pub calm_sink : (status ≡ 0) ⊎ (status ≡ 8) → after.sink.faults ≡ before.sink.faults
  pub most : TookAtMost (program.most + 1) before.source.left after.source.left

-- a day is asked for
abbrev pub AsksForDay : Option Asked → Type 0
AsksForDay asked = IsSomeAnd asked (λ a. a.task ≡ Day)

-- What a run does that needs no threads: it is a run, of a day only where no memory was left to read the words; or a day is
-- asked for, and nothing was read or written.
abbrev pub IsAlone : {S K : Type 0} → Option Asked → Outside S K → Outside S K → Alone → Type 0
IsAlone asked before after (alone.Status status) = (AsksForDay asked → status ≡ 7) × IsRun permit_cli asked before after status
IsAlone asked before after alone.Day = AsksForDay asked × (after ≡ before)

-- A day was carried out, and its counter handed out: some bytes were taken, all that were left; a journal was appended; and the
-- headline holds of the two, with the readings of the counter.
pub record CountedDay {S K : Type 0} (readings : Option (List ℕ)) (before after : Outside S K) : Type 0 where
  pub bytes : List ℕ
  pub journal : List ℕ
  pub took : TookAll before.source after.source bytes
  pub wrote : Appends before.sink.held after.sink.held journal
  pub counted : IsSomeAnd readings (λ r. CountedHeadline r bytes journal)

-- so it is where a day is asked for and done
abbrev pub CountsItsDay : {S K : Type 0} → Option Asked → Outside S K → Outside S K → ℕ → Option (List ℕ) → Type 0
CountsItsDay asked before after status readings = AsksForDay asked → status ≡ 0 → CountedDay readings before after
