-- What an actor has left to do, and which entry of it comes next.
use Rattle.std.specs.Prelude.{◌≡◌, ◌≢◌, ◌<◌, ◌≤◌, ◌+◌, ◌∷◌, [], ℕ, List, Option, Some, None, false}
use Rattle.trip_analysis.specs.declared.application.Application.{Application}
use Rattle.office_words.specs.declared.entry.Call.{Call}
use Rattle.office_words.specs.declared.entry.Call.TheVariants as call
use Rattle.office_words.specs.declared.entry.Command.{Command}
use Rattle.office_words.specs.declared.entry.Command.TheVariants as command
use Rattle.office_words.specs.declared.entry.Entry.{Entry}
use Rattle.office_words.specs.declared.entry.Reply.{Reply}
use Rattle.office_words.specs.declared.entry.Reply.TheVariants as reply
use Rattle.office_core.specs.Replies.{is_full, is_outdated}

-- the commands that are not finished; of the first of them, how many attempts were out of date, and the version of the snapshot
-- that was taken for the next attempt
pub record Left : Type 0 where
  pub rest : List Command
  pub tries : ℕ
  pub looked : Option ℕ

-- these commands, none of which has begun
abbrev pub fresh : List Command → Left
fresh commands = record { rest = commands; tries = 0; looked = None }

-- the answer is neither that the history is full nor that memory is wanting
pub record IsTold (r : Reply) : Type 0 where
  pub room : is_full r ≡ false
  pub memory : r ≢ reply.NoMemory

-- the version of a snapshot
abbrev pub version_in : Reply → Option ℕ
version_in (reply.SnapshotAt version) = Some version
version_in _ = None

-- the version of the snapshot that a call takes
abbrev pub version_at : Call → Reply → Option ℕ
version_at call.Snapshot r = version_in r
version_at _ r = None

-- the call submits this application with what was found at a version
abbrev pub IsSubmitOf : Application → ℕ → Call → Type 0
IsSubmitOf a version (call.Submit b p) = (a ≡ b) × (p.seen ≡ version)
IsSubmitOf a version _ = ⊥

-- the call has the office find what the application needs
abbrev pub IsHeldOf : Application → Call → Type 0
IsHeldOf a (call.Held b) = a ≡ b
IsHeldOf a _ = ⊥

-- an attempt begins with a snapshot, and goes on with a submit that names its version
abbrev pub GoesOn : Application → Option ℕ → Entry → Type 0
GoesOn a None e = (version : ℕ) × (version_at e.call e.reply ≡ Some version)
GoesOn a (Some version) e = IsSubmitOf a version e.call × IsTold e.reply

-- after the last attempt, the office finds what is needed, and that is not out of date
pub record IsHeldLast (a : Application) (e : Entry) : Type 0 where
  pub held : IsHeldOf a e.call
  pub told : IsTold e.reply
  pub settled : is_outdated e.reply ≡ false

-- the entry comes next in an application, of which so many attempts were out of date
pub record IsAttempted (a : Application) (tries : ℕ) (looked : Option ℕ) (e : Entry) : Type 0 where
  pub goes_on : tries < 8 → GoesOn a looked e
  pub last : 8 ≤ tries → IsHeldLast a e

-- the one call of a command that is no application
abbrev pub IsCallOf : Command → Call → Type 0
IsCallOf (command.Apply a) c = ⊥
IsCallOf (command.Post change) c = c ≡ call.Post change
IsCallOf (command.Day day) c = c ≡ call.Day day
IsCallOf (command.Surrender number) c = c ≡ call.Surrender number
IsCallOf (command.Show number) c = c ≡ call.Show number

-- the entry comes next in a command
abbrev pub IsNextOf : Command → ℕ → Option ℕ → Entry → Type 0
IsNextOf (command.Apply a) tries looked e = IsAttempted a tries looked e
IsNextOf c tries looked e = IsCallOf c e.call × IsTold e.reply

-- the entry comes next in the first of some commands
abbrev pub IsNextIn : List Command → ℕ → Option ℕ → Entry → Type 0
IsNextIn [] tries looked e = ⊥
IsNextIn (c ∷ cs) tries looked e = IsNextOf c tries looked e

-- the entry comes next in what is left
abbrev pub IsNext : Left → Entry → Type 0
IsNext l e = IsNextIn l.rest l.tries l.looked e

-- all but the first
abbrev pub behind : List Command → List Command
behind [] = []
behind (c ∷ cs) = cs

-- once the first command is finished
abbrev pub ended : Left → Left
ended l = fresh (behind l.rest)

-- once an attempt was out of date
abbrev pub again : Left → Left
again l = record { rest = l.rest; tries = l.tries + 1; looked = None }

-- once a snapshot was answered
abbrev pub looked_on : Left → Reply → Left
looked_on l (reply.SnapshotAt version) = record { rest = l.rest; tries = l.tries; looked = Some version }
looked_on l _ = ended l

-- once a submit was answered
abbrev pub tried_on : Left → Reply → Left
tried_on l (reply.Outdated version cause) = again l
tried_on l _ = ended l

-- once a call was answered
abbrev pub after_call : Left → Call → Reply → Left
after_call l call.Snapshot r = looked_on l r
after_call l (call.Submit a p) r = tried_on l r
after_call l _ r = ended l

-- what is left behind an entry
abbrev pub after : Left → Entry → Left
after l e = after_call l e.call e.reply

-- the entries come next, one after another
abbrev pub AreNext : Left → List Entry → Type 0
AreNext l [] = Unit {0}
AreNext l (e ∷ es) = IsNext l e × AreNext (after l e) es

-- what is left behind entries
abbrev pub after_all : Left → List Entry → Left
after_all l [] = l
after_all l (e ∷ es) = after_all (after l e) es
