-- The entries that a command makes, whatever others enter between them.
use Rattle.std.specs.Prelude.{◌≡◌, ◌≢◌, ◌<◌, ◌≤◌, ◌++◌, ◌∷◌, [], ℕ, zero, suc, List, length, slice_get, take, Some, true, false}
use Rattle.trip_analysis.specs.declared.application.Application.{Application}
use Rattle.trip_analysis.specs.declared.finding.What.{What}
use Rattle.office_words.specs.declared.entry.Call.{Call}
use Rattle.office_words.specs.declared.entry.Call.TheVariants as call
use Rattle.office_words.specs.declared.entry.Command.{Command}
use Rattle.office_words.specs.declared.entry.Command.TheVariants as command
use Rattle.office_words.specs.declared.entry.Entry.{Entry}
use Rattle.office_words.specs.declared.entry.Reply.{Reply}
use Rattle.office_words.specs.declared.entry.Reply.TheVariants as reply
use Rattle.office_core.specs.Offices.{entry}
use Rattle.office_core.specs.Replies.{is_full, is_outdated}

-- a snapshot at a version
abbrev pub looked_at : ℕ → ℕ → Entry
looked_at caller version = entry caller call.Snapshot (reply.SnapshotAt version)

-- a submit of what was found for an application at a version
abbrev pub submitted : ℕ → Application → ℕ → What → Reply → Entry
submitted caller a version w r = entry caller (call.Submit a (record { seen = version; what = w })) r

-- a snapshot alone
abbrev pub IsLook : ℕ → List Entry → Type 0
IsLook caller es = (version : ℕ) × (es ≡ looked_at caller version ∷ [])

-- an attempt that was answered so: a snapshot, and a submit that names the snapshot's version
abbrev pub IsAttempt : ℕ → Application → Reply → List Entry → Type 0
IsAttempt caller a r es =
    (version : ℕ) × (w : What) × (es ≡ looked_at caller version ∷ submitted caller a version w r ∷ [])

-- an attempt that was answered that what was proposed is out of date
abbrev pub IsOutdated : ℕ → Application → List Entry → Type 0
IsOutdated caller a es = (r : Reply) × IsAttempt caller a r es × (is_outdated r ≡ true)

-- so many attempts that were out of date, one after another
abbrev pub AreOutdated : ℕ → Application → ℕ → List Entry → Type 0
AreOutdated caller a zero es = es ≡ []
AreOutdated caller a (suc k) es =
    (front : List Entry) × (last : List Entry) × AreOutdated caller a k front × IsOutdated caller a last
    × (es ≡ front ++ last)

-- one call: the one entry that has its reply, or none where the history is full
pub record IsCalled (caller : ℕ) (c : Call) (r : Reply) (es : List Entry) : Type 0 where
  pub answered : is_full r ≡ false → es ≡ entry caller c r ∷ []
  pub full : is_full r ≡ true → es ≡ []

-- the entries with which attempts come to an end, and the reply that they give
pub data Concludes (caller : ℕ) (a : Application) (r : Reply) (es : List Entry) : Type 0 where
  -- an attempt is answered otherwise than that it is out of date
  answered : IsAttempt caller a r es → is_outdated r ≡ false → is_full r ≡ false → Concludes caller a r es
  -- no memory is left for the snapshot, for what is found at it or for a copy of the application
  lacks : IsLook caller es → r ≡ reply.NoMemory → Concludes caller a r es
  -- the history is full ahead of the snapshot
  full : es ≡ [] → is_full r ≡ true → Concludes caller a r es
  -- the history is full ahead of the submit
  full_between : IsLook caller es → is_full r ≡ true → Concludes caller a r es

-- the entries that come after so many attempts that were out of date, and the reply that they give
pub data Ends (caller : ℕ) (a : Application) (k : ℕ) (r : Reply) (es : List Entry) : Type 0 where
  -- after at most seven, the next attempt comes to an end
  concluded : k ≤ 7 → Concludes caller a r es → Ends caller a k r es
  -- after eight, the office is asked to find itself what is needed, and that is not out of date
  held : k ≡ 8 → IsCalled caller (call.Held a) r es → is_outdated r ≡ false → Ends caller a k r es

-- the entries that an application makes, and the reply that they give
pub record IsDecided (caller : ℕ) (a : Application) (es : List Entry) (r : Reply) : Type 0 where
  pub tries : ℕ
  pub front : List Entry
  pub last : List Entry
  pub outdated : AreOutdated caller a tries front
  pub ends : Ends caller a tries r last
  pub whole : es ≡ front ++ last

-- the entries that a command of a caller makes, and the reply that they give: an application is decided,
-- every other command is one call
abbrev pub Unfolds : ℕ → Command → List Entry → Reply → Type 0
Unfolds caller (command.Apply a) es r = IsDecided caller a es r
Unfolds caller (command.Post change) es r = IsCalled caller (call.Post change) r es
Unfolds caller (command.Day day) es r = IsCalled caller (call.Day day) r es
Unfolds caller (command.Surrender number) es r = IsCalled caller (call.Surrender number) r es
Unfolds caller (command.Show number) es r = IsCalled caller (call.Show number) r es

-- these are all the entries that a command makes: neither was the history full nor memory wanting
pub record IsFinished (caller : ℕ) (c : Command) (es : List Entry) : Type 0 where
  pub last : Reply
  pub unfolds : Unfolds caller c es last
  pub room : is_full last ≡ false
  pub memory : last ≢ reply.NoMemory

-- a command broke off, for want of memory
abbrev pub IsBrokenOff : ℕ → Command → List Entry → Type 0
IsBrokenOff caller c es = Unfolds caller c es reply.NoMemory

-- a command was stopped by a history that holds the most entries that it may
abbrev pub IsStopped : ℕ → Command → List Entry → ℕ → Type 0
IsStopped caller c es most = Unfolds caller c es (reply.Full most)

-- the finished commands of a caller, one after another
abbrev pub AreFinished : ℕ → List Command → List Entry → Type 0
AreFinished caller [] es = es ≡ []
AreFinished caller (c ∷ cs) es =
    (front : List Entry) × (back : List Entry) × IsFinished caller c front × AreFinished caller cs back
    × (es ≡ front ++ back)

-- the entries of a script that went no further than the command at this place: those ahead of it were
-- finished, and its own entries are such as are told
pub record WentTo (caller : ℕ) (script : List Command) (place : ℕ) (Such : Command → List Entry → Type 0)
    (es : List Entry) : Type 0 where
  pub command : Command
  pub inside : place < length script
  pub here : slice_get script place ≡ Some command
  pub front : List Entry
  pub last : List Entry
  pub finished : AreFinished caller (take place script) front
  pub such : Such command last
  pub whole : es ≡ front ++ last
