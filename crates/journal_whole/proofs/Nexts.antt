-- Entries that come next, one after another.
use Rattle.std.proofs.Common.{◌≡◌, ◌≢◌, ◌<◌, ◌≤◌, ◌++◌, ◌∷◌, [], List, ℕ, Option, Some, None, length, ap, sym, refl, ◌∙◌, arith, inl, inr, ◌⊎◌}
use Rattle.std.proofs.lemmas.Bool.{cases_lt}
use Rattle.std.proofs.lemmas.Option.{none-some, same_Some}
use Rattle.trip_analysis.specs.declared.application.Application.{Application}
use Rattle.office_words.specs.declared.entry.Call.{Call}
use Rattle.office_words.specs.declared.entry.Call.TheVariants as call
use Rattle.office_words.specs.declared.entry.Command.{Command}
use Rattle.office_words.specs.declared.entry.Command.TheVariants as command
use Rattle.office_words.specs.declared.entry.Entry.{Entry}
use Rattle.office_words.specs.declared.entry.Reply.{Reply}
use Rattle.office_words.specs.declared.entry.Reply.TheVariants as reply
use Rattle.journal_whole.specs.Leaving.{AreNext, GoesOn, IsAttempted, IsNext, IsNextIn, IsNextOf, Left, after, after_all, after_call, behind, looked_on, tried_on, version_at, version_in}

pub next_append : (l : Left) (es fs : List Entry) → AreNext l es → AreNext (after_all l es) fs → AreNext l (es ++ fs)
next_append l [] fs h k = k
next_append l (e ∷ es) fs h k = (h.0, next_append (after l e) es fs h.1 k)

pub next_back : (l : Left) (es fs : List Entry) → AreNext l (es ++ fs) → AreNext (after_all l es) fs
next_back l [] fs h = h
next_back l (e ∷ es) fs h = next_back (after l e) es fs h.1

pub after_append : (l : Left) (es fs : List Entry) → after_all l (es ++ fs) ≡ after_all (after_all l es) fs
after_append l [] fs = refl
after_append l (e ∷ es) fs = after_append (after l e) es fs

behind_short : (cs : List Command) → length (behind cs) ≤ length cs
behind_short [] = omega arith
behind_short (c ∷ cs) = omega arith

looked_short : (l : Left) (r : Reply) → length (looked_on l r).rest ≤ length l.rest
looked_short l (reply.SnapshotAt version) = omega arith
looked_short l _ = behind_short l.rest

tried_short : (l : Left) (r : Reply) → length (tried_on l r).rest ≤ length l.rest
tried_short l (reply.Outdated version cause) = omega arith
tried_short l _ = behind_short l.rest

call_short : (l : Left) (c : Call) (r : Reply) → length (after_call l c r).rest ≤ length l.rest
call_short l call.Snapshot r = looked_short l r
call_short l (call.Submit a p) r = tried_short l r
call_short l _ r = behind_short l.rest

-- no entry adds to what is left
pub after_short : (l : Left) (es : List Entry) → length (after_all l es).rest ≤ length l.rest
after_short l [] = omega arith
after_short l (e ∷ es) = omega (arith, call_short l e.call e.reply, after_short (after l e) es)

-- a snapshot is one by its call and by its reply
pub look_is : (c : Call) (r : Reply) (version : ℕ) → version_at c r ≡ Some version → (c ≡ call.Snapshot) × (r ≡ reply.SnapshotAt version)
look_is call.Snapshot r version at = (refl, by r at)
  where
    by : (r : Reply) → version_in r ≡ Some version → r ≡ reply.SnapshotAt version
    by (reply.SnapshotAt v) at = ap reply.SnapshotAt (same_Some v version at)
    by _ at = absurd (none-some version at)
look_is _ r version at = absurd (none-some version at)

-- an entry that comes next does not say that memory was wanting
look_memory : (c : Call) (r : Reply) (version : ℕ) → version_at c r ≡ Some version → r ≢ reply.NoMemory
look_memory c r version at lack = absurd (clash (sym (look_is c r version at).1 ∙ lack))
  where
    clash : reply.SnapshotAt version ≡ reply.NoMemory → ⊥
    clash e = cc

goes_memory : (a : Application) (looked : Option ℕ) (e : Entry) → GoesOn a looked e → e.reply ≢ reply.NoMemory
goes_memory a None e (version, at) = look_memory e.call e.reply version at
goes_memory a (Some version) e (submit, told) = told.memory

attempted_memory : (a : Application) (tries : ℕ) (looked : Option ℕ) (e : Entry) → IsAttempted a tries looked e → e.reply ≢ reply.NoMemory
attempted_memory a tries looked e h = by (cases_lt tries 8)
  where
    by : (tries < 8) ⊎ (8 ≤ tries) → e.reply ≢ reply.NoMemory
    by (inl few) = goes_memory a looked e (h.goes_on few)
    by (inr all) = (h.last all).told.memory

of_memory : (c : Command) (tries : ℕ) (looked : Option ℕ) (e : Entry) → IsNextOf c tries looked e → e.reply ≢ reply.NoMemory
of_memory (command.Apply a) tries looked e h = attempted_memory a tries looked e h
of_memory (command.Post change) tries looked e h = h.1.memory
of_memory (command.Day day) tries looked e h = h.1.memory
of_memory (command.Surrender number) tries looked e h = h.1.memory
of_memory (command.Show number) tries looked e h = h.1.memory

in_memory : (cs : List Command) (tries : ℕ) (looked : Option ℕ) (e : Entry) → IsNextIn cs tries looked e → e.reply ≢ reply.NoMemory
in_memory [] tries looked e h = absurd h
in_memory (c ∷ cs) tries looked e h = of_memory c tries looked e h

pub next_memory : (l : Left) (e : Entry) → IsNext l e → e.reply ≢ reply.NoMemory
next_memory l e h = in_memory l.rest l.tries l.looked e h
