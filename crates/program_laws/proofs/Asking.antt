-- The calls of the entries that commands make are those of the commands.
use Rattle.std.proofs.Common.{◌≡◌, ◌∷◌, ◌++◌, [], List, ℕ, zero, suc, All}
use Rattle.std.proofs.lemmas.List.Elements.{All-append, All-cons, All-head, All-nil, All-same, All-tail}
use Rattle.trip_analysis.specs.declared.application.Application.{Application}
use Rattle.office_words.specs.declared.entry.Call.{Call}
use Rattle.office_words.specs.declared.entry.Call.TheVariants as call
use Rattle.office_words.specs.declared.entry.Command.{Command}
use Rattle.office_words.specs.declared.entry.Command.TheVariants as command
use Rattle.office_words.specs.declared.entry.Entry.{Entry}
use Rattle.office_words.specs.declared.entry.Reply.{Reply}
use Rattle.office_core.specs.Offices.{entry}
use Rattle.office_core.specs.Replies.{is_full}
use Rattle.analyst_pool.specs.Unfolds.{AreFinished, AreOutdated, Concludes, Ends, IsAttempt, IsCalled, IsDecided, IsLook, Unfolds, answered, concluded, full, full_between, held, lacks}
use Rattle.analyst_pool.proofs.Growing.{by_test}
use Rattle.journal_reader.specs.Fits.{FitsChange, FitsDay, FitsNumber}
use Rattle.program_laws.proofs.Fitting.{IsAsked, IsRequest}

-- a command whose numbers and days may stand in a journal
abbrev pub FitsCommand : Command → Type 0
FitsCommand (command.Apply a) = IsRequest a
FitsCommand (command.Post change) = FitsChange change
FitsCommand (command.Day day) = FitsDay day
FitsCommand (command.Surrender number) = FitsNumber number
FitsCommand (command.Show number) = FitsNumber number

abbrev pub Asks : Entry → Type 0
Asks e = IsAsked e.call

abbrev pub AreAsked : List Entry → Type 0
AreAsked es = All (λ e. IsAsked e.call) es

none : (es : List Entry) → es ≡ [] → AreAsked es
none es e = All-same Asks es [] e (All-nil Asks)

one : (es : List Entry) (x : Entry) → es ≡ x ∷ [] → IsAsked x.call → AreAsked es
one es x e h = All-same Asks es (x ∷ []) e (All-cons Asks x [] h (All-nil Asks))

two : (es : List Entry) (x y : Entry) → es ≡ x ∷ y ∷ [] → IsAsked x.call → IsAsked y.call → AreAsked es
two es x y e h k = All-same Asks es (x ∷ y ∷ []) e (All-cons Asks x (y ∷ []) h (All-cons Asks y [] k (All-nil Asks)))

joined : (es front back : List Entry) → es ≡ front ++ back → AreAsked front → AreAsked back → AreAsked es
joined es front back e h k = All-same Asks es (front ++ back) e (All-append Asks front back h k)

called_asks : (caller : ℕ) (c : Call) (r : Reply) (es : List Entry) → IsAsked c → IsCalled caller c r es → AreAsked es
called_asks caller c r es asked h = by_test (is_full r) (λ all. none es (h.full all)) (λ room. one es (entry caller c r) (h.answered room) asked)

module _ (caller : ℕ) (a : Application) (request : IsRequest a) where
  attempt_asks : (r : Reply) (es : List Entry) → IsAttempt caller a r es → AreAsked es
  attempt_asks r es (version, w, is) = two es _ _ is tt request

  outdated_ask : (k : ℕ) (es : List Entry) → AreOutdated caller a k es → AreAsked es
  outdated_ask zero es is = none es is
  outdated_ask (suc k) es (front, last, far, (r, attempt, late), is) = joined es front last is (outdated_ask k front far) (attempt_asks r last attempt)

  look_asks : (es : List Entry) → IsLook caller es → AreAsked es
  look_asks es (version, is) = one es _ is tt

  concludes_asks : (r : Reply) (es : List Entry) → Concludes caller a r es → AreAsked es
  concludes_asks r es (answered is settled room) = attempt_asks r es is
  concludes_asks r es (lacks is lack) = look_asks es is
  concludes_asks r es (full is all) = none es is
  concludes_asks r es (full_between is all) = look_asks es is

  ends_ask : (k : ℕ) (r : Reply) (es : List Entry) → Ends caller a k r es → AreAsked es
  ends_ask k r es (concluded few c) = concludes_asks r es c
  ends_ask k r es (held eight c settled) = called_asks caller (call.Held a) r es request c

  decided_asks : (es : List Entry) (r : Reply) → IsDecided caller a es r → AreAsked es
  decided_asks es r h = joined es h.front h.last h.whole (outdated_ask h.tries h.front h.outdated) (ends_ask h.tries r h.last h.ends)

command_asks : (caller : ℕ) (c : Command) (es : List Entry) (r : Reply) → FitsCommand c → Unfolds caller c es r → AreAsked es
command_asks caller (command.Apply a) es r fits h = decided_asks caller a fits es r h
command_asks caller (command.Post change) es r fits h = called_asks caller (call.Post change) r es fits h
command_asks caller (command.Day day) es r fits h = called_asks caller (call.Day day) r es fits h
command_asks caller (command.Surrender number) es r fits h = called_asks caller (call.Surrender number) r es fits h
command_asks caller (command.Show number) es r fits h = called_asks caller (call.Show number) r es fits h

pub finished_ask : (caller : ℕ) (cs : List Command) (es : List Entry) → All FitsCommand cs → AreFinished caller cs es → AreAsked es
finished_ask caller [] es fit h = none es h
finished_ask caller (c ∷ cs) es fit (front, back, first, rest, is) =
    joined es front back is (command_asks caller c front first.last (All-head FitsCommand c cs fit) first.unfolds) (finished_ask caller cs back (All-tail FitsCommand c cs fit) rest)
