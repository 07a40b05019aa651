-- No entry of finished commands says that no memory was left.
use Rattle.std.proofs.Common.{◌≡◌, ◌≢◌, ◌++◌, ◌∷◌, [], List, ℕ, zero, suc, true, false, arith}
use Rattle.std.proofs.lemmas.List.Elements.{All-append, All-cons, All-nil, All-same}
use Rattle.trip_analysis.specs.declared.application.Application.{Application}
use Rattle.office_words.specs.declared.entry.Call.{Call}
use Rattle.office_words.specs.declared.entry.Call.TheVariants as call
use Rattle.office_words.specs.declared.entry.Command.{Command}
use Rattle.office_words.specs.declared.entry.Command.TheVariants as command
use Rattle.office_words.specs.declared.entry.Entry.{Entry}
use Rattle.office_words.specs.declared.entry.Reply.{Reply}
use Rattle.office_words.specs.declared.entry.Reply.TheVariants as reply
use Rattle.office_core.specs.Offices.{entry}
use Rattle.office_core.specs.Replies.{is_full, is_outdated}
use Rattle.analyst_pool.specs.Laws.{FoundMemory}
use Rattle.analyst_pool.specs.Unfolds.{AreFinished, AreOutdated, Concludes, Ends, IsAttempt, IsCalled, Unfolds, answered, concluded, full, full_between, held, lacks, looked_at, submitted}

-- an entry that does not say that no memory was left
abbrev Found : Entry → Type 0
Found e = e.reply ≢ reply.NoMemory

outdated_memory : (r : Reply) → is_outdated r ≡ true → r ≢ reply.NoMemory
outdated_memory reply.NoMemory late is = absurd (grind (arith, late))
outdated_memory _ late is = absurd cc

both : (front back es : List Entry) → es ≡ front ++ back → FoundMemory front → FoundMemory back → FoundMemory es
both front back es is f g = All-same Found es (front ++ back) is (All-append Found front back f g)

alone : (e : Entry) → e.reply ≢ reply.NoMemory → FoundMemory (e ∷ [])
alone e memory = All-cons Found e [] memory (All-nil Found)

attempt_found : (caller : ℕ) (a : Application) (r : Reply) (es : List Entry) → r ≢ reply.NoMemory → IsAttempt caller a r es → FoundMemory es
attempt_found caller a r es memory (version, w, is) = let look = looked_at caller version in let submit = submitted caller a version w r in
    both (look ∷ []) (submit ∷ []) es is (alone look (λ lack. absurd cc)) (alone submit memory)

called_found : (caller : ℕ) (c : Call) (r : Reply) (es : List Entry) → is_full r ≡ false → r ≢ reply.NoMemory → IsCalled caller c r es → FoundMemory es
called_found caller c r es room memory h = All-same Found es (entry caller c r ∷ []) (h.answered room) (alone (entry caller c r) memory)

outdated_found : (caller : ℕ) (a : Application) (k : ℕ) (es : List Entry) → AreOutdated caller a k es → FoundMemory es
outdated_found caller a zero es none = All-same Found es [] none (All-nil Found)
outdated_found caller a (suc k) es (front, last, far, (r, attempt, late), is) =
    both front last es is (outdated_found caller a k front far) (attempt_found caller a r last (outdated_memory r late) attempt)

concluded_found : (caller : ℕ) (a : Application) (r : Reply) (es : List Entry) → is_full r ≡ false → r ≢ reply.NoMemory → Concludes caller a r es → FoundMemory es
concluded_found caller a r es room memory (answered is settled room') = attempt_found caller a r es memory is
concluded_found caller a r es room memory (lacks is lack) = absurd (memory lack)
concluded_found caller a r es room memory (full is all) = absurd (grind (arith, room, all))
concluded_found caller a r es room memory (full_between is all) = absurd (grind (arith, room, all))

ends_found : (caller : ℕ) (a : Application) (k : ℕ) (r : Reply) (es : List Entry) → is_full r ≡ false → r ≢ reply.NoMemory → Ends caller a k r es → FoundMemory es
ends_found caller a k r es room memory (concluded few c) = concluded_found caller a r es room memory c
ends_found caller a k r es room memory (held eight c settled) = called_found caller (call.Held a) r es room memory c

unfolded_found : (caller : ℕ) (c : Command) (r : Reply) (es : List Entry) → is_full r ≡ false → r ≢ reply.NoMemory → Unfolds caller c es r → FoundMemory es
unfolded_found caller (command.Apply a) r es room memory h =
    both h.front h.last es h.whole (outdated_found caller a h.tries h.front h.outdated) (ends_found caller a h.tries r h.last room memory h.ends)
unfolded_found caller (command.Post change) r es room memory h = called_found caller _ r es room memory h
unfolded_found caller (command.Day day) r es room memory h = called_found caller _ r es room memory h
unfolded_found caller (command.Surrender number) r es room memory h = called_found caller _ r es room memory h
unfolded_found caller (command.Show number) r es room memory h = called_found caller _ r es room memory h

pub finished_found : (caller : ℕ) (cs : List Command) (es : List Entry) → AreFinished caller cs es → FoundMemory es
finished_found caller [] es none = All-same Found es [] none (All-nil Found)
finished_found caller (c ∷ cs) es (front, back, first, rest, is) =
    both front back es is (unfolded_found caller c first.last front first.room first.memory first.unfolds) (finished_found caller cs back rest)
