-- How many entries a command makes.
use Rattle.std.proofs.Common.{◌≡◌, ◌≤◌, ◌+◌, ◌*◌, List, ℕ, zero, suc, length, true, ap, refl, arith}
use Rattle.std.proofs.lemmas.List.{length-append}
use Rattle.trip_analysis.specs.declared.application.Application.{Application}
use Rattle.office_words.specs.declared.entry.Call.{Call}
use Rattle.office_words.specs.declared.entry.Command.{Command}
use Rattle.office_words.specs.declared.entry.Command.TheVariants as command
use Rattle.office_words.specs.declared.entry.Entry.{Entry}
use Rattle.office_words.specs.declared.entry.Reply.{Reply}
use Rattle.office_words.specs.declared.entry.Reply.TheVariants as reply
use Rattle.office_core.specs.Replies.{is_full}
use Rattle.analyst_pool.specs.Unfolds.{AreOutdated, Concludes, Ends, IsCalled, IsDecided, IsStopped, Unfolds, answered, concluded, full, full_between, held, lacks}
use Rattle.analyst_pool.proofs.Growing.{by_test}

outdated_length : (caller : ℕ) (a : Application) (k : ℕ) (es : List Entry) → AreOutdated caller a k es → length es ≡ 2 * k
outdated_length caller a zero es none = omega (arith, ap length none)
outdated_length caller a (suc k) es (front, last, far, (r, (version, w, pair), late), is) =
    omega (arith, ap length is, length-append front last, ap length pair, outdated_length caller a k front far)

called_length : (caller : ℕ) (c : Call) (r : Reply) (es : List Entry) → IsCalled caller c r es → length es ≤ 1
called_length caller c r es h = by_test (is_full r) (λ all. omega (arith, ap length (h.full all))) (λ room. omega (arith, ap length (h.answered room)))

concludes_length : (caller : ℕ) (a : Application) (r : Reply) (es : List Entry) → Concludes caller a r es → length es ≤ 2
concludes_length caller a r es (answered is settled room) = omega (arith, ap length is.2)
concludes_length caller a r es (lacks is lack) = omega (arith, ap length is.1)
concludes_length caller a r es (full is all) = omega (arith, ap length is)
concludes_length caller a r es (full_between is all) = omega (arith, ap length is.1)

decided_length : (caller : ℕ) (a : Application) (es : List Entry) (r : Reply) → IsDecided caller a es r → length es ≤ 17
decided_length caller a es r h = by h.ends
  where
    parts : length es ≡ length h.front + length h.last
    parts = omega (arith, ap length h.whole, length-append h.front h.last)

    by : Ends caller a h.tries r h.last → length es ≤ 17
    by (concluded few c) = omega (arith, parts, outdated_length caller a h.tries h.front h.outdated, concludes_length caller a r h.last c, few)
    by (held eight c settled) = omega (arith, parts, outdated_length caller a h.tries h.front h.outdated, called_length caller _ r h.last c, eight)

stopped_length : (caller : ℕ) (a : Application) (es : List Entry) (r : Reply) → is_full r ≡ true → IsDecided caller a es r → length es ≤ 16
stopped_length caller a es r all h = by h.ends
  where
    parts : length es ≡ length h.front + length h.last
    parts = omega (arith, ap length h.whole, length-append h.front h.last)

    by : Ends caller a h.tries r h.last → length es ≤ 16
    by (concluded few c) = omega (arith, parts, outdated_length caller a h.tries h.front h.outdated, concludes_length caller a r h.last c, few)
    by (held eight c settled) = omega (arith, parts, outdated_length caller a h.tries h.front h.outdated, ap length (c.full all), eight)

pub short : (caller : ℕ) (c : Command) (es : List Entry) (r : Reply) → Unfolds caller c es r → length es ≤ 17
short caller (command.Apply a) es r h = decided_length caller a es r h
short caller (command.Post change) es r h = omega (arith, called_length caller _ r es h)
short caller (command.Day day) es r h = omega (arith, called_length caller _ r es h)
short caller (command.Surrender number) es r h = omega (arith, called_length caller _ r es h)
short caller (command.Show number) es r h = omega (arith, called_length caller _ r es h)

pub shorter : (caller : ℕ) (c : Command) (es : List Entry) (most : ℕ) → IsStopped caller c es most → length es ≤ 16
shorter caller (command.Apply a) es most h = stopped_length caller a es (reply.Full most) refl h
shorter caller (command.Post change) es most h = omega (arith, called_length caller _ _ es h)
shorter caller (command.Day day) es most h = omega (arith, called_length caller _ _ es h)
shorter caller (command.Surrender number) es most h = omega (arith, called_length caller _ _ es h)
shorter caller (command.Show number) es most h = omega (arith, called_length caller _ _ es h)
