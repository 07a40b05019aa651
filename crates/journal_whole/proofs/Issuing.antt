-- A whole history issues at most as many permits as there are commands.
use Rattle.std.proofs.Common.{◌≡◌, ◌<◌, ◌≤◌, ◌+◌, ◌∷◌, [], List, ℕ, zero, suc, Bool, true, false, cond, eqb, eq-eqb, ne_eqb, All, filter, map, length, ap, sym, refl, arith, inl, inr}
use Rattle.std.proofs.lemmas.Bool.{cases_eq}
use Rattle.std.proofs.lemmas.List.Elements.{All-head, All-tail}
use Rattle.trip_analysis.specs.declared.application.Application.{Application}
use Rattle.office_words.specs.declared.entry.Call.TheVariants as call
use Rattle.office_words.specs.declared.entry.Command.{Command}
use Rattle.office_words.specs.declared.entry.Command.TheVariants as command
use Rattle.office_words.specs.declared.entry.Entry.{Entry}
use Rattle.office_words.specs.declared.entry.Reply.{Reply}
use Rattle.office_words.specs.declared.entry.Reply.TheVariants as reply
use Rattle.office_core.specs.Happened.{issued_in}
use Rattle.office_core.specs.Machine.{entries_by}
use Rattle.office_core.specs.Offices.{entry}
use Rattle.office_core.specs.Replies.{is_full, is_outdated}
use Rattle.office_core.proofs.Counts.{issued-append, issued-cons, one_if}
use Rattle.analyst_pool.specs.Unfolds.{AreFinished, AreOutdated, Concludes, Ends, IsAttempt, IsDecided, IsFinished, answered, concluded, full, full_between, held, lacks, looked_at, submitted}
use Rattle.day_text.specs.Scripts.{script_of}
use Rattle.day_text.specs.declared.orders.Order.{Order}
use Rattle.journal_whole.specs.Asking.{WholeHistoriesIssueFew}

-- a reply issues at most one permit, and none where a proposal was out of date
one_most : (r : Reply) → one_if r ≤ 1
one_most (reply.Issued number version routes) = omega arith
one_most _ = omega arith

late_issues_none : (r : Reply) → is_outdated r ≡ true → one_if r ≡ 0
late_issues_none (reply.Outdated version cause) late = refl
late_issues_none _ late = absurd (grind (arith, late))

-- so does one entry
one_issues : (e : Entry) (es : List Entry) → es ≡ e ∷ [] → issued_in es ≤ 1
one_issues e es is = omega (arith, ap issued_in is, issued-cons e [], one_most e.reply)

module _ (caller : ℕ) (a : Application) where
  attempt_issues : (r : Reply) (es : List Entry) → IsAttempt caller a r es → issued_in es ≡ one_if r
  attempt_issues r es (version, w, is) = omega (arith, ap issued_in is, issued-cons (submitted caller a version w r) [])

  -- attempts that were out of date issue none
  outdated_issue : (k : ℕ) (es : List Entry) → AreOutdated caller a k es → issued_in es ≡ 0
  outdated_issue zero es none = ap issued_in none
  outdated_issue (suc k) es (front, last, far, (r, attempt, late), is) =
      omega (arith, ap issued_in is, issued-append front last, outdated_issue k front far, attempt_issues r last attempt, late_issues_none r late)

  concluded_issues : (r : Reply) (es : List Entry) → Concludes caller a r es → issued_in es ≤ 1
  concluded_issues r es (answered attempt settled room) = omega (arith, attempt_issues r es attempt, one_most r)
  concluded_issues r es (lacks is lack) = one_issues (looked_at caller is.0) es is.1
  concluded_issues r es (full is all) = omega (arith, ap issued_in is)
  concluded_issues r es (full_between is all) = one_issues (looked_at caller is.0) es is.1

  ends_issue : (k : ℕ) (r : Reply) (es : List Entry) → is_full r ≡ false → Ends caller a k r es → issued_in es ≤ 1
  ends_issue k r es room (concluded few c) = concluded_issues r es c
  ends_issue k r es room (held eight c settled) = one_issues (entry caller (call.Held a) r) es (c.answered room)

  decided_issues : (r : Reply) (es : List Entry) → is_full r ≡ false → IsDecided caller a es r → issued_in es ≤ 1
  decided_issues r es room h =
      omega (arith, ap issued_in h.whole, issued-append h.front h.last, outdated_issue h.tries h.front h.outdated, ends_issue h.tries r h.last room h.ends)

-- a finished command issues at most one permit
command_issues : (caller : ℕ) (c : Command) (es : List Entry) → IsFinished caller c es → issued_in es ≤ 1
command_issues caller (command.Apply a) es h = decided_issues caller a h.last es h.room h.unfolds
command_issues caller (command.Post change) es h = one_issues (entry caller (call.Post change) h.last) es (h.unfolds.answered h.room)
command_issues caller (command.Day day) es h = one_issues (entry caller (call.Day day) h.last) es (h.unfolds.answered h.room)
command_issues caller (command.Surrender number) es h = one_issues (entry caller (call.Surrender number) h.last) es (h.unfolds.answered h.room)
command_issues caller (command.Show number) es h = one_issues (entry caller (call.Show number) h.last) es (h.unfolds.answered h.room)

finished_issue : (caller : ℕ) (cs : List Command) (es : List Entry) → AreFinished caller cs es → issued_in es ≤ length cs
finished_issue caller [] es none = omega (arith, ap issued_in none)
finished_issue caller (c ∷ cs) es (front, back, one, others, is) =
    omega (arith, ap issued_in is, issued-append front back, command_issues caller c front one, finished_issue caller cs back others)

-- f 0 + f 1 + .. of the first n
abbrev sum_first : (ℕ → ℕ) → ℕ → ℕ
sum_first f zero = 0
sum_first f (suc n) = sum_first f n + f n

sum_least : (f g : ℕ → ℕ) (n : ℕ) → ((i : ℕ) → i < n → f i ≤ g i) → sum_first f n ≤ sum_first g n
sum_least f g zero less = omega arith
sum_least f g (suc n) less = omega (arith, sum_least f g n (λ i near. less i (omega (arith, near))), less n (omega arith))

sum_parts : (f g h : ℕ → ℕ) (n : ℕ) → ((i : ℕ) → f i ≡ g i + h i) → sum_first f n ≡ sum_first g n + sum_first h n
sum_parts f g h zero parts = omega arith
sum_parts f g h (suc n) parts = omega (arith, sum_parts f g h n parts, parts n)

sum_zero : (n : ℕ) → sum_first (λ i. 0) n ≡ 0
sum_zero zero = refl
sum_zero (suc n) = omega (arith, sum_zero n)

-- k at one place, and 0 at all others
abbrev at_place : ℕ → ℕ → ℕ → ℕ
at_place place k i = cond (eqb place i) k 0

at_here : (place k i : ℕ) → place ≡ i → at_place place k i ≡ k
at_here place k i here = ap (λ (b : Bool). cond b k 0) (eq-eqb place i here)

at_other : (place k i : ℕ) → (place ≡ i → ⊥) → at_place place k i ≡ 0
at_other place k i other = ap (λ (b : Bool). cond b k 0) (ne_eqb place i other)

sum_before : (place k n : ℕ) → n ≤ place → sum_first (at_place place k) n ≡ 0
sum_before place k zero far = refl
sum_before place k (suc n) far = omega (arith, sum_before place k n (omega (arith, far)), at_other place k n (λ here. omega (arith, here, far)))

sum_behind : (place k n : ℕ) → place < n → sum_first (at_place place k) n ≡ k
sum_behind place k zero near = absurd (omega (arith, near))
sum_behind place k (suc n) near = elim (cases_eq place n) [
  | inl here ↦ omega (arith, sum_before place k n (omega (arith, here)), at_here place k n here)
  | inr other ↦ omega (arith, sum_behind place k n (omega (arith, near, other)), at_other place k n other)
]

sum_place : (place k n : ℕ) → sum_first (at_place place k) n ≤ k
sum_place place k zero = omega arith
sum_place place k (suc n) = elim (cases_eq place n) [
  | inl here ↦ omega (arith, sum_before place k n (omega (arith, here)), at_here place k n here)
  | inr other ↦ omega (arith, sum_place place k n, at_other place k n other)
]

-- how much one entry adds to what its caller's entries issue, and to that of others
issued_more : (e : Entry) (es : List Entry) (i : ℕ) → issued_in (entries_by i (e ∷ es)) ≡ at_place e.caller (one_if e.reply) i + issued_in (entries_by i es)
issued_more e es i = by (eqb e.caller i)
  where
    by : (b : Bool) → issued_in (cond b (e ∷ entries_by i es) (entries_by i es)) ≡ cond b (one_if e.reply) 0 + issued_in (entries_by i es)
    by true = issued-cons e (entries_by i es)
    by false = omega arith

-- what is issued is issued in the entries of the callers, of whom there are n
issued_each : (n : ℕ) (es : List Entry) → All (λ e. e.caller < n) es → issued_in es ≡ sum_first (λ i. issued_in (entries_by i es)) n
issued_each n [] callers = sym (sum_zero n)
issued_each n (e ∷ es) callers =
    omega (
      arith,
      issued-cons e es,
      issued_each n es (All-tail (λ (d : Entry). d.caller < n) e es callers),
      sum_parts (λ i. issued_in (entries_by i (e ∷ es))) (at_place e.caller (one_if e.reply)) (λ i. issued_in (entries_by i es)) n (issued_more e es),
      sum_behind e.caller (one_if e.reply) n (All-head (λ (d : Entry). d.caller < n) e es callers),
    )

-- how long one command makes its actor's script, and those of others
script_more : (o : Order) (os : List Order) (i : ℕ) → length (script_of i (o ∷ os)) ≡ at_place o.actor 1 i + length (script_of i os)
script_more o os i = by (eqb o.actor i)
  where
    by : (b : Bool) → length (map (λ (d : Order). d.command) (cond b (o ∷ filter (λ d. eqb d.actor i) os) (filter (λ d. eqb d.actor i) os))) ≡ cond b 1 0 + length (script_of i os)
    by true = omega arith
    by false = omega arith

-- n scripts have at most all of the commands
scripts_few : (n : ℕ) (orders : List Order) → sum_first (λ i. length (script_of i orders)) n ≤ length orders
scripts_few n [] = omega (arith, sum_zero n)
scripts_few n (o ∷ os) =
    omega (
      arith,
      scripts_few n os,
      sum_place o.actor 1 n,
      sum_parts (λ i. length (script_of i (o ∷ os))) (at_place o.actor 1) (λ i. length (script_of i os)) n (script_more o os),
    )

pub whole_issued : WholeHistoriesIssueFew
whole_issued actors orders es whole =
    omega (
      arith,
      issued_each actors es whole.callers,
      scripts_few actors orders,
      sum_least (λ i. issued_in (entries_by i es)) (λ i. length (script_of i orders)) actors
          (λ i near. finished_issue i (script_of i orders) (entries_by i es) (whole.commands i near)),
    )
