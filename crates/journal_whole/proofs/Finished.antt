-- The entries of finished commands come next, one after another, and leave the commands behind them.
use Rattle.std.proofs.Common.{◌≡◌, ◌<◌, ◌≤◌, ◌++◌, ◌∷◌, [], List, ℕ, zero, suc, Some, None, ap, sym, subst, refl, ◌∙◌, true, false, add-one, arith}
use Rattle.trip_analysis.specs.declared.application.Application.{Application}
use Rattle.office_words.specs.declared.entry.Call.TheVariants as call
use Rattle.office_words.specs.declared.entry.Command.{Command}
use Rattle.office_words.specs.declared.entry.Command.TheVariants as command
use Rattle.office_words.specs.declared.entry.Entry.{Entry}
use Rattle.office_words.specs.declared.entry.Reply.{Reply}
use Rattle.office_words.specs.declared.entry.Reply.TheVariants as reply
use Rattle.office_core.specs.Offices.{entry}
use Rattle.office_core.specs.Replies.{is_outdated}
use Rattle.analyst_pool.specs.Unfolds.{AreFinished, AreOutdated, Concludes, Ends, IsAttempt, IsDecided, IsFinished, answered, concluded, full, full_between, held, lacks, looked_at, submitted}
use Rattle.journal_whole.specs.Leaving.{AreNext, IsNext, IsTold, Left, after, after_all, again, ended, fresh, tried_on}
use Rattle.journal_whole.proofs.Nexts.{after_append, next_append}

-- the entries come next in what is left, and leave this
pub record Leads (l : Left) (es : List Entry) (m : Left) : Type 0 where
  pub next : AreNext l es
  pub left : after_all l es ≡ m

pub leads_join : (l m n : Left) (es fs : List Entry) → Leads l es m → Leads m fs n → Leads l (es ++ fs) n
leads_join l m n es fs g h = record {
  next = next_append l es fs g.next (subst (λ (k : Left). AreNext k fs) (sym g.left) h.next);
  left = after_append l es fs ∙ (ap (λ (k : Left). after_all k fs) g.left ∙ h.left);
}

leads_same : (l m : Left) (es fs : List Entry) → es ≡ fs → Leads l fs m → Leads l es m
leads_same l m es fs is h = subst (λ (xs : List Entry). Leads l xs m) (sym is) h

leads_one : (l m : Left) (e : Entry) → IsNext l e → after l e ≡ m → Leads l (e ∷ []) m
leads_one l m e next left = record { next = (next, tt); left = left }

pub outdated_again : (l : Left) (r : Reply) → is_outdated r ≡ true → tried_on l r ≡ again l
outdated_again l (reply.Outdated version cause) late = refl
outdated_again l _ late = absurd (grind (arith, late))

pub settled_ended : (l : Left) (r : Reply) → is_outdated r ≡ false → tried_on l r ≡ ended l
settled_ended l (reply.Outdated version cause) settled = absurd (grind (arith, settled))
settled_ended l _ settled = refl

-- an application of which so many attempts were out of date, and the commands behind it
pub trying : Application → List Command → ℕ → Left
trying a cs k = record { rest = command.Apply a ∷ cs; tries = k; looked = None }

outdated_told : (r : Reply) → is_outdated r ≡ true → IsTold r
outdated_told (reply.Outdated version cause) late = record { room = refl; memory = λ lack. absurd cc }
outdated_told _ late = absurd (grind (arith, late))

module _ (caller : ℕ) (a : Application) (cs : List Command) where
  abbrev at_tries : ℕ → Left
  at_tries k = record { rest = command.Apply a ∷ cs; tries = k; looked = None }

  -- an attempt leads on by its answer
  attempt_leads : (k : ℕ) (r : Reply) (es : List Entry) (m : Left) → k < 8 → IsTold r → IsAttempt caller a r es → tried_on (at_tries k) r ≡ m → Leads (at_tries k) es m
  attempt_leads k r es m few told (version, w, is) left =
      leads_same (at_tries k) m es (looked_at caller version ∷ submitted caller a version w r ∷ []) is (record {
        next = (
          record { goes_on = λ _. (version, refl); last = λ all. absurd (omega (arith, all, few)) },
          (record { goes_on = λ _. ((refl, refl), told); last = λ all. absurd (omega (arith, all, few)) }, tt),
        );
        left = by r left;
      })
    where
      by : (r : Reply) → tried_on (at_tries k) r ≡ m → tried_on (record { rest = command.Apply a ∷ cs; tries = k; looked = Some version }) r ≡ m
      by (reply.Outdated version cause) left = left
      by _ left = left

  outdated_leads : (k : ℕ) (es : List Entry) → k ≤ 8 → AreOutdated caller a k es → Leads (at_tries 0) es (at_tries k)
  outdated_leads zero es few none = leads_same (at_tries 0) (at_tries 0) es [] none (record { next = tt; left = refl })
  outdated_leads (suc k) es few (front, last, far, (r, attempt, late), is) =
      leads_same (at_tries 0) (at_tries (suc k)) es (front ++ last) is
      (leads_join (at_tries 0) (at_tries k) (at_tries (suc k)) front last (outdated_leads k front (omega (arith, few)) far)
      (attempt_leads k r last (at_tries (suc k)) (omega (arith, few)) (outdated_told r late) attempt (outdated_again (at_tries k) r late ∙ ap at_tries (add-one k))))

  concluded_leads : (k : ℕ) (r : Reply) (es : List Entry) → k ≤ 7 → IsTold r → Concludes caller a r es → Leads (at_tries k) es (fresh cs)
  concluded_leads k r es few told (answered attempt settled room) =
      attempt_leads k r es (fresh cs) (omega (arith, few)) told attempt (settled_ended (at_tries k) r settled)
  concluded_leads k r es few told (lacks is lack) = absurd (told.memory lack)
  concluded_leads k r es few told (full is all) = absurd (grind (arith, told.room, all))
  concluded_leads k r es few told (full_between is all) = absurd (grind (arith, told.room, all))

  ends_lead : (k : ℕ) (r : Reply) (es : List Entry) → IsTold r → Ends caller a k r es → Leads (at_tries k) es (fresh cs)
  ends_lead k r es told (concluded few c) = concluded_leads k r es few told c
  ends_lead k r es told (held eight c settled) =
      leads_same (at_tries k) (fresh cs) es (entry caller (call.Held a) r ∷ []) (c.answered told.room)
      (leads_one (at_tries k) (fresh cs) (entry caller (call.Held a) r)
      (record { goes_on = λ few. absurd (omega (arith, few, eight)); last = λ _. record { held = refl; told = told; settled = settled } }) refl)

  few_tries : (k : ℕ) (r : Reply) (es : List Entry) → Ends caller a k r es → k ≤ 8
  few_tries k r es (concluded few c) = omega (arith, few)
  few_tries k r es (held eight c settled) = omega (arith, eight)

  decided_leads : (r : Reply) (es : List Entry) → IsTold r → IsDecided caller a es r → Leads (at_tries 0) es (fresh cs)
  decided_leads r es told h =
      leads_same (at_tries 0) (fresh cs) es (h.front ++ h.last) h.whole
      (leads_join (at_tries 0) (at_tries h.tries) (fresh cs) h.front h.last
      (outdated_leads h.tries h.front (few_tries h.tries r h.last h.ends) h.outdated) (ends_lead h.tries r h.last told h.ends))

-- a finished command leads to the commands behind it
pub command_leads : (caller : ℕ) (c : Command) (cs : List Command) (es : List Entry) → IsFinished caller c es → Leads (fresh (c ∷ cs)) es (fresh cs)
command_leads caller (command.Apply a) cs es h = decided_leads caller a cs h.last es (record { room = h.room; memory = h.memory }) h.unfolds
command_leads caller (command.Post change) cs es h =
    leads_same (fresh (command.Post change ∷ cs)) (fresh cs) es _ (h.unfolds.answered h.room)
    (leads_one (fresh (command.Post change ∷ cs)) (fresh cs) (entry caller (call.Post change) h.last) (refl, record { room = h.room; memory = h.memory }) refl)
command_leads caller (command.Day day) cs es h =
    leads_same (fresh (command.Day day ∷ cs)) (fresh cs) es _ (h.unfolds.answered h.room)
    (leads_one (fresh (command.Day day ∷ cs)) (fresh cs) (entry caller (call.Day day) h.last) (refl, record { room = h.room; memory = h.memory }) refl)
command_leads caller (command.Surrender number) cs es h =
    leads_same (fresh (command.Surrender number ∷ cs)) (fresh cs) es _ (h.unfolds.answered h.room)
    (leads_one (fresh (command.Surrender number ∷ cs)) (fresh cs) (entry caller (call.Surrender number) h.last) (refl, record { room = h.room; memory = h.memory }) refl)
command_leads caller (command.Show number) cs es h =
    leads_same (fresh (command.Show number ∷ cs)) (fresh cs) es _ (h.unfolds.answered h.room)
    (leads_one (fresh (command.Show number ∷ cs)) (fresh cs) (entry caller (call.Show number) h.last) (refl, record { room = h.room; memory = h.memory }) refl)

-- and finished commands lead to those behind them
pub commands_lead : (caller : ℕ) (cs rest : List Command) (es : List Entry) → AreFinished caller cs es → Leads (fresh (cs ++ rest)) es (fresh rest)
commands_lead caller [] rest es none = leads_same (fresh rest) (fresh rest) es [] none (record { next = tt; left = refl })
commands_lead caller (c ∷ cs) rest es (front, back, one, others, is) =
    leads_same (fresh (c ∷ cs ++ rest)) (fresh rest) es (front ++ back) is
    (leads_join (fresh (c ∷ cs ++ rest)) (fresh (cs ++ rest)) (fresh rest) front back (command_leads caller c (cs ++ rest) front one) (commands_lead caller cs rest back others))
