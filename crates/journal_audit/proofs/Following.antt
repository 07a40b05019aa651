-- What an auditor has behind one entry more.
use Rattle.std.proofs.Common.{◌≡◌, ◌≤◌, ◌+◌, ◌++◌, ◌∷◌, [], ℕ, List, length, ap, sym, subst, refl, ◌∙◌, arith}
use Rattle.std.proofs.lemmas.List.{append-nil, length-append}
use Rattle.restriction_log.specs.declared.change.Change.{Change}
use Rattle.trip_analysis.specs.Bases.{BaseLists}
use Rattle.office_words.specs.declared.entry.Call.{Call}
use Rattle.office_words.specs.declared.entry.Call.TheVariants as call
use Rattle.office_words.specs.declared.entry.Reply.{Reply}
use Rattle.office_words.specs.declared.entry.Reply.TheVariants as reply
use Rattle.office_core.specs.Machine.{Machine, after, with_day, with_posting, with_surrender}
use Rattle.office_core.specs.Registers.{RegisterParts, stored_now}
use Rattle.journal_audit.specs.declared.versions.Versions.{Versions}
use Rattle.journal_audit.specs.Versions.{AreVersions, versions_of}
use Rattle.journal_audit.proofs.Keeping.{versions_stay}

-- at most one posting more
pub record OneMore (m next : Machine) : Type 0 where
  pub more : List Change
  pub few : length more ≤ 1
  pub postings : next.postings ≡ m.postings ++ more

same : (m next : Machine) → next.postings ≡ m.postings → OneMore m next
same m next is = record { more = []; few = omega arith; postings = is ∙ sym (append-nil m.postings) }

posted : (base : BaseLists) (m : Machine) (change : Change) (r : Reply) → OneMore m (with_posting base m change r)
posted base m change (reply.Posted version recalled) = record { more = change ∷ []; few = omega arith; postings = refl }
posted base m change _ = same m m refl

day_set : (m : Machine) (r : Reply) → OneMore m (with_day m r)
day_set m (reply.DayIs day) = same m (with_day m (reply.DayIs day)) refl
day_set m _ = same m m refl

given_back : (m : Machine) (number : ℕ) (r : Reply) → OneMore m (with_surrender m number r)
given_back m number reply.Surrendered = same m (with_surrender m number reply.Surrendered) refl
given_back m number _ = same m m refl

pub one_more : (base : BaseLists) (m : Machine) (caller : ℕ) (c : Call) (r : Reply) → OneMore m (after base m caller c r)
one_more base m caller call.Snapshot r = same m m refl
one_more base m caller (call.Submit a p) r = same m (after base m caller (call.Submit a p) r) refl
one_more base m caller (call.Held a) r = same m (after base m caller (call.Held a) r) refl
one_more base m caller (call.Post change) r = posted base m change r
one_more base m caller (call.Day day) r = day_set m r
one_more base m caller (call.Surrender number) r = given_back m number r
one_more base m caller (call.Show number) r = same m m refl

-- the office that is gone through again goes on by one entry
module _ (old new : RegisterParts) (caller : ℕ) (c : Call) (r : Reply) (base : new.base ≡ old.base) (machine : new.machine ≡ after old.base old.machine caller c r) where
  step : OneMore old.machine new.machine
  step = subst (OneMore old.machine) (sym machine) (one_more old.base old.machine caller c r)

  pub still_versions : (v : Versions) → AreVersions (stored_now old) v → AreVersions (stored_now new) v
  still_versions v are = versions_stay (stored_now old) (stored_now new) v step.more (ap (λ (b : BaseLists). b.roads) base) step.postings are

  pub one_behind : (v : Versions) → length v.kept.items ≡ versions_of (stored_now old) → versions_of (stored_now new) ≤ length v.kept.items + 1
  one_behind v all = omega (arith, all, ap length step.postings, length-append old.machine.postings step.more, step.few)
