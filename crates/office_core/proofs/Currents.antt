-- What was found in the state in which it is answered is not out of date.
use Rattle.std.proofs.Common.{◌≡◌, ℕ, ◌+◌, false, List, length, subst, refl, arith, Option, Some, None}
use Rattle.road_graph.specs.Roads.{IsRoads}
use Rattle.restriction_log.specs.States.{InForce}
use Rattle.trip_analysis.specs.declared.application.Application.{Application}
use Rattle.trip_analysis.specs.declared.finding.Proposal.{Proposal}
use Rattle.trip_analysis.specs.declared.finding.What.{What}
use Rattle.trip_analysis.specs.Bases.{BaseLists}
use Rattle.trip_analysis.specs.Applications.{Sound}
use Rattle.trip_analysis.specs.Findings.{HoldsIn, IsFinding}
use Rattle.office_words.specs.declared.entry.Call.TheVariants as call
use Rattle.office_words.specs.declared.entry.Reply.{Reply}
use Rattle.office_core.specs.Replies.{is_free, is_late, is_outdated}
use Rattle.office_core.specs.Machine.{IsAnswer, IsFound, Machine, reply_in, state_in, version_of}
use Rattle.office_core.proofs.Cases.{Cases, apply_found, given, held_given, none_early}
use Rattle.office_core.proofs.Founds.{found_holds, seen_now}

abbrev IsCurrent : Reply → Type 0
IsCurrent r = is_outdated r ≡ false

some_none : {A : Type 0} {x : Option A} (y : A) → x ≡ None → x ≡ Some y → ⊥
some_none y e f = absurd (grind (arith, e, f))

-- in each case of what holds in a state
holds_current : (base : BaseLists) (state : InForce) (v : ℕ) (day : List ℕ) (number : ℕ) (a : Application) (w : What) → HoldsIn base state a.truck w → Cases base state v day number a w IsCurrent
holds_current base state v day number a w holds = record {
  not_needed = λ _. refl;
  no_road = λ _ _ _. refl;
  now_fails = λ routes f is fails. absurd (some_none f (subst (HoldsIn base state a.truck) is holds) fails);
  issued = λ _ _ _. refl;
  refused = λ _ _ _ _. refl;
  now_meets = λ s is meets. absurd (grind (arith, subst (HoldsIn base state a.truck) is holds, meets));
  cut_refused = λ _ _ _ _ _ _ _ _. refl;
  cut_meets = λ nodes s is meets. absurd (some_none s (subst (HoldsIn base state a.truck) is holds) meets);
}

-- the answer to what is found now, where it is looked for
found_current : (base : BaseLists) (m : Machine) (a : Application) (w : What) → IsRoads base.roads → Sound base a → (is_late m.day a ≡ false → is_free base a ≡ false → IsFinding base (state_in base m) a w) → IsCurrent (reply_in base m a w)
found_current base m a w roads sound found = let state = state_in base m in
    apply_found base state (version_of m) m.day (length m.permits + 1) a w IsCurrent (λ _. refl) (λ _. refl)
    (λ early needed. holds_current base state (version_of m) m.day (length m.permits + 1) a w (found_holds base state a w roads sound (found early needed)))

-- what the office finds itself is never out of date
pub held_current : (base : BaseLists) (m : Machine) (caller : ℕ) (a : Application) (r : Reply) → IsRoads base.roads → Sound base a → IsAnswer base m caller (call.Held a) r → is_outdated r ≡ false
held_current base m caller a r roads sound answer =
    held_given IsCurrent base m caller a r (λ w found. found_current base m a w roads sound (λ early needed. found (none_early base m.day a early needed))) refl answer

-- a proposal of the current version is never out of date
pub submit_current : (base : BaseLists) (m : Machine) (caller : ℕ) (a : Application) (p : Proposal) (r : Reply) → IsRoads base.roads → IsFound base m a p → p.seen ≡ version_of m → IsAnswer base m caller (call.Submit a p) r → is_outdated r ≡ false
submit_current base m caller a p r roads is now answer = let found = subst (λ (s : InForce). IsFinding base s a p.what) (seen_now base m p.seen now) is.found in
    given IsCurrent (reply_in base m a p.what) r (found_current base m a p.what roads is.sound (λ _ _. found)) refl answer
