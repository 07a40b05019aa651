-- What is known of each caller's entries, and what follows of all entries.
use Rattle.std.proofs.Common.{◌≡◌, ◌<◌, ◌≤◌, ℕ, Bool, true, false, List, [], ◌∷◌, All, length, cond, eqb, eq-eqb, refl, ap, sym, ◌∙◌, subst, arith}
use mathlib.Core.Logic.{dite}
use native.Mathlib.Decide.{ℕ_discrete}
use Rattle.std.proofs.lemmas.List.Elements.{All-cons, All-head, All-nil, All-tail}
use Rattle.road_graph.specs.Roads.{IsRoads}
use Rattle.day_text.specs.Days.{DayParts}
use Rattle.day_text.specs.Scripts.{script_of}
use Rattle.office_words.specs.declared.entry.Entry.{Entry}
use Rattle.office_core.specs.Machine.{entries_by, opened}
use Rattle.analyst_pool.specs.Laws.{RunsAreOne}
use Rattle.analyst_pool.specs.Unfolds.{AreFinished}
use Rattle.day_run.specs.Served.{IsServed}

-- what holds of each caller's entries holds of all
pub all_by : (P : Entry → Type 0) (n : ℕ) (es : List Entry) → All (λ e. e.caller < n) es → ((i : ℕ) → i < n → All P (entries_by i es)) → All P es
all_by P n [] callers each = All-nil P
all_by P n (e ∷ es) callers each =
    let low = All-head (λ (d : Entry). d.caller < n) e es callers in
    let mine : entries_by e.caller (e ∷ es) ≡ e ∷ entries_by e.caller es =
    ap (λ b. cond b (e ∷ entries_by e.caller es) (entries_by e.caller es)) (eq-eqb e.caller e.caller refl) in
    All-cons P e es (All-head P e (entries_by e.caller es) (subst (All P) mine (each e.caller low)))
    (all_by P n es (All-tail (λ (d : Entry). d.caller < n) e es callers) (λ i near. behind (eqb e.caller i) (entries_by i es) (each i near)))
  where
    behind : (b : Bool) (xs : List Entry) → All P (cond b (e ∷ xs) xs) → All P xs
    behind true xs all = All-tail P e xs all
    behind false xs all = all

-- where all entries are of caller 0, these are all
pub lone_by : (es : List Entry) → All (λ e. e.caller < 1) es → entries_by 0 es ≡ es
lone_by [] callers = refl
lone_by (e ∷ es) callers =
    let mine : e.caller ≡ 0 = omega (arith, All-head (λ (d : Entry). d.caller < 1) e es callers) in
    ap (λ b. cond b (e ∷ entries_by 0 es) (entries_by 0 es)) (eq-eqb e.caller 0 mine) ∙ ap (λ l. e ∷ l) (lone_by es (All-tail (λ (d : Entry). d.caller < 1) e es callers))

-- where there is no caller there is no entry
pub none_by : (es : List Entry) → All (λ e. e.caller < 0) es → es ≡ []
none_by [] callers = refl
none_by (e ∷ es) callers = absurd (omega (arith, All-head (λ (d : Entry). d.caller < 0) e es callers))

-- a day of at most one actor is served by one history
pub lone : RunsAreOne → (file : DayParts) (history other : List Entry) → IsRoads file.base.roads → length file.actors ≤ 1 → IsServed file history → IsServed file other → other ≡ history
lone one file history other roads few h k = dite (ℕ_discrete (length file.actors) 1)
    (λ is. let mine = whole is history h in let theirs = whole is other k in
    one file.base (opened file.day) 0 (script_of 0 file.commands) other history roads theirs mine k.legal h.legal)
    (λ not_one. let none : length file.actors ≡ 0 = omega (arith, few, not_one) in
    none_by other (subst (λ (n : ℕ). All (λ e. e.caller < n) other) none k.callers) ∙ sym (none_by history (subst (λ (n : ℕ). All (λ e. e.caller < n) history) none h.callers)))
  where
    whole : length file.actors ≡ 1 → (es : List Entry) → IsServed file es → AreFinished 0 (script_of 0 file.commands) es
    whole is es s = subst (AreFinished 0 (script_of 0 file.commands)) (lone_by es (subst (λ (n : ℕ). All (λ e. e.caller < n) es) is s.callers)) (s.commands 0 (omega (arith, is)))
