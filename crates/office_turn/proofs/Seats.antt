-- The views after one of them changes or one more comes.
use Rattle.std.proofs.Common.{◌≡◌, ℕ, zero, suc, ◌+◌, ◌<◌, ◌≤◌, ◌≢◌, true, false, List, [], ◌∷◌, ◌++◌, Some, None, length, length-append, set, sym, refl, ap, ◌∙◌, subst, ⊎_elim, arith, length-set}
use mathlib.Core.Option.{some, some-injective, some-ne-none}
use mathlib.Core.Logic.{dite}
use native.Mathlib.Decide.{ℕ_discrete}
use lib.ListN.{get_elem?}
use Rattle.atomic_table.proofs.Lists.{at_set, set_here, set_else, at_longer}
use Rattle.office_turn.specs.declared.view.View.{View}
use Rattle.office_turn.specs.declared.view.Receipt.{Receipt}
use Rattle.office_turn.specs.Rule.{Tickets, HaveNumbers, IsBlank, spent_count, one_if}
use Rattle.office_turn.specs.Steps.{spent}
use Rattle.office_turn.proofs.Cases.{false_not_true, bool_cases, some_not_none}
use Rattle.office_turn.proofs.Places.{one_at, at_end, within}

module _ {A : Type 0} where
  -- a property of each item, after one has changed
  pub seats_stay : (P : ℕ → A → Type 0) (vs : List A) (me : ℕ) (w : A) → P me w → ((j : ℕ) (d : A) → j ≢ me → get_elem? vs j ≡ some d → P j d)
      → (j : ℕ) (d : A) → get_elem? (set vs me w) j ≡ some d → P j d
  seats_stay P vs me w mine others j d e = ⊎_elim (λ (t : (j ≡ me) × (w ≡ d)). subst (λ (x : ℕ × A). P x.0 x.1) (λ i. (sym t.0 i, t.1 i)) mine)
      (λ (t : (j ≢ me) × (get_elem? vs j ≡ some d)). others j d t.0 t.1) (at_set vs me j w d e)

  -- a property of each item, after one more has come
  pub seats_more : (P : ℕ → A → Type 0) (vs : List A) (w : A) → P (length vs) w → ((j : ℕ) (d : A) → get_elem? vs j ≡ some d → P j d) → (j : ℕ) (d : A) → get_elem? (vs ++ w ∷ []) j ≡ some d → P j d
  seats_more P vs w mine others j d e = ⊎_elim (λ (t : get_elem? vs j ≡ some d). others j d t) (λ (t : (j ≡ length vs) × (w ≡ d)). subst (λ (x : ℕ × A). P x.0 x.1) (λ i. (sym t.0 i, t.1 i)) mine) (at_end vs w d j e)

module _ {E T : Type 0} where
  abbrev pub Has : List (View E T) → ℕ → Type 0
  Has vs k = (j : ℕ) × (u : View E T) × (get_elem? vs j ≡ some u) × (u.ticket ≡ Some k)

  abbrev pub Once : List (View E T) → Type 0
  Once vs = (i j : ℕ) (u w : View E T) (k : ℕ) → get_elem? vs i ≡ some u → get_elem? vs j ≡ some w → u.ticket ≡ Some k → w.ticket ≡ Some k → i ≡ j

  -- where the seat had the ticket or has it now, each ticket that was had is had
  pub still_has : (vs : List (View E T)) (me : ℕ) (v w : View E T) (k : ℕ) → get_elem? vs me ≡ some v → (v.ticket ≡ Some k → w.ticket ≡ Some k) → me < length vs → Has vs k → Has (set vs me w) k
  still_has vs me v w k at go near h = dite (ℕ_discrete h.0 me)
      (λ e. (me, w, set_here vs me w near, go (ap (λ (x : View E T). x.ticket) (one_at vs me h.0 v h.1 at h.2 (sym e)) ∙ h.3)))
      (λ ne. (h.0, h.1, set_else vs me h.0 w ne ∙ h.2, h.3))

  -- tickets that are new to a seat are no other's
  pub still_once : (vs : List (View E T)) (me : ℕ) (w : View E T) → Once vs → ((j : ℕ) (u : View E T) (k : ℕ) → j ≢ me → get_elem? vs j ≡ some u → w.ticket ≡ Some k → u.ticket ≡ Some k → ⊥) → Once (set vs me w)
  still_once vs me w once new = λ i j u x k p q a b.
      seats_stay (λ i u. (j : ℕ) (x : View E T) → get_elem? (set vs me w) j ≡ some x → u.ticket ≡ Some k → x.ticket ≡ Some k → i ≡ j) vs me w
      (λ j x q. seats_stay (λ j x. w.ticket ≡ Some k → x.ticket ≡ Some k → me ≡ j) vs me w (λ _ _. refl) (λ j d other at a b. absurd (new j d k other at a b)) j x q)
      (λ i d other at j x q. seats_stay (λ j x. d.ticket ≡ Some k → x.ticket ≡ Some k → i ≡ j) vs me w (λ a b. absurd (new i d k other at b a)) (λ j y _ there a b. once i j d y k at there a b) j x q)
      i u p j x q a b

  pub once_more : (vs : List (View E T)) (w : View E T) → w.ticket ≡ None → Once vs → Once (vs ++ w ∷ [])
  once_more vs w none_yet once i j u x k p q a b =
      seats_more (λ i u. (j : ℕ) (x : View E T) → get_elem? (vs ++ w ∷ []) j ≡ some x → u.ticket ≡ Some k → x.ticket ≡ Some k → i ≡ j) vs w
      (λ j x q a b. absurd (some_not_none k (sym a ∙ none_yet)))
      (λ i d at j x q a b. seats_more (λ j x. x.ticket ≡ Some k → i ≡ j) vs w (λ b. absurd (some_not_none k (sym b ∙ none_yet))) (λ j y there b. once i j d y k at there a b) j x q b)
      i u p j x q a b

  pub tally-set : (vs : List (View E T)) (i : ℕ) (v w : View E T) → get_elem? vs i ≡ some v → spent_count (set vs i w) + one_if v.is_spent ≡ spent_count vs + one_if w.is_spent
  tally-set [] i v w e = absurd (some-ne-none v (sym e))
  tally-set (x ∷ xs) zero v w e = let same = ap (λ (y : View E T). one_if y.is_spent) (some-injective x v e) in omega (arith, same)
  tally-set (x ∷ xs) (suc i) v w e = omega (arith, tally-set xs i v w e)

  pub same_tally : (vs : List (View E T)) (i : ℕ) (v w : View E T) → get_elem? vs i ≡ some v → v.is_spent ≡ false → w.is_spent ≡ false → spent_count (set vs i w) ≡ spent_count vs
  same_tally vs i v w e a b = let x : one_if v.is_spent ≡ 0 = ap one_if a in let y : one_if w.is_spent ≡ 0 = ap one_if b in omega (arith, tally-set vs i v w e, x, y)

  pub tally-append : (vs : List (View E T)) (w : View E T) → spent_count (vs ++ w ∷ []) ≡ spent_count vs + one_if w.is_spent
  tally-append [] w = omega arith
  tally-append (x ∷ xs) w = omega (arith, tally-append xs w)

  -- a seat that keeps its ticket keeps what is said of the tickets
  pub tickets_stay : (serving next : ℕ) (vs : List (View E T)) (me : ℕ) (v w : View E T) → get_elem? vs me ≡ some v → v.ticket ≡ w.ticket → Tickets serving next vs → Tickets serving next (set vs me w)
  tickets_stay serving next vs me v w at same t = record {
    ordered = t.ordered;
    drawn = λ j u k. seats_stay (λ j u. u.ticket ≡ Some k → (serving ≤ k) × (k < next)) vs me w (λ e. t.drawn me v k at (same ∙ e)) (λ j u _ there. t.drawn j u k there) j u;
    once = still_once vs me w t.once (λ j u k other there a b. other (t.once j me u v k there at b (same ∙ a)));
    waiting = λ k low high. still_has vs me v w k at (λ e. sym same ∙ e) (within vs me v at) (t.waiting k low high);
  }

  -- so does one more seat that has no ticket
  pub tickets_more : (serving next : ℕ) (vs : List (View E T)) (w : View E T) → w.ticket ≡ None → Tickets serving next vs → Tickets serving next (vs ++ w ∷ [])
  tickets_more serving next vs w none_yet t = record {
    ordered = t.ordered;
    drawn = λ j u k. seats_more (λ j u. u.ticket ≡ Some k → (serving ≤ k) × (k < next)) vs w (λ a. absurd (some_not_none k (sym a ∙ none_yet))) (λ j u there. t.drawn j u k there) j u;
    once = once_more vs w none_yet t.once;
    waiting = λ k low high. let h = t.waiting k low high in (h.0, h.1, at_longer vs (w ∷ []) h.0 h.1 h.2, h.3);
  }

  abbrev Gone : List (View E T) → List (Receipt E) → Type 0
  Gone vs rs = (i : ℕ) (r : Receipt E) → get_elem? rs i ≡ some r → (v : View E T) × (get_elem? vs (r.number + 1) ≡ some v) × (v.is_spent ≡ true)

  abbrev Heard : List (Receipt E) → ℕ → View E T → Type 0
  Heard rs j v = v.is_spent ≡ true → (i : ℕ) × (r : Receipt E) × (get_elem? rs i ≡ some r) × (j ≡ r.number + 1)

  pub still_gone : (vs : List (View E T)) (me : ℕ) (v w : View E T) (rs : List (Receipt E)) → get_elem? vs me ≡ some v → v.is_spent ≡ false → Gone vs rs → Gone (set vs me w) rs
  still_gone vs me v w rs at live gone i r there = let g = gone i r there in
      (g.0, set_else vs me (r.number + 1) w (λ e. false_not_true (sym live ∙ (ap (λ (y : View E T). y.is_spent) (one_at vs me (r.number + 1) v g.0 at g.1 (sym e)) ∙ g.2))) ∙ g.1, g.2)

  -- a seat that is not spent keeps what is said of the numbers
  pub numbers_stay : (n : ℕ) (rs : List (Receipt E)) (vs : List (View E T)) (me : ℕ) (v w : View E T) → get_elem? vs me ≡ some v → v.is_spent ≡ false → w.is_spent ≡ false → HaveNumbers n rs vs → HaveNumbers n rs (set vs me w)
  numbers_stay n rs vs me v w at live still t = record {
    places = length-set vs me w ∙ t.places;
    blank = seats_stay (λ j u. u.is_spent ≡ true → IsBlank u) vs me w (λ e. absurd (false_not_true (sym still ∙ e))) (λ j u _. t.blank j u);
    gone = still_gone vs me v w rs at live t.gone;
    heard = seats_stay (Heard rs) vs me w (λ e. absurd (false_not_true (sym still ∙ e))) (λ j u _. t.heard j u);
    tally = t.tally ∙ sym (same_tally vs me v w at live still);
  }

  -- one more seat that is not spent has the next number
  pub numbers_more : (n : ℕ) (rs : List (Receipt E)) (vs : List (View E T)) (w : View E T) → w.is_spent ≡ false → HaveNumbers n rs vs → HaveNumbers (n + 1) rs (vs ++ w ∷ [])
  numbers_more n rs vs w live t = record {
    places = length-append vs (w ∷ []) ∙ ap (λ (k : ℕ). k + 1) t.places;
    blank = seats_more (λ j u. u.is_spent ≡ true → IsBlank u) vs w (λ e. absurd (false_not_true (sym live ∙ e))) t.blank;
    gone = λ i y there. let g = t.gone i y there in (g.0, at_longer vs (w ∷ []) (y.number + 1) g.0 g.1, g.2);
    heard = seats_more (Heard rs) vs w (λ e. absurd (false_not_true (sym live ∙ e))) t.heard;
    tally = let none : one_if w.is_spent ≡ 0 = ap one_if live in omega (arith, t.tally, tally-append vs w, none);
  }

  pub spent-le : (vs : List (View E T)) → spent_count vs ≤ length vs
  spent-le [] = omega arith
  spent-le (v ∷ vs) = bool_cases v.is_spent (λ e. let x : one_if v.is_spent ≡ 1 = ap one_if e in omega (arith, spent-le vs, x)) (λ e. let x : one_if v.is_spent ≡ 0 = ap one_if e in omega (arith, spent-le vs, x))

  pub spent-lt : (vs : List (View E T)) (i : ℕ) (u : View E T) → get_elem? vs i ≡ some u → u.is_spent ≡ false → spent_count vs < length vs
  spent-lt [] i u at live = absurd (some-ne-none u (sym at))
  spent-lt (v ∷ vs) zero u at live = let x : one_if v.is_spent ≡ 0 = ap one_if (ap (λ (z : View E T). z.is_spent) (some-injective v u at) ∙ live) in omega (arith, spent-le vs, x)
  spent-lt (v ∷ vs) (suc i) u at live = bool_cases v.is_spent (λ e. let x : one_if v.is_spent ≡ 1 = ap one_if e in omega (arith, spent-lt vs i u at live, x)) (λ e. let x : one_if v.is_spent ≡ 0 = ap one_if e in omega (arith, spent-lt vs i u at live, x))

  -- two seats that are not spent
  pub two_live : (vs : List (View E T)) (i j : ℕ) (u w : View E T) → i ≢ j → get_elem? vs i ≡ some u → get_elem? vs j ≡ some w → u.is_spent ≡ false → w.is_spent ≡ false → spent_count vs + 1 < length vs
  two_live vs i j u w apart at there a b = let h : spent_count (set vs i spent) < length (set vs i spent) = spent-lt (set vs i spent) j w (set_else vs i j spent (λ e. apart (sym e)) ∙ there) b in
      let x : one_if u.is_spent ≡ 0 = ap one_if a in omega (arith, h, tally-set vs i u spent at, length-set vs i spent, x)
