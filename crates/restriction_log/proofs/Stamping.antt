-- The stamps after one posting more.
use Rattle.std.proofs.Common.{◌≡◌, ◌∷◌, ◌++◌, [], List, ℕ, ◌+◌, ◌<◌, ◌≤◌, inl, inr, true, false, nat_lt, ◌||◌, length, set, get_or, drop, ap, sym, ◌∙◌, arith}
use Rattle.std.specs.Prelude.{◌==◌}
use Rattle.std.proofs.Math.Bool.{or-false, or-true}
use Rattle.std.proofs.lemmas.List.{get_or-set_other, get_or-set_same, length-set, length-append, drop_all, drop-append-le}
use Rattle.std.proofs.lemmas.List.Folds.{list_any-append}
use Rattle.std.proofs.lemmas.Bool.{cases_lt, cases_eq, eq-eqb}
use Rattle.std.proofs.lemmas.Bool.Decides.{nat_tests}
use Rattle.road_graph.specs.Roads.{Roads}
use Rattle.restriction_log.specs.declared.change.Change.{Change}
use Rattle.restriction_log.specs.Changes.{touched, is_touched}
use Rattle.restriction_log.specs.Stamps.{HasStamps}

-- no posting is above the last
touched_past : (roads : Roads) (s n : ℕ) (ps : List Change) → length ps ≤ n → is_touched roads s (drop n ps) ≡ false
touched_past roads s n ps past = ap (is_touched roads s) (drop_all n ps past)

-- what is named above a number, with one posting more
touched_more : (roads : Roads) (s n : ℕ) (ps : List Change) (c : Change) → n ≤ length ps
    → is_touched roads s (drop n (ps ++ c ∷ [])) ≡ (is_touched roads s (drop n ps) || ((touched roads c == s) || false))
touched_more roads s n ps c early =
    ap (is_touched roads s) (drop-append-le n ps (c ∷ []) early) ∙ list_any-append (λ d. touched roads d == s) (drop n ps) (c ∷ [])

-- the segment that the posting names
more_here : (roads : Roads) (s n : ℕ) (ps : List Change) (c : Change) → touched roads c ≡ s
    → nat_lt n (length ps + 1) ≡ is_touched roads s (drop n (ps ++ c ∷ []))
more_here roads s n ps c same = elim (cases_lt (length ps) n) [
  | inl past ↦ (
      let no : nat_lt n (length ps + 1) ≡ false = grind (arith, nat_tests, past) in
      no ∙ sym (touched_past roads s n (ps ++ c ∷ []) (omega (arith, past, length-append ps (c ∷ []))))
      )
  | inr early ↦ (
      let yes : nat_lt n (length ps + 1) ≡ true = grind (arith, nat_tests, early) in
      let named = ap (λ b. is_touched roads s (drop n ps) || (b || false)) (eq-eqb (touched roads c) s same) in
      yes ∙ sym (touched_more roads s n ps c early ∙ (named ∙ or-true (is_touched roads s (drop n ps))))
      )
]

-- and each other one
more_elsewhere : (roads : Roads) (s n : ℕ) (ps : List Change) (c : Change) → (touched roads c == s) ≡ false
    → is_touched roads s (drop n ps) ≡ is_touched roads s (drop n (ps ++ c ∷ []))
more_elsewhere roads s n ps c apart = elim (cases_lt (length ps) n) [
  | inl past ↦ (
      let late : length (ps ++ c ∷ []) ≤ n = omega (arith, past, length-append ps (c ∷ [])) in
      touched_past roads s n ps (omega (arith, past)) ∙ sym (touched_past roads s n (ps ++ c ∷ []) late)
      )
  | inr early ↦ (
      let other = ap (λ b. is_touched roads s (drop n ps) || (b || false)) apart in
      sym (touched_more roads s n ps c early ∙ (other ∙ or-false (is_touched roads s (drop n ps))))
      )
]

-- one posting more: the segment that it names has its number
pub stamps_more : (roads : Roads) (ps : List Change) (stamps : List ℕ) (c : Change) → touched roads c < length roads.segments
    → HasStamps roads ps stamps → HasStamps roads (ps ++ c ∷ []) (set stamps (touched roads c) (length ps + 1))
stamps_more roads ps stamps c within is =
    let at : ℕ = touched roads c in record {
      whole = length-set stamps at (length ps + 1) ∙ is.whole;
      says = λ s n inside. elim (cases_eq at s) [
        | inl same ↦ (
            let stamp : get_or (set stamps at (length ps + 1)) s 0 ≡ length ps + 1 =
            ap (λ k. get_or (set stamps at (length ps + 1)) k 0) (sym same) ∙ get_or-set_same stamps at (length ps + 1) 0 (omega (arith, within, is.whole)) in
            ap (nat_lt n) stamp ∙ more_here roads s n ps c same
            )
        | inr apart ↦ (
            let stamp : get_or (set stamps at (length ps + 1)) s 0 ≡ get_or stamps s 0 = get_or-set_other stamps at s (length ps + 1) 0 (λ e. apart (sym e)) in
            let other : (at == s) ≡ false = grind (arith, nat_tests, apart) in
            ap (nat_lt n) stamp ∙ (is.says s n inside ∙ more_elsewhere roads s n ps c other)
            )
      ];
    }

-- what a stamp says of a version
pub stamp_above : (roads : Roads) (ps : List Change) (stamps : List ℕ) (s n : ℕ) → HasStamps roads ps stamps → s < length roads.segments
    → n < get_or stamps s 0 → is_touched roads s (drop n ps) ≡ true
stamp_above roads ps stamps s n is within above =
    let yes : nat_lt n (get_or stamps s 0) ≡ true = grind (arith, nat_tests, above) in
    sym (is.says s n within) ∙ yes

pub stamp_below : (roads : Roads) (ps : List Change) (stamps : List ℕ) (s n : ℕ) → HasStamps roads ps stamps → s < length roads.segments
    → get_or stamps s 0 ≤ n → is_touched roads s (drop n ps) ≡ false
stamp_below roads ps stamps s n is within below =
    let no : nat_lt n (get_or stamps s 0) ≡ false = grind (arith, nat_tests, below) in
    sym (is.says s n within) ∙ no
