-- Lists that are fronts of one list.
use Rattle.std.proofs.Common.{◌≡◌, ℕ, ◌≤◌, List, [], ◌∷◌, ◌++◌, length, take, drop, cond, ltb, sym, ap, ◌∙◌, subst, arith, append_assoc, append-nil}
use Rattle.std.proofs.lemmas.List.{take-append-le, take-append-drop}
use Rattle.std.proofs.Math.Seq.{take-append_seam}
use Rattle.std.proofs.lemmas.Bool.{ltb-true, ltb-false}
use Rattle.office_turn.specs.Story.{StartsWith, longer_of, shorter_of}
use Rattle.office_turn.proofs.Cases.{bool_cases}

module _ {A : Type 0} where
  -- what both lists have, the longer one has
  pub longer_keeps : (P : List A → Type 0) (xs ys : List A) → P xs → P ys → P (longer_of xs ys)
  longer_keeps P xs ys p q = bool_cases (ltb (length xs) (length ys)) (λ e. subst (λ b. P (cond b ys xs)) (sym e) q) (λ e. subst (λ b. P (cond b ys xs)) (sym e) p)

  pub shorter_keeps : (P : List A → Type 0) (xs ys : List A) → P xs → P ys → P (shorter_of xs ys)
  shorter_keeps P xs ys p q = bool_cases (ltb (length xs) (length ys)) (λ e. subst (λ b. P (cond b xs ys)) (sym e) p) (λ e. subst (λ b. P (cond b xs ys)) (sym e) q)

  -- a list that goes on from another does so with one more at its end
  pub longer_starts : (all front : List A) (a : A) → StartsWith all front → StartsWith (all ++ a ∷ []) front
  longer_starts all front a p = (p.0 ++ a ∷ [], ap (λ l. l ++ a ∷ []) p.1 ∙ append_assoc front p.0 (a ∷ []))

  -- of two fronts of one list, the shorter is a front of the longer
  pub front_of_front : (all xs ys : List A) → StartsWith all xs → StartsWith all ys → length ys ≤ length xs → StartsWith xs ys
  front_of_front all xs ys p q within = let n : ℕ = length ys in
      let of_all : take n all ≡ ys = ap (take n) q.1 ∙ take-append_seam ys q.0 in
      let of_xs : take n all ≡ take n xs = ap (take n) p.1 ∙ take-append-le n xs p.0 within in
      (drop n xs, sym (take-append-drop n xs) ∙ ap (λ l. l ++ drop n xs) (sym of_xs ∙ of_all))

  abbrev Compared : List A → List A → Type 0
  Compared long short = length short ≤ length long → StartsWith long short

  -- where the shorter of two lists is a front of the longer, the longer goes on from both
  pub goes_on : (xs ys : List A) → Compared (longer_of xs ys) (shorter_of xs ys) → StartsWith (longer_of xs ys) xs × StartsWith (longer_of xs ys) ys
  goes_on xs ys h = bool_cases (ltb (length xs) (length ys))
      (λ e. let f = subst (λ b. Compared (cond b ys xs) (cond b xs ys)) e h in
      subst (λ b. StartsWith (cond b ys xs) xs × StartsWith (cond b ys xs) ys) (sym e) (f (omega (arith, ltb-true _ _ e)), ([], sym (append-nil ys))))
      (λ e. let f = subst (λ b. Compared (cond b ys xs) (cond b xs ys)) e h in
      subst (λ b. StartsWith (cond b ys xs) xs × StartsWith (cond b ys xs) ys) (sym e) (([], sym (append-nil xs)), f (ltb-false _ _ e)))
