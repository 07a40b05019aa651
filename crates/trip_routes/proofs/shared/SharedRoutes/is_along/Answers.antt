use Rattle.std.proofs.Common.{◌≡◌, ◌∷◌, [], length, get_or, List, ℕ, ap, sym, ◌∙◌, arith, rules, refl, true}
use Rattle.trip_routes.proofs.shared.SharedRoutes.is_along.Goals as goal

one_alone : {X : Type 0} (xs : List X) (d : X) → length xs ≡ 1 → xs ≡ get_or xs 0 d ∷ []
one_alone [] d e = absurd (omega (arith, e))
one_alone (x ∷ []) d e = refl
one_alone (x ∷ y ∷ ys) d e = absurd (omega (arith, e))

pub returns-then-len-eq1 : goal.returns-then-len-eq1
returns-then-len-eq1 c =
    let same : c.eq.result ≡ true → c.route.result.now ≡ c.args.route.now = search rules in
    let back : c.route.result.now ≡ c.args.route.now → c.eq.result ≡ true = search rules in
    let one : length c.args.self.now ≡ 1 = omega (arith, c.len.ensures.count, c.if-len-eq1.true) in (
      λ t. one_alone c.args.self.now [] one ∙ ap (λ (r : List ℕ). r ∷ []) (sym c.route.ensures ∙ same t),
      λ along. back (c.route.ensures ∙ ap (λ (rs : List (List ℕ)). get_or rs 0 []) along),
    )
