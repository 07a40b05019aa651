use Rattle.std.proofs.Common.{◌≡◌, ◌∷◌, ◌∙◌, [], ℕ, List, None, length, length-set, arith, refl, ap, subst, replicate}
use Rattle.std.proofs.lemmas.List.Elements.{Contains-push}
use Rattle.route_search.specs.Tables.{AreTouched}
use Rattle.route_search.proofs.Tables.{none_left, one_back}
use Rattle.route_search.proofs.table.set_back.Goals as goal

pub index_mut-requires : goal.index_mut-requires
index_mut-requires c =
    let popped = rw c.in-Some.is at c.pop.ensures.items in
    let here = (subst (AreTouched c.back.lengths.items) popped c.back.invariant.touched).there c.in-Some.node (Contains-push c.pop.new.self.items c.in-Some.node) in
    omega (arith, here, c.back.lengths.ok.0)

pub back-preserved : goal.back-preserved
back-preserved c =
    let popped = rw c.in-Some.is at c.pop.ensures.items in
    record {
      touched = one_back c.back.lengths.items c.back.touched.items c.pop.new.self.items c.in-Some.node popped c.back.invariant.touched;
      many = length-set c.back.lengths.items c.in-Some.node None ∙ c.back.invariant.many;
    }

none_of : (xs : List ℕ) → length xs ≡ 0 → xs ≡ []
none_of [] e = refl
none_of (x ∷ xs) e = absurd (omega (arith, e))

pub returns-clause-lengths : goal.returns-clause-lengths
returns-clause-lengths c =
    let none : c.back.touched.items ≡ [] = none_of c.back.touched.items (omega (arith, c.back.touched.ok.0, c.in_default.ensures.cases.0)) in
    none_left c.back.lengths.items (subst (AreTouched c.back.lengths.items) none c.back.invariant.touched) ∙ ap (λ (n : ℕ). replicate n None) c.back.invariant.many
