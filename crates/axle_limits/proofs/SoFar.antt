-- The worst group so far, one group more.
use Rattle.std.proofs.Common.{◌≡◌, ℕ, ◌+◌, ◌-◌, ◌*◌, ◌<◌, ◌≤◌, ◌⊎◌, List, length, Bool, true, false, ◌&&◌, arith, inl, inr, leb, ltb, refl, ◌∙◌, subst}
use Rattle.std.proofs.lemmas.Bool.{cases_lt}
use Rattle.axle_train.specs.declared.axle.Axle.{Axle}
use Rattle.axle_train.specs.Trains.{group_weight, spread}
use Rattle.bridge_formula.specs.Formula.{formula_limit}
use Rattle.axle_limits.specs.declared.legal.TheConstants.{SINGLE_SPREAD, TANDEM_SPREAD, TWO_TANDEM_LIMIT}
use Rattle.axle_limits.specs.declared.worst_group.WorstGroup.{WorstGroup}
use Rattle.axle_limits.specs.Limits.{computed_limit_of, is_two_tandem}
use Rattle.axle_limits.proofs.OneLimit.{chosen}
use Rattle.axle_limits.specs.Groups.{group_at}
use Rattle.axle_limits.specs.Worst.{IsNoGreaterPart, IsWorstSoFar, IsAtLeastAsBad, IsWorseThan}

chosen_some : (a b c : Bool) (f : ℕ) → 0 < f → 0 < (chosen a b c f).limit
chosen_some true b c f h = omega arith
chosen_some false true c f h = omega arith
chosen_some false false true f h = omega arith
chosen_some false false false f h = h

-- every limit is above 0
pub limit_some : (axles : List Axle) (i j : ℕ) → 0 < computed_limit_of axles i j
limit_some axles i j = chosen_some (leb (spread axles i j) SINGLE_SPREAD) (leb (spread axles i j) TANDEM_SPREAD) (ltb (formula_limit (spread axles i j) (j - i + 1)) TWO_TANDEM_LIMIT && is_two_tandem axles i j) (formula_limit (spread axles i j) (j - i + 1)) (omega arith)

-- the same group stays
stays : (axles : List Axle) (i j : ℕ) (best : WorstGroup) → IsWorstSoFar axles i j best → IsNoGreaterPart axles i j best → IsWorstSoFar axles i (j + 1) best
stays axles i j best s here = record {
  is_group = s.is_group;
  rows = s.rows;
  row = λ b h k. elim (cases_lt b j) [ inl before ↦ s.row b h before | inr same ↦ (let e : j ≡ b = omega arith in rw e at here) ];
  first_row = s.first_row;
  first_in_row = s.first_in_row;
}

-- the next group takes its place
takes : (axles : List Axle) (i j : ℕ) (best : WorstGroup) → i ≤ j → j < length axles → IsWorstSoFar axles i j best → IsAtLeastAsBad best (group_at axles i j) → IsWorseThan best (group_at axles i j) → IsWorstSoFar axles i (j + 1) (group_at axles i j)
takes axles i j best ordered within s kept strict = record {
  is_group = record { ordered = ordered; within = within; weight_is = refl; limit_is = refl };
  rows = λ a b h k m. kept (group_weight axles a b) (computed_limit_of axles a b) (s.rows a b h k m);
  row = λ b h k. elim (cases_lt b j) [
    | inl before ↦ kept (group_weight axles i b) (computed_limit_of axles i b) (s.row b h before)
    | inr same ↦ (let e : j ≡ b = omega arith in subst (λ t. IsNoGreaterPart axles i t (group_at axles i j)) e (omega arith))
  ];
  first_row = λ a b h k m. strict (group_weight axles a b) (computed_limit_of axles a b) (limit_some axles a b) (s.rows a b h k m);
  first_in_row = λ b h k. strict (group_weight axles i b) (computed_limit_of axles i b) (limit_some axles i b) (s.row b h k);
}

-- one group more
pub so_far_more : (axles : List Axle) (i j : ℕ) (best next result : WorstGroup) → i ≤ j → j < length axles → IsWorstSoFar axles i j best → next ≡ group_at axles i j
    → IsAtLeastAsBad best result → next.weight * result.limit ≤ result.weight * next.limit → (result ≡ best) ⊎ ((result ≡ next) × IsWorseThan best next)
    → IsWorstSoFar axles i (j + 1) result
so_far_more axles i j best next result ordered within s is kept met (inl e) =
    rw e (stays axles i j best s (rw (e, is) at met))
so_far_more axles i j best next result ordered within s is kept met (inr e) =
    let here : result ≡ group_at axles i j = e.0 ∙ is in
    rw here (takes axles i j best ordered within s (rw here at kept) (rw is at e.1))

-- a whole row
pub so_far_row : (axles : List Axle) (i j : ℕ) (best : WorstGroup) → IsWorstSoFar axles i j best → length axles ≤ j → IsWorstSoFar axles (i + 1) (i + 1) best
so_far_row axles i j best s h = record {
  is_group = s.is_group;
  rows = λ a b k m n. elim (cases_lt a i) [ inl before ↦ s.rows a b before m n | inr same ↦ (let e : i ≡ a = omega arith in rw e at (s.row b (omega arith) (omega arith))) ];
  row = λ b k m. absurd (omega arith);
  first_row = s.first_row;
  first_in_row = s.first_in_row;
}
