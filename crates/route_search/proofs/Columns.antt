-- Columns of heights.
use Rattle.std.proofs.Common.{◌≡◌, ◌+◌, ◌≤◌, ◌∷◌, [], ℕ, suc, zero, List, Option, Some, None, replicate, refl, sym, ap, inl, inr, arith, ◌∙◌}
use Rattle.std.specs.Prelude.{length, min, slice_index_or}
use Rattle.std.proofs.lemmas.Bool.{cases_eq}
use Rattle.std.proofs.lemmas.List.{length-replicate}
use Rattle.road_graph.specs.declared.segment.Segment.{Segment}
use Rattle.road_graph.specs.Roads.{IsRoads, Roads}
use Rattle.road_graph.proofs.Places.{get_some}
use Rattle.route_search.specs.Walks.{every}
use Rattle.route_search.specs.Heights.{AreHeights, AreLengths, IsColumn, height_at, height_of}
use Rattle.route_search.proofs.Uniqueness.{certify}

-- each height of a row is 0
abbrev pub AreZeros : List ℕ → Type 0
AreZeros row = (j : ℕ) → slice_index_or row j 0 ≡ 0

-- there is a row for each node, and each height is 0
pub record AreLevel (nodes : ℕ) (rows : List (List ℕ)) : Type 0 where
  pub many : length rows ≡ nodes
  pub level : (v j : ℕ) → height_at rows v j ≡ 0

-- zeros are a row of zeros
pub zeros : (columns : ℕ) → AreZeros (replicate columns 0)
zeros zero = λ j. refl
zeros (suc n) = more (replicate n 0) (zeros n)
  where
    more : (row : List ℕ) → AreZeros row → AreZeros (0 ∷ row)
    more row h zero = refl
    more row h (suc j) = h j

-- rows of zeros are level
pub level_rows : (n : ℕ) (row : List ℕ) → AreZeros row → AreLevel n (replicate n row)
level_rows n row zero_row = record { many = length-replicate n row; level = at n }
  where
    at : (n v j : ℕ) → height_at (replicate n row) v j ≡ 0
    at zero v j = refl
    at (suc n) zero j = zero_row j
    at (suc n) (suc v) j = at n v j

pub level_heights : (segments : List Segment) (n : ℕ) (rows : List (List ℕ)) → AreLevel n rows → AreHeights segments rows
level_heights segments n rows h = λ i j s within at. let e = h.level s.from j in omega (arith, e)

-- a length is at most a segment's feet more at its beginning
fits : (p q : Option ℕ) (feet : ℕ) → ((d : ℕ) → q ≡ Some d → (e : ℕ) × (p ≡ Some e) × (e ≤ d + feet)) → height_of p ≤ feet + height_of q
fits p None feet h = high p
  where
    high : (p : Option ℕ) → height_of p ≤ feet + 4294967295
    high None = omega arith
    high (Some d) = omega arith
fits p (Some d) feet h = let (e, is, low) = h d refl in let k : height_of p ≡ min e 4294967295 = ap height_of is in omega (arith, k, low)

some_is : (p q : Option ℕ) → Some p ≡ Some q → p ≡ q
some_is p q e = cc

-- the lengths to one node are heights
pub column_heights : (roads : Roads) (old new : List (List ℕ)) (column node : ℕ) (lengths : List (Option ℕ)) → IsRoads roads → AreHeights roads.segments old → IsColumn old new column lengths → AreLengths roads node lengths
    → AreHeights roads.segments new
column_heights roads old new column node lengths ok h is are = λ i j s within at. elim (cases_eq j column) [
  | inr other ↦ (let a = is.others s.from j within other in let b = is.others s.to j within other in let low = h i j s within at in omega (arith, a, b, low))
  | inl same ↦ (
      let (p, from) = get_some lengths s.from (omega (arith, are.many, (ok.each i s at).from)) in
      let (q, to) = get_some lengths s.to (omega (arith, are.many, (ok.each i s at).to)) in
      let low = fits p q s.feet (λ d here.
      let (e, there, few) = certify roads every node lengths ok are i s d at refl (to ∙ ap (λ (o : Option ℕ). Some o) here) in
      (e, some_is p (Some e) (sym from ∙ there), few)) in
      let a = is.here s.from p from in let b = is.here s.to q to in
      rw same (omega (arith, a, b, low)))
]

-- no heights are heights
pub level_none_heights : (segments : List Segment) → AreHeights segments []
level_none_heights segments = level_heights segments 0 [] (level_rows 0 [] (zeros 0))
