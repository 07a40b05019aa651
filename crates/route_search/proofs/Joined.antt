-- Walks that go on where another one ends, and what heights say of them.
use Rattle.std.proofs.Common.{◌≡◌, ◌+◌, ◌<◌, ◌≤◌, ◌∷◌, ◌++◌, [], ℕ, List, Bool, true, Some, refl, sym, ap, subst, arith}
use Rattle.std.specs.Prelude.{slice_get}
use Rattle.road_graph.specs.declared.segment.Segment.{Segment}
use Rattle.route_search.specs.Walks.{IsWalk, every, feet_at, feet_of}
use Rattle.route_search.specs.Heights.{AreHeights, columns, height_at}

pub walk_join : (segments : List Segment) (may : ℕ → Bool) (a b c : ℕ) (way path : List ℕ) → IsWalk segments may a b way → IsWalk segments may b c path → IsWalk segments may a c (way ++ path)
walk_join segments may a b c [] path walk on = subst (λ (v : ℕ). IsWalk segments may v c path) (sym walk) on
walk_join segments may a b c (i ∷ way) path walk on = let (s, at, may1, from, rest) = walk in (s, at, may1, from, walk_join segments may s.to b c way path rest on)

pub feet_join : (segments : List Segment) (way path : List ℕ) → feet_of segments (way ++ path) ≡ feet_of segments way + feet_of segments path
feet_join segments [] path = omega arith
feet_join segments (i ∷ way) path = let e = feet_join segments way path in omega (arith, e)

-- a walk, and one segment more
pub walk_on : (segments : List Segment) (may : ℕ → Bool) (a i : ℕ) (s : Segment) (way : List ℕ) → slice_get segments i ≡ Some s → may i ≡ true → IsWalk segments may a s.from way → IsWalk segments may a s.to (way ++ i ∷ [])
walk_on segments may a i s way at may1 walk = walk_join segments may a s.from s.to way (i ∷ []) walk (s, at, may1, refl, refl)

pub feet_on : (segments : List Segment) (i : ℕ) (s : Segment) (way : List ℕ) → slice_get segments i ≡ Some s → feet_of segments (way ++ i ∷ []) ≡ feet_of segments way + s.feet
feet_on segments i s way at =
    let told : feet_at (slice_get segments i) ≡ s.feet = ap feet_at at in
    let e = feet_join segments way (i ∷ []) in
    omega (arith, e, told)

-- along a walk a height falls by no more than its feet
pub walk_falls : (segments : List Segment) (rows : List (List ℕ)) (j a b : ℕ) (path : List ℕ) → j < columns → AreHeights segments rows → IsWalk segments every a b path → height_at rows a j ≤ feet_of segments path + height_at rows b j
walk_falls segments rows j a b [] within h walk = let e : height_at rows a j ≡ height_at rows b j = ap (λ (v : ℕ). height_at rows v j) walk in omega (arith, e)
walk_falls segments rows j a b (i ∷ path) within h walk =
    let (s, at, may1, from, rest) = walk in
    let more = walk_falls segments rows j s.to b path within h rest in
    let told : feet_at (slice_get segments i) ≡ s.feet = ap feet_at at in
    let here : height_at rows s.from j ≤ s.feet + height_at rows s.to j = h i j s within at in
    let begin : height_at rows s.from j ≡ height_at rows a j = ap (λ (v : ℕ). height_at rows v j) from in
    omega (arith, more, told, here, begin)
