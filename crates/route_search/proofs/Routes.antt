-- Tight segments lead on walks of least length.
use Rattle.std.proofs.Common.{◌≡◌, ◌+◌, ◌-◌, ◌<◌, ◌≤◌, ◌∷◌, ℕ, List, Bool, Option, Some, None, length, ap, sym, inl, inr, arith, ◌∙◌}
use Rattle.std.specs.Prelude.{slice_get}
use Rattle.std.proofs.lemmas.Bool.{cases_lt}
use Rattle.road_graph.specs.declared.segment.Segment.{Segment}
use Rattle.road_graph.specs.Roads.{IsOutgoing, IsRoads, Roads}
use Rattle.road_graph.proofs.Places.{get_some, get_within}
use Rattle.route_search.specs.Walks.{ArePotentials, IsLeastLength, IsPotential, IsWalk, feet_at, feet_of}
use Rattle.route_search.specs.Following.{IsFirstTight, IsTightSegment}

some_is : (p q : Option ℕ) → Some p ≡ Some q → p ≡ q
some_is p q e = cc

segment_is : (s t : Segment) → Some s ≡ Some t → s ≡ t
segment_is s t e = cc

number_is : (a b : ℕ) → Some a ≡ Some b → a ≡ b
number_is a b e = cc

module _ (roads : Roads) (may : ℕ → Bool) (goal : ℕ) (ps : List (Option ℕ)) (ok : IsRoads roads) (h : ArePotentials roads.segments may (length roads.nodes) goal ps) where
  pub least_at : (v d : ℕ) → slice_get ps v ≡ Some (Some d) → IsLeastLength roads.segments may v goal d
  least_at v d at = h.each v (Some d) at

  -- a node from which there is a walk has a potential
  pub known_at : (v : ℕ) (path : List ℕ) → v < length roads.nodes → IsWalk roads.segments may v goal path → (d : ℕ) × (slice_get ps v ≡ Some (Some d)) × IsLeastLength roads.segments may v goal d
  known_at v path there walk =
      let (p, at) = get_some ps v (omega (arith, h.many, there)) in
      either p at (h.each v p at)
    where
      either : (p : Option ℕ) → slice_get ps v ≡ Some p → IsPotential roads.segments may v goal p → (d : ℕ) × (slice_get ps v ≡ Some (Some d)) × IsLeastLength roads.segments may v goal d
      either None at none = absurd (none path walk)
      either (Some d) at some = (d, at, some)

  -- the first segment of a walk of least length is tight
  pub tight_first : (v left j : ℕ) (path : List ℕ) → slice_get ps v ≡ Some (Some left) → IsWalk roads.segments may v goal (j ∷ path) → feet_of roads.segments (j ∷ path) ≡ left
      → (s : Segment) × (slice_get roads.segments j ≡ Some s) × IsWalk roads.segments may s.to goal path × (s.feet + feet_of roads.segments path ≡ left) × IsTightSegment roads.segments may ps v left j
  tight_first v left j path at walk long =
      let (s, here, may1, from, rest) = walk in
      let told : feet_at (slice_get roads.segments j) ≡ s.feet = ap feet_at here in
      let (d, there, least) = known_at s.to path (ok.each j s here).to rest in
      let (way, go, length_way) = least.reached in
      let low : d ≤ feet_of roads.segments path = least.least path rest in
      let high : left ≤ feet_at (slice_get roads.segments j) + feet_of roads.segments way = (least_at v left at).least (j ∷ way) (s, here, may1, from, go) in
      let is : d ≡ left - s.feet = omega (arith, told, low, high, long, length_way) in
      (s, here, rest, omega (arith, told, long), (s, here, may1, from, omega (arith, told, long), there ∙ ap (λ (n : ℕ). Some (Some n)) is))

-- the first one that is tight in a rising list of the segments from a node
module _ (segments : List Segment) (may : ℕ → Bool) (ps : List (Option ℕ)) (node left : ℕ) (numbers : List ℕ) (all : IsOutgoing segments node numbers) where
  pub first_of : (k i : ℕ) → slice_get numbers k ≡ Some i → ((j m : ℕ) → j < k → slice_get numbers j ≡ Some m → IsTightSegment segments may ps node left m → ⊥) → IsTightSegment segments may ps node left i → IsFirstTight segments may ps node left i
  first_of k i at below tight = record {
    tight = tight;
    first = λ j other.
        let (s, here, may1, from, few, rest) = other in
        let (m, place) = all.complete j s here from in
        elim (cases_lt m k) [
          | inl w ↦ absurd (below m j w place other)
          | inr w ↦ elim (cases_lt k m) [
            | inl u ↦ (let less : i < j = all.rising k m i j u at place in omega (arith, less))
            | inr u ↦ (let is : m ≡ k = omega (arith, w, u) in
                let same : Some j ≡ Some i = sym place ∙ ap (slice_get numbers) is ∙ at in
                let equal : j ≡ i = number_is j i same in omega (arith, equal))
          ]
        ];
  }

  pub none_of : ((j m : ℕ) → j < length numbers → slice_get numbers j ≡ Some m → IsTightSegment segments may ps node left m → ⊥) → (i : ℕ) → IsTightSegment segments may ps node left i → ⊥
  none_of below i tight =
      let (s, here, may1, from, few, rest) = tight in
      let (m, place) = all.complete i s here from in
      below m i (get_within numbers m i place) place tight
