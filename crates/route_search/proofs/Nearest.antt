-- Along potentials that are asked for one start alone, the walk by tight segments of least number is the first of the shortest.
use Rattle.std.proofs.Common.{◌≡◌, ◌+◌, ◌-◌, ◌<◌, ◌≤◌, ◌∷◌, ◌++◌, [], ℕ, List, Bool, Option, Some, length, ap, refl, sym, subst, inl, inr, arith, ◌∙◌}
use Rattle.std.specs.Prelude.{slice_get}
use Rattle.std.proofs.lemmas.Bool.{cases_lt}
use Rattle.road_graph.specs.declared.segment.Segment.{Segment}
use Rattle.road_graph.specs.Roads.{IsRoads, Roads}
use Rattle.route_search.specs.Walks.{AreNear, ArePotentials, IsLeastLength, IsNotAfter, IsRoute, IsWalk, feet_at, feet_of}
use Rattle.route_search.specs.Following.{IsFirstTight, IsTightSegment}
use Rattle.route_search.proofs.Joined.{feet_join, feet_on, walk_join, walk_on}
use Rattle.route_search.proofs.Routes.{known_at}

segment_is : (s t : Segment) → Some s ≡ Some t → s ≡ t
segment_is s t e = cc

-- a walk of least length from the start leads by v, from where so many feet are left
pub record IsOn (segments : List Segment) (may : ℕ → Bool) (start goal : ℕ) (ps : List (Option ℕ)) (v left : ℕ) : Type 0 where
  pub at : slice_get ps v ≡ Some (Some left)
  pub way : List ℕ
  pub walk : IsWalk segments may start v way
  pub least : (other : List ℕ) → IsWalk segments may start goal other → feet_of segments way + left ≤ feet_of segments other

module _ (roads : Roads) (may : ℕ → Bool) (start goal : ℕ) (ps : List (Option ℕ)) (ok : IsRoads roads) (h : AreNear roads.segments may (length roads.nodes) start goal ps) where
  pub on_start : (left : ℕ) → slice_get ps start ≡ Some (Some left) → IsOn roads.segments may start goal ps start left
  on_start left at = record { at = at; way = []; walk = refl; least = λ other walk. let k = (h.here (Some left) at).least other walk in omega (arith, k) }

  least_on : (v left : ℕ) → IsOn roads.segments may start goal ps v left → IsLeastLength roads.segments may v goal left
  least_on v left on = record {
    reached = h.each v left on.at;
    least = λ path walk.
        let k = on.least (on.way ++ path) (walk_join roads.segments may start v goal on.way path on.walk walk) in
        let e = feet_join roads.segments on.way path in
        omega (arith, k, e);
  }

  -- the first segment of a walk of least length is tight
  tight_first : (v left j : ℕ) (path : List ℕ) → IsOn roads.segments may start goal ps v left → IsWalk roads.segments may v goal (j ∷ path) → feet_of roads.segments (j ∷ path) ≡ left
      → (s : Segment) × (slice_get roads.segments j ≡ Some s) × IsWalk roads.segments may s.to goal path × (s.feet + feet_of roads.segments path ≡ left) × IsTightSegment roads.segments may ps v left j
  tight_first v left j path on walk long =
      let (s, here, may1, from, rest) = walk in
      let told : feet_at (slice_get roads.segments j) ≡ s.feet = ap feet_at here in
      let way : IsWalk roads.segments may start s.from on.way = subst (λ (u : ℕ). IsWalk roads.segments may start u on.way) (sym from) on.walk in
      let e = feet_on roads.segments j s on.way here in
      let there : slice_get ps s.to ≡ Some (Some (feet_of roads.segments path)) = h.on s.to (on.way ++ j ∷ []) path (walk_on roads.segments may start j s on.way here may1 way) rest
      (λ other w. let k = on.least other w in omega (arith, k, e, told, long)) in
      let is : feet_of roads.segments path ≡ left - s.feet = omega (arith, told, long) in
      (s, here, rest, omega (arith, told, long), (s, here, may1, from, omega (arith, told, long), there ∙ ap (λ (n : ℕ). Some (Some n)) is))

  -- a node with something left has a tight segment
  pub tight_some : (v left : ℕ) → IsOn roads.segments may start goal ps v left → 0 < left → (j : ℕ) × IsTightSegment roads.segments may ps v left j
  tight_some v left on some = let (path, walk, long) = (least_on v left on).reached in either path walk long
    where
      either : (path : List ℕ) → IsWalk roads.segments may v goal path → feet_of roads.segments path ≡ left → (j : ℕ) × IsTightSegment roads.segments may ps v left j
      either [] walk long = absurd (omega (arith, long, some))
      either (j ∷ path) walk long = let (s, here, rest, sum, tight) = tight_first v left j path on walk long in (j, tight)

  -- a tight segment leads on such a walk
  pub on_more : (v left i : ℕ) (s : Segment) → IsOn roads.segments may start goal ps v left → IsTightSegment roads.segments may ps v left i → slice_get roads.segments i ≡ Some s → IsOn roads.segments may start goal ps s.to (left - s.feet)
  on_more v left i s on tight here =
      let (t, there, may1, from, few, next) = tight in
      let same : t ≡ s = segment_is t s (sym there ∙ here) in
      let from2 : s.from ≡ v = ap (λ (x : Segment). x.from) (sym same) ∙ from in
      let few2 : s.feet ≤ left = subst (λ (x : Segment). x.feet ≤ left) same few in
      let way : IsWalk roads.segments may start s.from on.way = subst (λ (u : ℕ). IsWalk roads.segments may start u on.way) (sym from2) on.walk in
      let e = feet_on roads.segments i s on.way here in
      record {
        at = subst (λ (x : Segment). slice_get ps x.to ≡ Some (Some (left - x.feet))) same next;
        way = on.way ++ i ∷ [];
        walk = walk_on roads.segments may start i s on.way here may1 way;
        least = λ other w. let k = on.least other w in omega (arith, k, e, few2);
      }

  -- a tight segment of least number, and then the first of the shortest
  pub route_more : (v left i : ℕ) (s : Segment) (rest : List ℕ) → IsOn roads.segments may start goal ps v left → IsFirstTight roads.segments may ps v left i → slice_get roads.segments i ≡ Some s
      → IsRoute roads.segments may s.to goal rest → IsRoute roads.segments may v goal (i ∷ rest)
  route_more v left i s rest on first here r =
      let (t, there, may1, from, few, next) = first.tight in
      let same : t ≡ s = segment_is t s (sym there ∙ here) in
      let from2 : s.from ≡ v = ap (λ (x : Segment). x.from) (sym same) ∙ from in
      let few2 : s.feet ≤ left = subst (λ (x : Segment). x.feet ≤ left) same few in
      let least = least_on s.to (left - s.feet) (on_more v left i s on first.tight here) in
      let told : feet_at (slice_get roads.segments i) ≡ s.feet = ap feet_at here in
      let (way, go, long) = least.reached in
      let low : feet_of roads.segments rest ≤ feet_of roads.segments way = r.least way go in
      let high : left - s.feet ≤ feet_of roads.segments rest = least.least rest r.walk in
      let all : feet_at (slice_get roads.segments i) + feet_of roads.segments rest ≡ left = omega (arith, told, low, high, long, few2) in
      record {
        walk = (s, here, may1, from2, r.walk);
        least = λ other walk. let k = (least_on v left on).least other walk in omega (arith, k, all);
        first = λ other walk e. order other walk (e ∙ all) (omega (arith, all, told)) (ok.each i s here).some;
      }
    where
      order : (other : List ℕ) → IsWalk roads.segments may v goal other → feet_of roads.segments other ≡ left → s.feet + feet_of roads.segments rest ≡ left → 1 ≤ s.feet → IsNotAfter (i ∷ rest) other
      order [] walk e sum some = absurd (omega (arith, e, sum, some))
      order (j ∷ path) walk e sum some =
          let (t, there, go, total, tight) = tight_first v left j path on walk e in
          elim (cases_lt i j) [
            | inl w ↦ inl w
            | inr w ↦ (let is : i ≡ j = omega (arith, w, first.first j tight) in
                let same : t ≡ s = segment_is t s (sym there ∙ ap (slice_get roads.segments) (sym is) ∙ here) in
                let go2 : IsWalk roads.segments may s.to goal path = subst (λ (x : Segment). IsWalk roads.segments may x.to goal path) same go in
                let feet2 : t.feet ≡ s.feet = ap (λ (x : Segment). x.feet) same in
                inr (is, r.first path go2 (omega (arith, total, feet2, sum))))
          ]

  -- where nothing is left the walk is at the goal
  pub route_done : (v : ℕ) → IsOn roads.segments may start goal ps v 0 → IsRoute roads.segments may v goal []
  route_done v on = record {
    walk = let (path, walk, long) = (least_on v 0 on).reached in either path walk long;
    least = λ other walk. omega arith;
    first = λ other walk e. tt;
  }
    where
      either : (path : List ℕ) → IsWalk roads.segments may v goal path → feet_of roads.segments path ≡ 0 → v ≡ goal
      either [] walk long = walk
      either (j ∷ path) walk long =
          let (s, here, may1, from, rest) = walk in
          let told : feet_at (slice_get roads.segments j) ≡ s.feet = ap feet_at here in
          absurd (omega (arith, long, told, (ok.each j s here).some))

-- all potentials are those of any start
pub near_of_all : (roads : Roads) (may : ℕ → Bool) (start goal : ℕ) (ps : List (Option ℕ)) → IsRoads roads → goal < length roads.nodes → ArePotentials roads.segments may (length roads.nodes) goal ps → AreNear roads.segments may (length roads.nodes) start goal ps
near_of_all roads may start goal ps ok there h = record {
  many = h.many;
  each = λ v d at. (h.each v (Some d) at).reached;
  here = h.each start;
  on = λ v way path to on shortest.
      let (d, at, least) = known_at roads may goal ps ok h v path (within v path on) on in
      let (rest, walk, long) = least.reached in
      let k = shortest (way ++ rest) (walk_join roads.segments may start v goal way rest to walk) in
      let e = feet_join roads.segments way rest in
      let low = least.least path on in
      let same : d ≡ feet_of roads.segments path = omega (arith, low, long, k, e) in
      at ∙ ap (λ (n : ℕ). Some (Some n)) same;
}
  where
    within : (v : ℕ) (path : List ℕ) → IsWalk roads.segments may v goal path → v < length roads.nodes
    within v [] walk = subst (λ (u : ℕ). u < length roads.nodes) (sym walk) there
    within v (i ∷ path) walk = let (s, at, may1, from, rest) = walk in subst (λ (u : ℕ). u < length roads.nodes) from (ok.each i s at).from
