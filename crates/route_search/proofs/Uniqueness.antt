-- What potentials certify, and that there is one answer.
use Rattle.std.proofs.Common.{length, None, ◌≡◌, ◌+◌, ◌<◌, ◌≤◌, ◌∷◌, [], ℕ, suc, zero, List, Bool, true, Option, Some, refl, ap, sym, subst, inl, inr, arith, ◌∙◌}
use Rattle.std.specs.Prelude.{slice_get}
use Rattle.road_graph.specs.declared.segment.Segment.{Segment}
use Rattle.road_graph.specs.Roads.{IsRoads, Roads}
use Rattle.route_search.specs.declared.found.Found.{Found}
use Rattle.route_search.specs.declared.found.Found.TheVariants.{Cut, NoRoad, Route}
use Rattle.route_search.specs.Walks.{ArePotentials, AreReached, IsNotAfter, IsPotential, IsRoute, IsWalk, every, feet_at, feet_of, flagged}
use Rattle.route_search.specs.declared.shortest.Shortest.{Shortest}
use Rattle.route_search.specs.declared.shortest.Shortest.TheVariants as shortest
use Rattle.route_search.specs.Founds.{IsFoundBetween, IsShortest}
use Rattle.route_search.proofs.Outcomes.{to_every}
use Rattle.route_search.proofs.Routes.{known_at}

module _ (roads : Roads) (may : ℕ → Bool) (goal : ℕ) (ps : List (Option ℕ)) (ok : IsRoads roads) (h : ArePotentials roads.segments may (length roads.nodes) goal ps) where
  pub zero_at_goal : goal < length roads.nodes → slice_get ps goal ≡ Some (Some 0)
  zero_at_goal there =
      let (d, at, least) = known_at roads may goal ps ok h goal [] there refl in
      let low : d ≤ 0 = least.least [] refl in
      let is : d ≡ 0 = omega (arith, low) in
      at ∙ ap (λ (n : ℕ). Some (Some n)) is

  pub certify : (i : ℕ) (s : Segment) (d : ℕ) → slice_get roads.segments i ≡ Some s → may i ≡ true → slice_get ps s.to ≡ Some (Some d) → (e : ℕ) × (slice_get ps s.from ≡ Some (Some e)) × (e ≤ d + s.feet)
  certify i s d at may1 to =
      let (path, walk, long) = (h.each s.to (Some d) to).reached in
      let way : IsWalk roads.segments may s.from goal (i ∷ path) = (s, at, may1, refl, walk) in
      let (e, here, least) = known_at roads may goal ps ok h s.from (i ∷ path) (ok.each i s at).from way in
      let low : e ≤ feet_at (slice_get roads.segments i) + feet_of roads.segments path = least.least (i ∷ path) way in
      let told : feet_at (slice_get roads.segments i) ≡ s.feet = ap feet_at at in
      (e, here, omega (arith, low, told, long))

not_after_both : (xs ys : List ℕ) → IsNotAfter xs ys → IsNotAfter ys xs → xs ≡ ys
not_after_both [] [] a b = refl
not_after_both [] (y ∷ ys) a b = absurd b
not_after_both (x ∷ xs) [] a b = absurd a
not_after_both (x ∷ xs) (y ∷ ys) (inl a) (inl b) = absurd (omega (arith, a, b))
not_after_both (x ∷ xs) (y ∷ ys) (inl a) (inr b) = absurd (omega (arith, a, b.0))
not_after_both (x ∷ xs) (y ∷ ys) (inr a) (inl b) = absurd (omega (arith, a.0, b))
not_after_both (x ∷ xs) (y ∷ ys) (inr a) (inr b) = let e = a.0 in let f = not_after_both xs ys a.1 b.1 in cc

pub route_unique : (segments : List Segment) (may : ℕ → Bool) (a b : ℕ) (xs ys : List ℕ) → IsRoute segments may a b xs → IsRoute segments may a b ys → xs ≡ ys
route_unique segments may a b xs ys h k =
    let low = h.least ys k.walk in
    let high = k.least xs h.walk in
    not_after_both xs ys (h.first ys k.walk (omega (arith, low, high))) (k.first xs h.walk (omega (arith, low, high)))

-- two rising lists with the same elements
abbrev Rises : List ℕ → Type 0
Rises xs = (j k x y : ℕ) → j < k → slice_get xs j ≡ Some x → slice_get xs k ≡ Some y → x < y

abbrev Within : List ℕ → List ℕ → Type 0
Within xs ys = (k v : ℕ) → slice_get xs k ≡ Some v → (j : ℕ) × (slice_get ys j ≡ Some v)

-- the first of a rising list is at most any other
first_least : (x : ℕ) (xs : List ℕ) (k v : ℕ) → Rises (x ∷ xs) → slice_get (x ∷ xs) k ≡ Some v → x ≤ v
first_least x xs zero v h at = let e : x ≡ v = cc in omega (arith, e)
first_least x xs (suc k) v h at = let e : x < v = h 0 (suc k) x v (omega arith) refl at in omega (arith, e)

rest_within : (x : ℕ) (xs ys : List ℕ) → Rises (x ∷ xs) → Within (x ∷ xs) (x ∷ ys) → Within xs ys
rest_within x xs ys h w k v at = place (w (suc k) v at)
  where
    place : (j : ℕ) × (slice_get (x ∷ ys) j ≡ Some v) → (j : ℕ) × (slice_get ys j ≡ Some v)
    place (zero, e) = absurd (let less : x < v = h 0 (suc k) x v (omega arith) refl at in let same : x ≡ v = cc in omega (arith, less, same))
    place (suc j, e) = (j, e)

rising_same : (xs ys : List ℕ) → Rises xs → Rises ys → Within xs ys → Within ys xs → xs ≡ ys
rising_same [] [] h k v w = refl
rising_same [] (y ∷ ys) h k v w = let (j, bad) = w 0 y refl in absurd cc
rising_same (x ∷ xs) [] h k v w = let (j, bad) = v 0 x refl in absurd cc
rising_same (x ∷ xs) (y ∷ ys) h k v w =
    let (i, a) = v 0 x refl in
    let (j, b) = w 0 y refl in
    let low : y ≤ x = first_least y ys i x k a in
    let high : x ≤ y = first_least x xs j y h b in
    let is : x ≡ y = omega (arith, low, high) in
    let v2 : Within (x ∷ xs) (x ∷ ys) = subst (λ (n : ℕ). Within (x ∷ xs) (n ∷ ys)) (sym is) v in
    let w2 : Within (x ∷ ys) (x ∷ xs) = subst (λ (n : ℕ). Within (n ∷ ys) (x ∷ xs)) (sym is) w in
    let k2 : Rises (x ∷ ys) = subst (λ (n : ℕ). Rises (n ∷ ys)) (sym is) k in
    let rest = rising_same xs ys (λ j2 k3 p q low2 e f. h (suc j2) (suc k3) p q (omega (arith, low2)) e f) (λ j2 k3 p q low2 e f. k (suc j2) (suc k3) p q (omega (arith, low2)) e f) (rest_within x xs ys h v2) (rest_within x ys xs k2 w2) in
    cc

pub reached_unique : (segments : List Segment) (may : ℕ → Bool) (a : ℕ) (xs ys : List ℕ) → AreReached segments may a xs → AreReached segments may a ys → xs ≡ ys
reached_unique segments may a xs ys h k = rising_same xs ys h.rising k.rising (λ n v at. k.complete v (h.sound n v at)) (λ n v at. h.complete v (k.sound n v at))

-- two lists of one length that agree at each place
same_entries : {X : Type 0} (xs ys : List X) → length xs ≡ length ys → ((i : ℕ) (x y : X) → slice_get xs i ≡ Some x → slice_get ys i ≡ Some y → x ≡ y) → xs ≡ ys
same_entries [] [] e h = refl
same_entries [] (y ∷ ys) e h = absurd (omega (arith, e))
same_entries (x ∷ xs) [] e h = absurd (omega (arith, e))
same_entries (x ∷ xs) (y ∷ ys) e h =
    let first : x ≡ y = h 0 x y refl refl in
    let rest : xs ≡ ys = same_entries xs ys (omega (arith, e)) (λ i a b p q. h (suc i) a b p q) in
    cc

potential_unique : (segments : List Segment) (may : ℕ → Bool) (v goal : ℕ) (p q : Option ℕ) → IsPotential segments may v goal p → IsPotential segments may v goal q → p ≡ q
potential_unique segments may v goal None None h k = refl
potential_unique segments may v goal None (Some e) h k = absurd (let (path, walk, long) = k.reached in h path walk)
potential_unique segments may v goal (Some d) None h k = absurd (let (path, walk, long) = h.reached in k path walk)
potential_unique segments may v goal (Some d) (Some e) h k =
    let (path, walk, long) = h.reached in
    let (way, go, far) = k.reached in
    let low : d ≤ feet_of segments way = h.least way go in
    let high : e ≤ feet_of segments path = k.least path walk in
    let is : d ≡ e = omega (arith, low, high, long, far) in
    ap (λ (n : ℕ). Some n) is

potentials_unique : (segments : List Segment) (may : ℕ → Bool) (nodes goal : ℕ) (ps qs : List (Option ℕ)) → ArePotentials segments may nodes goal ps → ArePotentials segments may nodes goal qs → ps ≡ qs
potentials_unique segments may nodes goal ps qs h k =
    same_entries ps qs (h.many ∙ sym k.many) (λ i p q at to. potential_unique segments may i goal p q (h.each i p at) (k.each i q to))

-- what is found follows from what is asked
pub finding_unique : (roads : Roads) (passable : List Bool) (a b : ℕ) (f g : Found) → IsFoundBetween roads passable a b f → IsFoundBetween roads passable a b g → f ≡ g
finding_unique roads passable a b (Route xs d ps) (Route ys e qs) h k =
    let route : xs ≡ ys = route_unique roads.segments (flagged passable) a b xs ys h.route k.route in
    let feet : d ≡ e = sym h.feet_is ∙ ap (feet_of roads.segments) route ∙ k.feet_is in
    let potentials : ps ≡ qs = potentials_unique roads.segments (flagged passable) (length roads.nodes) b ps qs h.potentials k.potentials in
    cc
finding_unique roads passable a b (Route xs d ps) (Cut ys) h k = absurd (k.none (xs, h.route.walk))
finding_unique roads passable a b (Route xs d ps) (NoRoad ys) h k = absurd (k.none (xs, to_every roads.segments (flagged passable) a b xs h.route.walk))
finding_unique roads passable a b (Cut xs) (Route ys e qs) h k = absurd (h.none (ys, k.route.walk))
finding_unique roads passable a b (Cut xs) (Cut ys) h k =
    let nodes : xs ≡ ys = reached_unique roads.segments (flagged passable) a xs ys h.nodes k.nodes in cc
finding_unique roads passable a b (Cut xs) (NoRoad ys) h k = absurd (k.none h.walk)
finding_unique roads passable a b (NoRoad xs) (Route ys e qs) h k = absurd (h.none (ys, to_every roads.segments (flagged passable) a b ys k.route.walk))
finding_unique roads passable a b (NoRoad xs) (Cut ys) h k = absurd (h.none k.walk)
finding_unique roads passable a b (NoRoad xs) (NoRoad ys) h k =
    let nodes : xs ≡ ys = reached_unique roads.segments every a xs ys h.nodes k.nodes in cc

pub shortest_unique : (roads : Roads) (passable : List Bool) (a b : ℕ) (f g : Shortest) → IsShortest roads passable a b f → IsShortest roads passable a b g → f ≡ g
shortest_unique roads passable a b (shortest.Route xs d) (shortest.Route ys e) h k =
    let route : xs ≡ ys = route_unique roads.segments (flagged passable) a b xs ys h.route k.route in
    let feet : d ≡ e = sym h.feet_is ∙ ap (feet_of roads.segments) route ∙ k.feet_is in
    cc
shortest_unique roads passable a b (shortest.Route xs d) (shortest.Cut ys) h k = absurd (k.none (xs, h.route.walk))
shortest_unique roads passable a b (shortest.Route xs d) (shortest.NoRoad ys) h k = absurd (k.none (xs, to_every roads.segments (flagged passable) a b xs h.route.walk))
shortest_unique roads passable a b (shortest.Cut xs) (shortest.Route ys e) h k = absurd (h.none (ys, k.route.walk))
shortest_unique roads passable a b (shortest.Cut xs) (shortest.Cut ys) h k =
    let nodes : xs ≡ ys = reached_unique roads.segments (flagged passable) a xs ys h.nodes k.nodes in cc
shortest_unique roads passable a b (shortest.Cut xs) (shortest.NoRoad ys) h k = absurd (k.none h.walk)
shortest_unique roads passable a b (shortest.NoRoad xs) (shortest.Route ys e) h k = absurd (h.none (ys, to_every roads.segments (flagged passable) a b ys k.route.walk))
shortest_unique roads passable a b (shortest.NoRoad xs) (shortest.Cut ys) h k = absurd (h.none k.walk)
shortest_unique roads passable a b (shortest.NoRoad xs) (shortest.NoRoad ys) h k =
    let nodes : xs ≡ ys = reached_unique roads.segments every a xs ys h.nodes k.nodes in cc
