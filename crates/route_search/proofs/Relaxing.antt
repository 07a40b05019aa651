-- A turn of the loop over the arrivals at a node.
use Rattle.std.proofs.Common.{◌≡◌, ◌+◌, ◌<◌, ◌≤◌, ◌++◌, ◌∷◌, [], ℕ, List, Bool, true, Option, Some, length, arith}
use Rattle.std.specs.Prelude.{slice_get}
use Rattle.road_graph.specs.Roads.{IsIncoming, IsRoads, Roads}
use Rattle.road_graph.specs.declared.segment.Arrival.{Arrival}
use Rattle.route_search.specs.declared.waiting.Waiting.{Waiting}
use Rattle.route_search.specs.Settling.{IsRelaxing, IsTried, all_weight, beyond}
use Rattle.route_search.proofs.Weights.{known-least}
use Rattle.route_search.proofs.Steps.{relaxing_tried, tried_less}

module _ (roads : Roads) (may : ℕ → Bool) (start : Option ℕ) (goal : ℕ) (ok : IsRoads roads) (ps : List (Option ℕ)) (queue : List Waiting) (v d : ℕ) (arrivals tried : List Arrival) (all : IsIncoming roads.segments v arrivals) (h : IsRelaxing roads may start goal ps queue v d tried) (j : ℕ) (a : Arrival) (place : slice_get arrivals j ≡ Some a) where
  pub turn_from : a.from < length ps
  turn_from = let (s, here, to, from, feet) = all.sound j a place in omega (arith, (ok.each a.segment s here).from, from, h.kept.many)

  pub turn_near : d + a.feet < beyond
  turn_near =
      let (s, here, to, from, feet) = all.sound j a place in
      let low = h.kept.bounded v d h.here in
      let few = known-least ps in
      let fits = ok.each a.segment s here in
      omega (arith, low, few, fits.far, feet, h.kept.many, ok.few_nodes)

  module _ (now : List (Option ℕ)) (waiting : List Waiting) (may1 : may a.segment ≡ true) (w : IsTried roads start ps queue now waiting a.from (d + a.feet)) where
    pub turn_more : IsRelaxing roads may start goal now waiting v d (tried ++ a ∷ [])
    turn_more =
        let (s, here, to, from, feet) = all.sound j a place in
        let there : slice_get ps s.to ≡ Some (Some d) = rw to h.here in
        let shown : IsTried roads start ps queue now waiting s.from (d + s.feet) = rw (← from, ← feet) w in
        relaxing_tried roads may start goal ok ps queue now waiting a.segment s d here may1 there v a tried from feet h shown

    pub turn_less : all_weight now + length waiting ≤ all_weight ps + length queue
    turn_less =
        let (s, here, to, from, feet) = all.sound j a place in
        let there : slice_get ps s.to ≡ Some (Some d) = rw to h.here in
        let shown : IsTried roads start ps queue now waiting s.from (d + s.feet) = rw (← from, ← feet) w in
        tried_less roads may start goal ok ps queue now waiting a.segment s d here may1 there h.kept shown
