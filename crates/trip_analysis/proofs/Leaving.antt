-- The least segment that leaves a set of nodes, found by the nodes at which segments end.
use Rattle.std.proofs.Common.{◌≡◌, ◌<◌, ◌≤◌, [], ℕ, List, Bool, true, false, Some, suc, zero, length, ap, add-one, refl, ◌∙◌, arith}
use Rattle.std.specs.Prelude.{slice_get}
use Rattle.std.proofs.lemmas.Option.{slice_get-get_or}
use Rattle.road_graph.specs.declared.segment.Segment.{Segment}
use Rattle.road_graph.specs.Roads.{IsRoads, Roads, no_segment, segment_at}
use Rattle.trip_analysis.specs.Findings.{IsNextLeaving, leaves, leaving, leaving_from}
use Rattle.trip_analysis.proofs.Crossing.{leaving_no, leaving_none, leaving_yes}

-- the least segment that leaves the nodes and ends at one with a number below this, or the count of the segments
pub record IsLeastBelow (roads : Roads) (nodes : List ℕ) (node first : ℕ) : Type 0 where
  pub within : first ≤ length roads.segments
  pub one : first < length roads.segments → leaves roads nodes first ≡ true
  pub least : (s : ℕ) (here : Segment) → slice_get roads.segments s ≡ Some here → here.to < node → leaves roads nodes s ≡ true → first ≤ s

module _ (roads : Roads) (nodes : List ℕ) where
  skipped : (s : ℕ) → s ≤ length roads.segments → ((t : ℕ) → t < s → leaves roads nodes t ≡ false) → leaving roads nodes ≡ leaving_from roads nodes s
  skipped zero within none = refl
  skipped (suc s) within none =
      skipped s (omega (arith, within)) (λ t low. none t (omega (arith, low)))
      ∙ (leaving_no roads nodes s (omega (arith, within)) (none s (omega arith)) ∙ ap (leaving_from roads nodes) (add-one s))

  module _ (node first : ℕ) (all : length roads.nodes ≤ node) (in_order : IsRoads roads) (is : IsLeastBelow roads nodes node first) where
    none_leaves : (t : ℕ) → t < first → leaves roads nodes t ≡ false
    none_leaves t low = by (leaves roads nodes t) refl
      where
        by : (b : Bool) → leaves roads nodes t ≡ b → leaves roads nodes t ≡ false
        by false e = e
        by true e =
            let at = slice_get-get_or roads.segments t no_segment (omega (arith, low, is.within)) in
            let there = (in_order.each t (segment_at roads.segments t) at).to in
            let far = is.least t (segment_at roads.segments t) at (omega (arith, there, all)) e in
            absurd (omega (arith, low, far))

    pub first_of_all : first < length roads.segments → IsNextLeaving roads nodes 0 first
    first_of_all low = (
      omega arith,
      omega (arith, low, in_order.few_segments),
      low,
      skipped first (omega (arith, low)) none_leaves ∙ leaving_yes roads nodes first low (is.one low),
    )

    pub none_at_all : length roads.segments ≤ first → leaving roads nodes ≡ []
    none_at_all high = skipped first is.within none_leaves ∙ leaving_none roads nodes first high
