-- The marks of a set of nodes, as one node more is marked.
use Rattle.std.proofs.Common.{◌≡◌, ◌+◌, ◌<◌, ◌≤◌, ◌⊎◌, ◌||◌, ◌&&◌, not, [], inl, inr, ℕ, List, Bool, true, false, get_or, length, nat_eq, replicate, set, take, ap, refl, sym, ◌∙◌, arith}
use Rattle.std.proofs.lemmas.Bool.{cases_eq, eq-eqb, ne_eqb, or_right}
use Rattle.std.proofs.lemmas.List.{get_or-replicate, get_or-set_other, get_or-set_same}
use Rattle.std.proofs.lemmas.List.Folds.{list_any_more}
use Rattle.road_graph.specs.declared.segment.Segment.{Segment}
use Rattle.road_graph.specs.Roads.{IsRoads, IsSegment, Roads, segment_at}
use Rattle.trip_analysis.specs.NodeSets.{AreMarks}
use Rattle.trip_analysis.specs.Findings.{is_number_among, leaves}

-- what the marks tell of a segment
pub leaves_told : (roads : Roads) (nodes of : List ℕ) (marks : List Bool) (s : ℕ) (here : Segment) → nodes ≡ of → AreMarks nodes marks → IsRoads roads → here ≡ segment_at roads.segments s
    → IsSegment (length roads.nodes) here → (get_or marks here.from false && not (get_or marks here.to false)) ≡ leaves roads of s
leaves_told roads nodes of marks s here same are is at fits =
    let from : get_or marks here.from false ≡ is_number_among here.from nodes = are here.from (omega (arith, fits.from, is.few_nodes)) in
    let to : get_or marks here.to false ≡ is_number_among here.to nodes = are here.to (omega (arith, fits.to, is.few_nodes)) in
    ap (λ b. b && not (get_or marks here.to false)) from ∙ (ap (λ b. is_number_among here.from nodes && not b) to
    ∙ (ap (λ (t : Segment). is_number_among t.from nodes && not (is_number_among t.to nodes)) at ∙ ap (λ l. leaves roads l s) same))

pub none_marked : AreMarks [] (replicate 4096 false)
none_marked n low = get_or-replicate 4096 n false false low

either : (b : Bool) → (b || false) ≡ b
either true = refl
either false = refl

module _ (nodes : List ℕ) (marks : List Bool) (i node : ℕ) (low : i < length nodes) (is : node ≡ get_or nodes i 0) (are : AreMarks (take i nodes) marks) where
  more : (n : ℕ) → is_number_among n (take (i + 1) nodes) ≡ (is_number_among n (take i nodes) || nat_eq node n)
  more n = list_any_more (λ k. nat_eq k n) nodes i 0 low ∙ ap (λ k. is_number_among n (take i nodes) || nat_eq k n) (sym is)

  others : (n : ℕ) → (node ≡ n → ⊥) → is_number_among n (take (i + 1) nodes) ≡ is_number_among n (take i nodes)
  others n ne = more n ∙ (ap (λ b. is_number_among n (take i nodes) || b) (ne_eqb node n ne) ∙ either (is_number_among n (take i nodes)))

  pub one_marked : node < length marks → AreMarks (take (i + 1) nodes) (set marks node true)
  one_marked within n few = by (cases_eq node n)
    where
      by : (node ≡ n) ⊎ (node ≡ n → ⊥) → get_or (set marks node true) n false ≡ is_number_among n (take (i + 1) nodes)
      by (inl e) = ap (λ k. get_or (set marks node true) k false) (sym e)
          ∙ (get_or-set_same marks node true false within ∙ sym (more n ∙ or_right (is_number_among n (take i nodes)) (nat_eq node n) (eq-eqb node n e)))
      by (inr ne) = get_or-set_other marks node n true false (λ e. ne (sym e)) ∙ (are n few ∙ sym (others n ne))

  -- a number that no node has is not marked
  pub none_more : 4096 ≤ node → AreMarks (take (i + 1) nodes) marks
  none_more high n few = are n few ∙ sym (others n (λ e. omega (arith, few, high, e)))
