-- The nodes that are made are accepted.
use Rattle.std.proofs.Common.{◌≡◌, ◌<◌, ◌≤◌, ◌+◌, ◌*◌, ◌∷◌, ◌++◌, [], ℕ, Ok, false, refl, arith, length, inl, length-append}
use Rattle.std.proofs.Math.Nat.{mul-le-mul}
use Rattle.std.proofs.lemmas.Bool.{lt-ltb}
use Rattle.csv.specs.Records.{field_at}
use Rattle.road_graph.specs.Adding.{with_node}
use Rattle.road_graph.specs.Roads.{has_name}
use Rattle.day_text.specs.Days.{judge_day}
use Rattle.day_text.specs.Roads.{with_node_of}
use Rattle.day_maker.specs.Making.{each}
use Rattle.day_maker.specs.Made.{node, node_name, nodes}
use Rattle.day_writer.specs.Texts.{row}
use Rattle.std.specs.Prelude.{codes}
use Rattle.day_maker.proofs.Grids.{Grid, grid_column, grid_fresh, grid_more, grid_row}
use Rattle.day_writer.proofs.Judge.{DaySoFar, open_day}
use Rattle.day_maker.proofs.Leading.{Leads, leads_each, leads_put, leads_weaker}
use Rattle.day_maker.proofs.Leaves.{cell_ok}
use Rattle.day_maker.proofs.Plain.{cell_plain}

pub record InNodes (z r c : ℕ) (d : DaySoFar) : Type 0 where
  pub nodes : Grid 110 (z + 1) z r c [] d.network.nodes
  pub few : length d.network.nodes ≤ r * (z + 1) + c
  pub segments : d.network.segments ≡ []
  pub spans : d.network.spans ≡ []
  pub fleet : d.fleet ≡ []
  pub actors : d.actors ≡ []
  pub orders : d.orders ≡ []

pub few_places : (z r c : ℕ) → z ≤ 40 → r ≤ z → c ≤ z → r * (z + 1) + c < 2048
few_places z r c h k l =
    let wide : z + 1 ≤ 41 = omega arith in
    let high : r ≤ 40 = omega arith in
    let most : r * (z + 1) ≤ 40 * 41 = mul-le-mul high wide in
    omega arith

node_leads : (z r c : ℕ) → z ≤ 40 → r ≤ z → c ≤ z → Leads (InNodes z r c) (node r c) (InNodes z r (c + 1))
unfolding node with_node_of field_at
node_leads z r c small hr hc =
    leads_put (InNodes z r c) (InNodes z r (c + 1)) (row (codes "node" ∷ node_name r c ∷ []))
    (refl, (refl, (cell_plain 110 r c refl (omega arith) (omega arith), (refl, (refl, (refl, (refl, (refl, (refl, tt)))))))))
    (λ d at. (record d { network = with_node d.network (node_name r c) }, judged d at, goes d at))
  where
    judged : (d : DaySoFar) → InNodes z r c d → judge_day (open_day d) (row (codes "node" ∷ node_name r c ∷ [])) ≡ Ok (open_day (record d { network = with_node d.network (node_name r c) }))
    judged d at =
        let fresh : has_name (node_name r c) d.network.nodes ≡ false = grid_fresh z 110 r c [] d.network.nodes small hr hc (λ k. k) at.nodes in
        rw (cell_ok 110 r c refl (omega arith) (omega arith), fresh, lt-ltb (length d.network.nodes) 4096 (omega (arith, at.few, few_places z r c small hr hc))) refl

    goes : (d : DaySoFar) → InNodes z r c d → InNodes z r (c + 1) (record d { network = with_node d.network (node_name r c) })
    goes d at = record {
      nodes = grid_column 110 (z + 1) z r c (110 ∷ []) (d.network.nodes ++ node_name r c ∷ []) (λ k. inl refl) (grid_more 110 (z + 1) z 110 r c [] d.network.nodes hr hc at.nodes);
      few = simp length-append (omega (arith, at.few));
      segments = at.segments;
      spans = at.spans;
      fleet = at.fleet;
      actors = at.actors;
      orders = at.orders;
    }

next_row : (z r : ℕ) (d : DaySoFar) → InNodes z r (z + 1) d → InNodes z (r + 1) 0 d
next_row z r d at = record {
  nodes = grid_row 110 (z + 1) z r (z + 1) d.network.nodes (omega arith) at.nodes;
  few = omega (arith, at.few);
  segments = at.segments;
  spans = at.spans;
  fleet = at.fleet;
  actors = at.actors;
  orders = at.orders;
}

pub nodes_lead : (z : ℕ) → z ≤ 40 → Leads (InNodes z 0 0) (nodes z) (InNodes z (z + 1) 0)
nodes_lead z small =
    leads_each (λ r. InNodes z r 0) (λ r. each 0 (z + 1) (λ c. node r c)) (z + 1) 0 (z + 1) (omega arith)
    (λ r low high. leads_weaker (InNodes z r 0) (InNodes z r 0) (InNodes z r (z + 1)) (InNodes z (r + 1) 0) (each 0 (z + 1) (λ c. node r c)) (λ d at. at)
    (leads_each (λ c. InNodes z r c) (λ c. node r c) (z + 1) 0 (z + 1) (omega arith) (λ c least most. node_leads z r c small (omega arith) (omega arith)))
    (λ d at. next_row z r d at))
