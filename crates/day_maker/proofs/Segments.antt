-- The segments that are made are accepted.
use Rattle.std.proofs.Common.{◌≡◌, ◌<◌, ◌≤◌, ◌+◌, ◌*◌, ◌∷◌, [], ℕ, List, Ok, true, false, refl, arith, length, inl, inr, length-append}
use Rattle.std.specs.Prelude.{codes, nat_lt}
use Rattle.std.specs.Fmt.{decimal}
use Rattle.std.proofs.lemmas.List.{map-append}
use Rattle.std.proofs.lemmas.Bool.{le-leb, lt-ltb, ltb-true}
use Rattle.csv.specs.Records.{field_at}
use Rattle.names.specs.Names.{is_name_byte}
use Rattle.road_graph.specs.Adding.{new_segment, with_segment}
use Rattle.road_graph.specs.Roads.{has_name, segment_names}
use Rattle.road_graph.specs.declared.segment.Segment.{Segment}
use Rattle.day_text.specs.Days.{judge_day}
use Rattle.day_text.specs.Roads.{with_segment_of}
use Rattle.day_maker.specs.Making.{◌>>◌, each, when}
use Rattle.day_maker.specs.Made.{cell, east_name, eastward, joining_segments, node_name, north_name, segment, segments, south_name, southward, west_name}
use Rattle.day_writer.specs.Texts.{row}
use Rattle.day_maker.proofs.Grids.{Grid, IsIn, grid_column, grid_fresh, grid_more, grid_none, grid_row, grid_wider}
use Rattle.day_writer.proofs.Judge.{DaySoFar, open_day}
use Rattle.day_maker.proofs.Leading.{Leads, leads_draw, leads_each, leads_put, leads_then, leads_weaker, leads_when}
use Rattle.day_maker.proofs.Leaves.{cell_ok}
use Rattle.day_writer.proofs.Leaves.{number_ok}
use Rattle.day_writer.proofs.Named.{IsThere}
use Rattle.day_maker.proofs.Nodes.{InNodes, few_places}
use Rattle.day_maker.proofs.Plain.{cell_plain}
use Rattle.day_writer.proofs.Plain.{is_plain, number_plain}

-- all nodes are there
abbrev pub HasNodes : ℕ → List (List ℕ) → Type 0
HasNodes z names = (i j : ℕ) → i ≤ z → j ≤ z → IsThere (node_name i j) names

pub record InSegments (z r c : ℕ) (done : List ℕ) (d : DaySoFar) : Type 0 where
  pub nodes : HasNodes z d.network.nodes
  pub segments : Grid 101 z z r c done (segment_names d.network.segments)
  pub few : length d.network.segments ≤ 4 * (r * (z + 1) + c) + length done
  pub spans : d.network.spans ≡ []
  pub fleet : d.fleet ≡ []
  pub actors : d.actors ≡ []
  pub orders : d.orders ≡ []

-- where the nodes are, no segments are yet
pub segments_begin : (z : ℕ) (d : DaySoFar) → InNodes z (z + 1) 0 d → InSegments z 0 0 [] d
segments_begin z d at = record {
  nodes = λ i j hi hj. at.nodes.known i j (omega arith) (inl (inl (omega arith)));
  segments = rw at.segments (grid_none 101 z z);
  few = rw at.segments (omega arith);
  spans = at.spans;
  fleet = at.fleet;
  actors = at.actors;
  orders = at.orders;
}

abbrev Ends : ℕ → ℕ → ℕ → ℕ → ℕ → Type 0
Ends z a b a' b' = (a ≤ z) × (b ≤ z) × (a' ≤ z) × (b' ≤ z)

-- one segment
segment_leads : (z r c l a b a' b' feet : ℕ) (done : List ℕ) → z ≤ 40 → r ≤ z → c ≤ z → is_name_byte l ≡ true → is_plain l ≡ true → ¬ (IsIn l done) → length done < 4 → Ends z a b a' b' → 1 ≤ feet → feet ≤ 10000000
    → Leads (InSegments z r c done) (segment (cell l r c) (node_name a b) (node_name a' b') feet) (InSegments z r c (l ∷ done))
unfolding with_segment_of field_at
segment_leads z r c l a b a' b' feet done small hr hc good plain free short (ha, hb, ha', hb') low high =
    leads_put (InSegments z r c done) (InSegments z r c (l ∷ done)) (row (codes "segment" ∷ cell l r c ∷ node_name a b ∷ node_name a' b' ∷ decimal feet ∷ []))
    (refl, (refl, (cell_plain l r c plain (omega arith) (omega arith), (cell_plain 110 a b refl (omega arith) (omega arith), (cell_plain 110 a' b' refl (omega arith) (omega arith), (number_plain feet (omega arith), (refl, (refl, (refl, tt)))))))))
    (λ d at. (record d { network = with_segment d.network (new_segment (cell l r c) (at.nodes a b ha hb).place (at.nodes a' b' ha' hb').place feet) }, judges d at, goes d at))
  where
    judges : (d : DaySoFar) (at : InSegments z r c done d) → judge_day (open_day d) (row (codes "segment" ∷ cell l r c ∷ node_name a b ∷ node_name a' b' ∷ decimal feet ∷ [])) ≡ Ok (open_day (record d { network = with_segment d.network (new_segment (cell l r c) (at.nodes a b ha hb).place (at.nodes a' b' ha' hb').place feet) }))
    judges d at =
        let fresh : has_name (cell l r c) (segment_names d.network.segments) ≡ false = grid_fresh z l r c done (segment_names d.network.segments) small hr hc free at.segments in
        rw (cell_ok l r c good (omega arith) (omega arith), cell_ok 110 a b refl (omega arith) (omega arith), cell_ok 110 a' b' refl (omega arith) (omega arith), number_ok feet (omega arith), fresh, (at.nodes a b ha hb).is, (at.nodes a' b' ha' hb').is, le-leb 1 feet low, le-leb feet 10000000 high, lt-ltb (length d.network.segments) 16384 (omega (arith, at.few, few_places z r c small hr hc))) refl

    goes : (d : DaySoFar) (at : InSegments z r c done d) → InSegments z r c (l ∷ done) (record d { network = with_segment d.network (new_segment (cell l r c) (at.nodes a b ha hb).place (at.nodes a' b' ha' hb').place feet) })
    goes d at = record {
      nodes = at.nodes;
      segments = rw (map-append (λ (s : Segment). s.name) d.network.segments (new_segment (cell l r c) (at.nodes a b ha hb).place (at.nodes a' b' ha' hb').place feet ∷ [])) (grid_more 101 z z l r c done (segment_names d.network.segments) hr hc at.segments);
      few = simp length-append (omega (arith, at.few));
      spans = at.spans;
      fleet = at.fleet;
      actors = at.actors;
      orders = at.orders;
    }

-- letters that are passed over
passes : (z r c : ℕ) (done more : List ℕ) (d : DaySoFar) → (IsIn 101 more → c < z → IsIn 101 done) → ((l : ℕ) → IsIn l done → IsIn l more) → length done ≤ length more → InSegments z r c done d → InSegments z r c more d
passes z r c done more d back ahead longer at = record {
  nodes = at.nodes;
  segments = grid_wider 101 z z r c done more (segment_names d.network.segments) back ahead at.segments;
  few = omega (arith, at.few);
  spans = at.spans;
  fleet = at.fleet;
  actors = at.actors;
  orders = at.orders;
}

eastward_leads : (z r c : ℕ) → z ≤ 40 → r ≤ z → c ≤ z → Leads (InSegments z r c []) (when (nat_lt c z) (eastward r c)) (InSegments z r c (119 ∷ 101 ∷ []))
unfolding eastward
eastward_leads z r c small hr hc =
    leads_when (InSegments z r c []) (InSegments z r c (119 ∷ 101 ∷ [])) (nat_lt c z) (eastward r c)
    (λ there. let h : c < z = ltb-true c z there in
    leads_draw (InSegments z r c []) (InSegments z r c (119 ∷ 101 ∷ [])) 4000
    (λ n. segment (east_name r c) (node_name r c) (node_name r (c + 1)) (1000 + n) >> segment (west_name r c) (node_name r (c + 1)) (node_name r c) (1000 + n)) (omega arith)
    (λ n hn. leads_then (InSegments z r c []) (InSegments z r c (101 ∷ [])) (InSegments z r c (119 ∷ 101 ∷ []))
    (segment (east_name r c) (node_name r c) (node_name r (c + 1)) (1000 + n)) (segment (west_name r c) (node_name r (c + 1)) (node_name r c) (1000 + n))
    (segment_leads z r c 101 r c r (c + 1) (1000 + n) [] small hr hc refl refl (λ k. k) (omega arith) (hr, hc, hr, omega arith) (omega arith) (omega arith))
    (segment_leads z r c 119 r (c + 1) r c (1000 + n) (101 ∷ []) small hr hc refl refl free (omega arith) (hr, omega arith, hr, hc) (omega arith) (omega arith))))
    (λ none d at. passes z r c [] (119 ∷ 101 ∷ []) d (λ k h. absurd (last none h)) (λ l k. absurd k) (omega arith) at)
  where
    free : ¬ (IsIn 119 (101 ∷ []))
    free (inl e) = absurd (omega arith)
    free (inr k) = k

    last : nat_lt c z ≡ false → c < z → ⊥
    last e h = let t : nat_lt c z ≡ true = lt-ltb c z h in cc

southward_leads : (z r c : ℕ) → z ≤ 40 → r ≤ z → c ≤ z → Leads (InSegments z r c (119 ∷ 101 ∷ [])) (when (nat_lt r z) (southward r c)) (InSegments z r c (117 ∷ 115 ∷ 119 ∷ 101 ∷ []))
unfolding southward
southward_leads z r c small hr hc =
    leads_when (InSegments z r c (119 ∷ 101 ∷ [])) (InSegments z r c (117 ∷ 115 ∷ 119 ∷ 101 ∷ [])) (nat_lt r z) (southward r c)
    (λ there. let h : r < z = ltb-true r z there in
    leads_draw (InSegments z r c (119 ∷ 101 ∷ [])) (InSegments z r c (117 ∷ 115 ∷ 119 ∷ 101 ∷ [])) 4000
    (λ n. segment (south_name r c) (node_name r c) (node_name (r + 1) c) (1000 + n) >> segment (north_name r c) (node_name (r + 1) c) (node_name r c) (1000 + n)) (omega arith)
    (λ n hn. leads_then (InSegments z r c (119 ∷ 101 ∷ [])) (InSegments z r c (115 ∷ 119 ∷ 101 ∷ [])) (InSegments z r c (117 ∷ 115 ∷ 119 ∷ 101 ∷ []))
    (segment (south_name r c) (node_name r c) (node_name (r + 1) c) (1000 + n)) (segment (north_name r c) (node_name (r + 1) c) (node_name r c) (1000 + n))
    (segment_leads z r c 115 r c (r + 1) c (1000 + n) (119 ∷ 101 ∷ []) small hr hc refl refl free (omega arith) (hr, hc, omega arith, hc) (omega arith) (omega arith))
    (segment_leads z r c 117 (r + 1) c r c (1000 + n) (115 ∷ 119 ∷ 101 ∷ []) small hr hc refl refl free' (omega arith) (omega arith, hc, hr, hc) (omega arith) (omega arith))))
    (λ none d at. passes z r c (119 ∷ 101 ∷ []) (117 ∷ 115 ∷ 119 ∷ 101 ∷ []) d (λ k h. inr (inl refl)) (λ l k. inr (inr k)) (omega arith) at)
  where
    free : ¬ (IsIn 115 (119 ∷ 101 ∷ []))
    free (inl e) = absurd (omega arith)
    free (inr (inl e)) = absurd (omega arith)
    free (inr (inr k)) = k

    free' : ¬ (IsIn 117 (115 ∷ 119 ∷ 101 ∷ []))
    free' (inl e) = absurd (omega arith)
    free' (inr (inl e)) = absurd (omega arith)
    free' (inr (inr (inl e))) = absurd (omega arith)
    free' (inr (inr (inr k))) = k

-- the segments of a place
joined_leads : (z r c : ℕ) → z ≤ 40 → r ≤ z → c ≤ z → Leads (InSegments z r c []) (joining_segments z r c) (InSegments z r (c + 1) [])
joined_leads z r c small hr hc =
    leads_weaker (InSegments z r c []) (InSegments z r c []) (InSegments z r c (117 ∷ 115 ∷ 119 ∷ 101 ∷ [])) (InSegments z r (c + 1) []) (joining_segments z r c) (λ d at. at)
    (leads_then (InSegments z r c []) (InSegments z r c (119 ∷ 101 ∷ [])) (InSegments z r c (117 ∷ 115 ∷ 119 ∷ 101 ∷ [])) (when (nat_lt c z) (eastward r c)) (when (nat_lt r z) (southward r c)) (eastward_leads z r c small hr hc) (southward_leads z r c small hr hc))
    (λ d at. next d at)
  where
    next : (d : DaySoFar) → InSegments z r c (117 ∷ 115 ∷ 119 ∷ 101 ∷ []) d → InSegments z r (c + 1) [] d
    next d at = record {
      nodes = at.nodes;
      segments = grid_column 101 z z r c (117 ∷ 115 ∷ 119 ∷ 101 ∷ []) (segment_names d.network.segments) (λ h. inr (inr (inr (inl refl)))) at.segments;
      few = omega (arith, at.few);
      spans = at.spans;
      fleet = at.fleet;
      actors = at.actors;
      orders = at.orders;
    }

next_row : (z r : ℕ) (d : DaySoFar) → InSegments z r (z + 1) [] d → InSegments z (r + 1) 0 [] d
next_row z r d at = record {
  nodes = at.nodes;
  segments = grid_row 101 z z r (z + 1) (segment_names d.network.segments) (omega arith) at.segments;
  few = omega (arith, at.few);
  spans = at.spans;
  fleet = at.fleet;
  actors = at.actors;
  orders = at.orders;
}

pub segments_lead : (z : ℕ) → z ≤ 40 → Leads (InSegments z 0 0 []) (segments z) (InSegments z (z + 1) 0 [])
segments_lead z small =
    leads_each (λ r. InSegments z r 0 []) (λ r. each 0 (z + 1) (λ c. joining_segments z r c)) (z + 1) 0 (z + 1) (omega arith)
    (λ r low high. leads_weaker (InSegments z r 0 []) (InSegments z r 0 []) (InSegments z r (z + 1) []) (InSegments z (r + 1) 0 []) (each 0 (z + 1) (λ c. joining_segments z r c)) (λ d at. at)
    (leads_each (λ c. InSegments z r c []) (λ c. joining_segments z r c) (z + 1) 0 (z + 1) (omega arith) (λ c least most. joined_leads z r c small (omega arith) (omega arith)))
    (λ d at. next_row z r d at))
