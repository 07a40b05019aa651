-- The nodes and the segments that are written are read.
use Rattle.std.proofs.Common.{◌≡◌, ◌∙◌, ◌<◌, ◌≤◌, ◌∷◌, ◌++◌, [], ℕ, List, Ok, Some, false, length, map, refl, ap, sym, arith}
use Rattle.std.specs.Prelude.{slice_get}
use Rattle.std.proofs.lemmas.Bool.{le-leb, lt-ltb}
use Rattle.std.proofs.lemmas.List.{length-map, map_push}
use Rattle.std.proofs.lemmas.List.Elements.{All-get_or}
use Rattle.csv.specs.Records.{field_at}
use Rattle.road_graph.specs.Adding.{new_segment}
use Rattle.road_graph.specs.Roads.{IsSegment, has_name, segment_names, number_of as number_named}
use Rattle.road_graph.specs.declared.segment.Segment.{Segment}
use Rattle.road_graph.specs.declared.segment.Span.{Span}
use Rattle.day_text.specs.Days.{DayParts, fresh_day, judge_day}
use Rattle.day_text.specs.Named.{IsName}
use Rattle.day_text.specs.Roads.{with_node_of, with_segment_of}
use Rattle.day_writer.specs.Orders.{name_at}
use Rattle.day_writer.specs.Rows.{node_row, segment_row}
use Rattle.day_writer.specs.Writable.{IsWritable}
use Rattle.day_writer.proofs.Judge.{DaySoFar, open_day}
use Rattle.day_writer.proofs.Leading.{Goes, goes_map, goes_one, goes_to}
use Rattle.day_writer.proofs.Leaves.{name_ok, name_plain, number_ok}
use Rattle.day_writer.proofs.Lists.{all_here, few_here, found_within, fresh_here, get_here, map_here}
use Rattle.day_writer.proofs.Plain.{number_plain}

-- a day so far of these roads
abbrev pub on_day : List ℕ → List (List ℕ) → List Segment → List Span → DaySoFar
on_day day nodes segments spans = record (fresh_day day) { network = record { nodes = nodes; segments = segments; spans = spans } }

module _ (file : DayParts) (h : IsWritable file) where
  abbrev so_far_nodes : List (List ℕ) → List (List ℕ) → DaySoFar
  so_far_nodes front rest = on_day file.day front [] []

  node_goes : (front : List (List ℕ)) (name : List ℕ) (rest : List (List ℕ)) → front ++ (name ∷ rest) ≡ file.base.roads.nodes
      → Goes (so_far_nodes front (name ∷ rest)) (node_row name ∷ []) (so_far_nodes (front ++ (name ∷ [])) rest)
  unfolding with_node_of field_at
  node_goes front name rest e =
      let nodes = file.base.roads.nodes in
      let good = all_here IsName front name rest nodes e h.names.nodes in
      let fresh : has_name name front ≡ false = fresh_here front name rest nodes e h.bounds.roads.node_names in
      let room : length front < length nodes = few_here front name rest nodes e in
      let most : length nodes ≤ 4096 = h.bounds.roads.few_nodes in
      let judges : judge_day (open_day (so_far_nodes front (name ∷ rest))) (node_row name) ≡ Ok (open_day (so_far_nodes (front ++ (name ∷ [])) rest)) =
      rw (name_ok name good, fresh, lt-ltb (length front) 4096 (omega arith)) refl in
      goes_one (so_far_nodes front (name ∷ rest)) (so_far_nodes (front ++ (name ∷ [])) rest) (node_row name)
      (refl, (refl, (name_plain name good, (refl, (refl, (refl, (refl, (refl, (refl, tt))))))))) judges

  pub nodes_go : Goes (fresh_day file.day) (map node_row file.base.roads.nodes) (on_day file.day file.base.roads.nodes [] [])
  nodes_go = goes_map file.base.roads.nodes so_far_nodes node_row node_goes

-- a segment on which no limit is set yet
abbrev pub bare : Segment → Segment
bare s = new_segment s.name s.from s.to s.feet

pub bare_names : (segments : List Segment) → segment_names (map bare segments) ≡ segment_names segments
bare_names [] = refl
bare_names (s ∷ segments) = ap (λ (t : List (List ℕ)). s.name ∷ t) (bare_names segments)

module _ (file : DayParts) (h : IsWritable file) where
  abbrev so_far_segments : List Segment → List Segment → DaySoFar
  so_far_segments front rest = on_day file.day file.base.roads.nodes (map bare front) []

  -- the name of a node that is there
  pub node_good : (i : ℕ) → i < length file.base.roads.nodes → IsName (name_at file.base.roads.nodes i)
  node_good i low = All-get_or IsName file.base.roads.nodes i [] low h.names.nodes

  pub segment_fits : (front : List Segment) (s : Segment) (rest : List Segment) → front ++ (s ∷ rest) ≡ file.base.roads.segments → IsSegment (length file.base.roads.nodes) s
  segment_fits front s rest e = h.bounds.roads.each (length front) s (ap (λ (l : List Segment). slice_get l (length front)) (sym e) ∙ get_here front s rest)

  pub segment_named : (front : List Segment) (s : Segment) (rest : List Segment) → front ++ (s ∷ rest) ≡ file.base.roads.segments → IsName s.name
  segment_named front s rest e =
      all_here IsName (segment_names front) s.name (segment_names rest) (segment_names file.base.roads.segments) (map_here (λ (t : Segment). t.name) front s rest file.base.roads.segments e) h.names.segments

  segment_goes : (front : List Segment) (s : Segment) (rest : List Segment) → front ++ (s ∷ rest) ≡ file.base.roads.segments
      → Goes (so_far_segments front (s ∷ rest)) (segment_row file.base.roads s ∷ []) (so_far_segments (front ++ (s ∷ [])) rest)
  unfolding with_segment_of field_at
  segment_goes front s rest e =
      let roads = file.base.roads in
      let fits = segment_fits front s rest e in
      let good = segment_named front s rest e in
      let from_good = node_good s.from fits.from in
      let to_good = node_good s.to fits.to in
      let fresh : has_name s.name (segment_names (map bare front)) ≡ false =
      rw (bare_names front) (fresh_here (segment_names front) s.name (segment_names rest) (segment_names roads.segments) (map_here (λ (t : Segment). t.name) front s rest roads.segments e) h.bounds.roads.segment_names) in
      let room : length front < length roads.segments = few_here front s rest roads.segments e in
      let most : length roads.segments ≤ 16384 = h.bounds.roads.few_segments in
      let count : length (map bare front) ≡ length front = length-map front bare in
      let from_is : number_named (name_at roads.nodes s.from) roads.nodes ≡ Some s.from = found_within roads.nodes s.from h.bounds.roads.node_names fits.from in
      let to_is : number_named (name_at roads.nodes s.to) roads.nodes ≡ Some s.to = found_within roads.nodes s.to h.bounds.roads.node_names fits.to in
      let small : s.feet < 1000000000 = omega (arith, fits.far) in
      let next : DaySoFar = on_day file.day roads.nodes (map bare front ++ (bare s ∷ [])) [] in
      let judges : judge_day (open_day (so_far_segments front (s ∷ rest))) (segment_row roads s) ≡ Ok (open_day next) =
      rw (name_ok s.name good, name_ok (name_at roads.nodes s.from) from_good, name_ok (name_at roads.nodes s.to) to_good, number_ok s.feet small, fresh, from_is, to_is, le-leb 1 s.feet fits.some, le-leb s.feet 10000000 fits.far, lt-ltb (length (map bare front)) 16384 (omega arith)) refl in
      goes_to (so_far_segments front (s ∷ rest)) next (so_far_segments (front ++ (s ∷ [])) rest) (segment_row roads s ∷ [])
      (goes_one (so_far_segments front (s ∷ rest)) next (segment_row roads s)
      (refl, (refl, (name_plain s.name good, (name_plain (name_at roads.nodes s.from) from_good, (name_plain (name_at roads.nodes s.to) to_good, (number_plain s.feet (omega arith), (refl, (refl, (refl, tt))))))))) judges)
      (ap (λ (l : List Segment). on_day file.day roads.nodes l []) (sym (map_push bare front s)))

  pub segments_go : Goes (on_day file.day file.base.roads.nodes [] []) (map (segment_row file.base.roads) file.base.roads.segments) (on_day file.day file.base.roads.nodes (map bare file.base.roads.segments) [])
  segments_go = goes_map file.base.roads.segments so_far_segments (segment_row file.base.roads) segment_goes
