-- The rows of roads as they are in force, and of some of the trucks.
use Rattle.std.proofs.Common.{◌≡◌, ◌∙◌, ◌<◌, ◌+◌, ◌∷◌, [], ℕ, List, Option, Some, None, true, All, get_or, length, map, refl, ap, sym, subst, arith, inl, inr, ◌++◌}
use Rattle.std.specs.Prelude.{codes, nat_lt, ◌&&◌}
use Rattle.std.specs.Fmt.{decimal}
use Rattle.std.specs.List.{concat, enumerate_from}
use Rattle.std.proofs.lemmas.Bool.{and_parts, cases_lt, ltb-true}
use Rattle.std.proofs.Math.ListN.{get_or-eq_default}
use Rattle.std.proofs.lemmas.List.{get_or-map, length-map}
use Rattle.std.proofs.lemmas.List.FromFn.{get_or-enumerate_from, length-enumerate_from}
use Rattle.road_graph.specs.Ranges.{is_limit, is_rating}
use Rattle.road_graph.specs.Roads.{Roads, no_segment, no_span, segment_at, span_at}
use Rattle.road_graph.specs.Words.{what_word}
use Rattle.road_graph.specs.declared.segment.Segment.{Segment}
use Rattle.road_graph.specs.declared.segment.Span.{Span}
use Rattle.restriction_log.specs.Changes.{takes_replaced}
use Rattle.restriction_log.specs.States.{InForce}
use Rattle.restriction_log.specs.declared.change.Replaced.{Replaced}
use Rattle.restriction_log.specs.declared.change.Replaced.TheVariants as replaced
use Rattle.trip_analysis.specs.Applications.{AreAskedThere}
use Rattle.trip_analysis.specs.Bases.{BaseLists, no_truck, truck_of}
use Rattle.trip_analysis.specs.declared.application.Application.{Application}
use Rattle.day_text.specs.Records.{Row}
use Rattle.day_writer.specs.Orders.{application_row, name_at, posting_row, routes_text}
use Rattle.day_writer.specs.Rows.{segment_row, span_row}
use Rattle.day_writer.specs.Sheets.{base_in_force, roads_in_force, segment_in_force, span_in_force}
use Rattle.day_writer.specs.Texts.{joined, line, row}

from_zero : (i : ℕ) → 0 + i ≡ i
from_zero i = omega arith

module _ (roads : Roads) (state : InForce) where
  abbrev New : Roads
  New = roads_in_force roads state

  pub segments_many : length New.segments ≡ length roads.segments
  segments_many = length-map (enumerate_from 0 roads.segments) (segment_in_force state) ∙ length-enumerate_from 0 roads.segments

  pub spans_many : length New.spans ≡ length roads.spans
  spans_many = length-map (enumerate_from 0 roads.spans) (span_in_force state) ∙ length-enumerate_from 0 roads.spans

  -- the segment and the span of a number
  pub segment_here : (i : ℕ) → i < length roads.segments → get_or New.segments i no_segment ≡ segment_in_force state (i, get_or roads.segments i no_segment)
  segment_here i within =
      let many : i < length (enumerate_from 0 roads.segments) = omega (arith, within, length-enumerate_from 0 roads.segments) in
      get_or-map (segment_in_force state) (enumerate_from 0 roads.segments) i (0, no_segment) no_segment many
      ∙ (ap (segment_in_force state) (get_or-enumerate_from 0 roads.segments i (0, no_segment) within)
      ∙ ap (λ (n : ℕ). segment_in_force state (n, get_or roads.segments i no_segment)) (from_zero i))

  pub span_here : (i : ℕ) → i < length roads.spans → get_or New.spans i no_span ≡ span_in_force state (i, get_or roads.spans i no_span)
  span_here i within =
      let many : i < length (enumerate_from 0 roads.spans) = omega (arith, within, length-enumerate_from 0 roads.spans) in
      get_or-map (span_in_force state) (enumerate_from 0 roads.spans) i (0, no_span) no_span many
      ∙ (ap (span_in_force state) (get_or-enumerate_from 0 roads.spans i (0, no_span) within)
      ∙ ap (λ (n : ℕ). span_in_force state (n, get_or roads.spans i no_span)) (from_zero i))

  -- names are the same
  pub segment_name : (i : ℕ) → i < length roads.segments → (segment_at New.segments i).name ≡ (segment_at roads.segments i).name
  segment_name i within = ap (λ (s : Segment). s.name) (segment_here i within)

  pub span_name : (i : ℕ) → i < length roads.spans → (span_at New.spans i).name ≡ (span_at roads.spans i).name
  span_name i within = ap (λ (t : Span). t.name) (span_here i within)

  -- what replaces a value on the one roads does so on the others
  pub takes_same : (r : Replaced) → takes_replaced New r ≡ takes_replaced roads r
  takes_same (replaced.Limit segment limit value) = ap (λ (n : ℕ). nat_lt segment n && is_limit limit value) segments_many
  takes_same (replaced.Rating span permille) = ap (λ (n : ℕ). nat_lt span n && is_rating permille) spans_many

  -- also past the last one
  each_name : (i : ℕ) → (segment_at New.segments i).name ≡ (segment_at roads.segments i).name
  each_name i = elim (cases_lt i (length roads.segments)) [
    | inl within ↦ segment_name i within
    | inr far ↦
        ap (λ (s : Segment). s.name) (get_or-eq_default New.segments no_segment {n = i} (omega (arith, far, segments_many)))
        ∙ ap (λ (s : Segment). s.name) (sym (get_or-eq_default roads.segments no_segment {n = i} far))
  ]

  pub routes_same : (asked : Option (List (List ℕ))) → routes_text New asked ≡ routes_text roads asked
  routes_same None = refl
  routes_same (Some routes) = λ i. joined 124 (λ route. joined 32 (λ s. each_name s i) route) routes

  pub asked_same : (asked : Option (List (List ℕ))) → AreAskedThere New asked → AreAskedThere roads asked
  asked_same None there = tt
  asked_same (Some routes) there = subst (λ (n : ℕ). All (λ s. s < n) (concat routes)) segments_many there

  pub posting_same : (actor : List ℕ) (r : Replaced) → takes_replaced New r ≡ true → posting_row New actor r ≡ posting_row roads actor r
  posting_same actor (replaced.Limit segment limit value) taken =
      ap (λ (name : List ℕ). row (codes "post" ∷ actor ∷ name ∷ what_word limit ∷ decimal value ∷ [])) (each_name segment)
  posting_same actor (replaced.Rating span permille) taken =
      let within : span < length roads.spans = omega (arith, spans_many, ltb-true span (length New.spans) (and_parts (nat_lt span (length New.spans)) (is_rating permille) taken).0) in
      ap (λ (name : List ℕ). row (codes "post" ∷ actor ∷ name ∷ codes "rating" ∷ decimal permille ∷ [])) (span_name span within)

-- the truck of a number on the sheet
pub truck_here : (base : BaseLists) (trucks : List ℕ) (i : ℕ) → i < length trucks → get_or (map (truck_of base) trucks) i no_truck ≡ truck_of base (get_or trucks i 0)
truck_here base trucks i within = get_or-map (truck_of base) trucks i 0 no_truck within

-- an application is written by the truck of its number on the sheet, and by the names of the roads as they are
pub application_written : (base : BaseLists) (state : InForce) (trucks actor : List ℕ) (a : Application) (page new truck from to routes first last : List ℕ)
    → (truck_of (base_in_force base state trucks) a.truck).name ≡ truck → name_at base.roads.nodes a.from ≡ from → name_at base.roads.nodes a.to ≡ to
    → routes_text base.roads a.asked ≡ routes → a.first ≡ first → a.last ≡ last
    → new ≡ page ++ line (row (codes "apply" ∷ actor ∷ truck ∷ from ∷ to ∷ routes ∷ first ∷ last ∷ []))
    → new ≡ page ++ line (application_row (base_in_force base state trucks) actor a)
application_written base state trucks actor a page new truck from to routes first last t f o r b e h =
    let asked : routes ≡ routes_text (roads_in_force base.roads state) a.asked = sym r ∙ sym (routes_same base.roads state a.asked) in
    let t' = sym t in
    let f' = sym f in
    let o' = sym o in
    let b' = sym b in
    let e' = sym e in
    h ∙ (λ i. page ++ line (row (codes "apply" ∷ actor ∷ t' i ∷ f' i ∷ o' i ∷ asked i ∷ b' i ∷ e' i ∷ [])))

-- the records of the segments are those of the roads as they are
pub segments_same : (roads : Roads) (state : InForce) → map (segment_row (roads_in_force roads state)) (roads_in_force roads state).segments ≡ map (segment_row roads) roads.segments
segments_same roads state = go 0 roads.segments
  where
    go : (k : ℕ) (segments : List Segment) → map (segment_row (roads_in_force roads state)) (map (segment_in_force state) (enumerate_from k segments)) ≡ map (segment_row roads) segments
    go k [] = refl
    go k (s ∷ segments) = ap (λ (rows : List Row). segment_row roads s ∷ rows) (go (k + 1) segments)

-- and those of the spans name their segments as these do
pub spans_same : (roads : Roads) (state : InForce) → map (span_row (roads_in_force roads state)) (roads_in_force roads state).spans ≡ map (span_row roads) (roads_in_force roads state).spans
spans_same roads state = go (roads_in_force roads state).spans
  where
    go : (spans : List Span) → map (span_row (roads_in_force roads state)) spans ≡ map (span_row roads) spans
    go [] = refl
    go (t ∷ spans) =
        ap (λ (name : List ℕ). row (codes "span" ∷ t.name ∷ name ∷ decimal t.inches ∷ decimal t.rating ∷ []) ∷ map (span_row (roads_in_force roads state)) spans) (each_name roads state t.segment)
        ∙ ap (λ (rows : List Row). span_row roads t ∷ rows) (go spans)

-- a span is written by the name of its segment
pub span_written : (roads : Roads) (t : Span) (s : Segment) (page new : List ℕ) → s ≡ segment_at roads.segments t.segment
    → new ≡ page ++ line (row (codes "span" ∷ t.name ∷ s.name ∷ decimal t.inches ∷ decimal t.rating ∷ [])) → new ≡ page ++ line (span_row roads t)
span_written roads t s page new at h =
    h ∙ ap (λ (x : Segment). page ++ line (row (codes "span" ∷ t.name ∷ x.name ∷ decimal t.inches ∷ decimal t.rating ∷ []))) at
