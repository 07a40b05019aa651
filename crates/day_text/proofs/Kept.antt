-- What the records of a road network keep of it: its nodes, where its segments lead, and its bounds.
use Rattle.std.proofs.Common.{◌≡◌, ◌≤◌, ◌<◌, ◌∷◌, ◌∙◌, [], List, ℕ, zero, suc, Some, None, set, length, refl, sym, ap, subst, arith, length-append}
use Rattle.std.specs.Prelude.{nat_le, nat_lt, not, slice_get}
use Rattle.std.specs.Cmp.{first_so, second_so}
use Rattle.std.specs.Str.{bytes_eq}
use Rattle.std.proofs.lemmas.Bool.{ltb-true, leb-true, not-true}
use Rattle.std.proofs.lemmas.List.{length-map, length-set}
use Rattle.std.proofs.lemmas.List.Quantifiers.{position-Some}
use Rattle.std.proofs.lemmas.List.Elements.{All-weaker}
use Rattle.std.proofs.lemmas.Option.{get_or_from_slice_get, slice_get-get_or}
use Rattle.road_graph.specs.declared.segment.Segment.{Segment}
use Rattle.road_graph.specs.declared.values.What.{What}
use Rattle.road_graph.specs.declared.segment.Span.{Span}
use Rattle.road_graph.specs.Adding.{limited, new_segment, network_with_limit, with_node, with_segment, with_span}
use Rattle.road_graph.specs.Roads.{IsRoads, Roads, has_name, no_segment, segment_at, segment_names, span_names, spans_of, number_of as number_named}
use Rattle.road_graph.proofs.Growth.{defaults_in_range, roads-limit, roads-node, roads-segment, roads-span}
use Rattle.road_graph.proofs.Places.{get-front}
use Rattle.trip_analysis.specs.Walks.{IsWalk, every}
use Rattle.trip_analysis.specs.Applications.{IsAskedWalk, Sound}
use Rattle.trip_analysis.specs.Bases.{BaseLists}
use Rattle.trip_analysis.specs.declared.application.Application.{Application}
use Rattle.day_text.specs.Causes.{demand, limit, or_bad}
use Rattle.day_text.specs.Forms.{Limit, Name, Number, said_in}
use Rattle.road_graph.specs.Ranges.{is_feet, is_inches, is_limit, is_rating}
use Rattle.day_text.specs.declared.refusal.Kind.TheVariants as kind
use Rattle.day_text.specs.Records.{Row}
use Rattle.day_text.specs.declared.refusal.RecordCause.TheVariants as bad
use Rattle.day_text.specs.Roads.{with_limit_of, with_node_of, with_segment_of, with_span_of}
use Rattle.day_text.proofs.Steps.{Gives, found_some, gives, then_gives, was_demanded, was_within}

-- a name that is found stands among the others
pub named_within : (name : List ℕ) (names : List (List ℕ)) (i : ℕ) → number_named name names ≡ Some i → i < length names
named_within name names i e = (position-Some (bytes_eq name) names i name e).0

pub segment_there : (roads : Roads) (name : List ℕ) (i : ℕ) → number_named name (segment_names roads.segments) ≡ Some i → i < length roads.segments
segment_there roads name i e =
    let many : length (segment_names roads.segments) ≡ length roads.segments = length-map roads.segments (λ (s : Segment). s.name) in
    omega (arith, many, named_within name (segment_names roads.segments) i e)

pub span_there : (roads : Roads) (name : List ℕ) (i : ℕ) → number_named name (span_names roads.spans) ≡ Some i → i < length roads.spans
span_there roads name i e =
    let many : length (span_names roads.spans) ≡ length roads.spans = length-map roads.spans (λ (s : Span). s.name) in
    omega (arith, many, named_within name (span_names roads.spans) i e)

-- each segment leads where it led
abbrev pub LeadAlike : List Segment → List Segment → Type 0
LeadAlike old new = (i : ℕ) (s : Segment) → slice_get old i ≡ Some s → (t : Segment) × (slice_get new i ≡ Some t) × (t.from ≡ s.from) × (t.to ≡ s.to)

-- no node is gone, and each segment leads where it led
pub record KeepsRoads (old new : Roads) : Type 0 where
  pub nodes : length old.nodes ≤ length new.nodes
  pub segments : LeadAlike old.segments new.segments

walk_kept : (old new : List Segment) → LeadAlike old new → (path : List ℕ) (a b : ℕ) → IsWalk old every a b path → IsWalk new every a b path
walk_kept old new alike [] a b w = w
walk_kept old new alike (i ∷ path) a b (s, at, may, begins, rest) =
    let (t, there, from, to) = alike i s at in
    (t, there, refl, from ∙ begins, subst (λ (n : ℕ). IsWalk new every n b path) (sym to) (walk_kept old new alike path s.to b rest))

asked_kept : (old new : Roads) → KeepsRoads old new → (asked : _) (a b : ℕ) → IsAskedWalk old a b asked → IsAskedWalk new a b asked
asked_kept old new kept None a b w = tt
asked_kept old new kept (Some routes) a b w =
    All-weaker (IsWalk old.segments every a b) (IsWalk new.segments every a b) (λ path walk. walk_kept old.segments new.segments kept.segments path a b walk) routes w

-- an application that was sound stays sound
pub sound_kept : (old new : BaseLists) → KeepsRoads old.roads new.roads → length old.fleet ≤ length new.fleet → (a : Application) → Sound old a → Sound new a
sound_kept old new kept fleet a s = record {
  truck = omega (arith, s.truck);
  from = omega (arith, s.from, kept.nodes);
  to = omega (arith, s.to, kept.nodes);
  apart = s.apart;
  routes = s.routes;
  asked = asked_kept old.roads new.roads kept a.asked a.from a.to s.asked;
  days = s.days;
  year = s.year;
}

-- a segment is written over by one that leads alike
set_alike : (xs : List Segment) (i : ℕ) (v : Segment) → ((u : Segment) → slice_get xs i ≡ Some u → (v.from ≡ u.from) × (v.to ≡ u.to)) → LeadAlike xs (set xs i v)
set_alike [] i v same j s h = cc
set_alike (a ∷ xs) zero v same zero s h = let alike = same s h in (v, refl, alike.0, alike.1)
set_alike (a ∷ xs) zero v same (suc j) s h = (s, h, refl, refl)
set_alike (a ∷ xs) (suc i) v same zero s h = (s, h, refl, refl)
set_alike (a ∷ xs) (suc i) v same (suc j) s h = set_alike xs i v same j s h

limit_alike : (xs : List Segment) (i : ℕ) (what : What) (value : ℕ) → LeadAlike xs (set xs i (limited (segment_at xs i) what value))
limit_alike xs i what value = set_alike xs i (limited (segment_at xs i) what value) (λ u at. let e = get_or_from_slice_get xs i u no_segment at in (ap (λ (s : Segment). s.from) e, ap (λ (s : Segment). s.to) e))

-- What a record of the roads leaves of them: no node is gone, each segment leads where it led, there are no fewer segments and
-- spans, and roads within their bounds stay so.
pub record HaveGrown (old new : Roads) : Type 0 where
  pub kept : KeepsRoads old new
  pub segments : length old.segments ≤ length new.segments
  pub spans : length old.spans ≤ length new.spans
  pub roads : IsRoads old → IsRoads new

pub node_grows : (roads : Roads) (fields : Row) → Gives (HaveGrown roads) (with_node_of roads fields)
unfolding with_node_of
node_grows roads fields =
    then_gives {r = said_in (Name ∷ []) fields} (λ said _.
    then_gives {r = demand (not (has_name said.0 roads.nodes)) bad.Same} (λ a new.
    then_gives {r = limit (nat_lt (length roads.nodes) 4096) kind.Nodes} (λ b few.
    gives (HaveGrown roads) (with_node roads said.0) (record {
      kept = record { nodes = omega (arith, length-append roads.nodes (said.0 ∷ [])); segments = λ i s h. (s, h, refl, refl) };
      segments = omega arith;
      spans = omega arith;
      roads = λ h. roads-node roads said.0 h (ltb-true _ _ (was_within _ kind.Nodes b few)) (not-true _ (was_demanded _ bad.Same a new));
    }))))

pub segment_grows : (roads : Roads) (fields : Row) → Gives (HaveGrown roads) (with_segment_of roads fields)
unfolding with_segment_of
segment_grows roads fields =
    then_gives {r = said_in (Name ∷ Name ∷ Name ∷ Number ∷ []) fields} (λ said _.
    then_gives {r = demand (not (has_name said.0 (segment_names roads.segments))) bad.Same} (λ a new.
    then_gives {r = or_bad (bad.Unknown 3) (number_named said.1.0 roads.nodes)} (λ i begins.
    then_gives {r = or_bad (bad.Unknown 4) (number_named said.1.1.0 roads.nodes)} (λ j ends.
    then_gives {r = demand (is_feet said.1.1.1.0) (bad.Range 5)} (λ b far.
    then_gives {r = limit (nat_lt (length roads.segments) 16384) kind.Segments} (λ c few.
    let s : Segment = new_segment said.0 i j said.1.1.1.0 in
    let range = was_demanded (is_feet said.1.1.1.0) (bad.Range 5) b far in
    gives (HaveGrown roads) (with_segment roads s) (record {
      kept = record { nodes = omega arith; segments = λ i s h. (s, get-front roads.segments _ i s h, refl, refl) };
      segments = omega (arith, length-append roads.segments (s ∷ []));
      spans = omega arith;
      roads = λ h. roads-segment roads s h (ltb-true _ _ (was_within _ kind.Segments c few)) (record {
        from = named_within said.1.0 roads.nodes i (found_some (bad.Unknown 3) (number_named said.1.0 roads.nodes) i begins);
        to = named_within said.1.1.0 roads.nodes j (found_some (bad.Unknown 4) (number_named said.1.1.0 roads.nodes) j ends);
        some = leb-true _ _ (first_so (nat_le 1 said.1.1.1.0) (nat_le said.1.1.1.0 10000000) range);
        far = leb-true _ _ (second_so (nat_le 1 said.1.1.1.0) (nat_le said.1.1.1.0 10000000) range);
        base = defaults_in_range;
      }) (not-true _ (was_demanded _ bad.Same a new));
    })))))))

pub limit_grows : (roads : Roads) (fields : Row) → Gives (HaveGrown roads) (with_limit_of roads fields)
unfolding with_limit_of
limit_grows roads fields =
    then_gives {r = said_in (Name ∷ Limit ∷ Number ∷ []) fields} (λ said _.
    then_gives {r = or_bad (bad.Unknown 2) (number_named said.0 (segment_names roads.segments))} (λ i known.
    then_gives {r = demand (is_limit said.1.0 said.1.1.0) (bad.Range 4)} (λ a within.
    let there = segment_there roads said.0 i (found_some (bad.Unknown 2) (number_named said.0 (segment_names roads.segments)) i known) in
    gives (HaveGrown roads) (network_with_limit roads i said.1.0 said.1.1.0) (record {
      kept = record { nodes = omega arith; segments = limit_alike roads.segments i said.1.0 said.1.1.0 };
      segments = omega (arith, length-set roads.segments i (limited (segment_at roads.segments i) said.1.0 said.1.1.0));
      spans = omega arith;
      roads = λ h.
          roads-limit roads i (segment_at roads.segments i) said.1.0 said.1.1.0 h (slice_get-get_or roads.segments i no_segment there)
          (was_demanded (is_limit said.1.0 said.1.1.0) (bad.Range 4) a within);
    }))))

pub span_grows : (roads : Roads) (fields : Row) → Gives (HaveGrown roads) (with_span_of roads fields)
unfolding with_span_of
span_grows roads fields =
    then_gives {r = said_in (Name ∷ Name ∷ Number ∷ Number ∷ []) fields} (λ said _.
    then_gives {r = demand (not (has_name said.0 (span_names roads.spans))) bad.Same} (λ a new.
    then_gives {r = or_bad (bad.Unknown 3) (number_named said.1.0 (segment_names roads.segments))} (λ i known.
    then_gives {r = demand (is_inches said.1.1.0) (bad.Range 4)} (λ b long.
    then_gives {r = demand (is_rating said.1.1.1.0) (bad.Range 5)} (λ c rated.
    then_gives {r = limit (nat_lt (length roads.spans) 2048) kind.Spans} (λ e few.
    then_gives {r = limit (nat_lt (length (spans_of roads.spans i)) 16) kind.SpansOfSegment} (λ f few_here.
    let t : Span = record { name = said.0; segment = i; inches = said.1.1.0; rating = said.1.1.1.0 } in
    let range = was_demanded (is_inches said.1.1.0) (bad.Range 4) b long in
    gives (HaveGrown roads) (with_span roads t) (record {
      kept = record { nodes = omega arith; segments = λ i s h. (s, h, refl, refl) };
      segments = omega arith;
      spans = omega (arith, length-append roads.spans (t ∷ []));
      roads = λ h.
          roads-span roads t h (ltb-true _ _ (was_within _ kind.Spans e few)) (ltb-true _ _ (was_within _ kind.SpansOfSegment f few_here)) (record {
            segment = segment_there roads said.1.0 i (found_some (bad.Unknown 3) (number_named said.1.0 (segment_names roads.segments)) i known);
            some = leb-true _ _ (first_so (nat_le 1 said.1.1.0) (nat_le said.1.1.0 6000) range);
            long = leb-true _ _ (second_so (nat_le 1 said.1.1.0) (nat_le said.1.1.0 6000) range);
            rating = leb-true _ _ (was_demanded (is_rating said.1.1.1.0) (bad.Range 5) c rated);
          }) (not-true _ (was_demanded _ bad.Same a new));
    }))))))))
