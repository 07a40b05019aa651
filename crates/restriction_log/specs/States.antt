-- What is in force at a version: the base values with the postings applied in order, each replacing one value.
use Rattle.std.specs.Prelude.{◌≡◌, ◌≤◌, ℕ, Bool, List, map, take, fold, length, nat_lt, slice_get, slice_set, slice_index_or, Some}
use Rattle.road_graph.specs.declared.values.Values.{Values}
use Rattle.road_graph.specs.declared.segment.Span.{Span}
use Rattle.road_graph.specs.declared.values.What.{What}
use Rattle.road_graph.specs.Ranges.{default_values, with_value}
use Rattle.road_graph.specs.Roads.{Roads}
use Rattle.restriction_log.specs.declared.change.Change.{Change}
use Rattle.restriction_log.specs.declared.change.Replaced.{Replaced}
use Rattle.restriction_log.specs.declared.change.Replaced.TheVariants as replaced
use Rattle.restriction_log.specs.Changes.{replaced_by}

-- the limits of each segment and the rating of each span
pub record InForce : Type 0 where
  pub values : List Values
  pub ratings : List ℕ

-- the limits of a segment
abbrev pub values_at : List Values → ℕ → Values
values_at values i = slice_index_or values i default_values

-- the rating of a span
abbrev pub rating_at : List ℕ → ℕ → ℕ
rating_at ratings i = slice_index_or ratings i 0

-- what a network begins with
abbrev pub base_of : Roads → InForce
base_of roads = record { values = map (λ s. s.base) roads.segments; ratings = map (λ t. t.rating) roads.spans }

-- the state with one limit of a segment replaced
abbrev pub with_limit : InForce → ℕ → What → ℕ → InForce
with_limit state segment limit value =
    record state { values = slice_set state.values segment (with_value (values_at state.values segment) limit value) }

-- the state with what is replaced
abbrev pub with_replaced : InForce → Replaced → InForce
with_replaced state (replaced.Limit segment limit value) = with_limit state segment limit value
with_replaced state (replaced.Rating span permille) = record state { ratings = slice_set state.ratings span permille }

-- the state after a change: the one value that it names is replaced, and every other stays
abbrev pub state_after : InForce → Change → InForce
state_after state change = with_replaced state (replaced_by change)

-- the base values of the network with the postings applied in order
abbrev pub state_of : Roads → List Change → InForce
state_of roads postings = fold state_after (base_of roads) postings

-- whether the state has the segment or span of which a value is replaced
abbrev pub has_replaced : InForce → Replaced → Bool
has_replaced state (replaced.Limit segment limit value) = nat_lt segment (length state.values)
has_replaced state (replaced.Rating span permille) = nat_lt span (length state.ratings)

-- whether the state has the segment or span that the change names; it has where the network takes the change
abbrev pub is_named : InForce → Change → Bool
is_named state change = has_replaced state (replaced_by change)

-- the two states have the same limits of the segment, and the same rating of each of its spans
pub record AgreeOn (roads : Roads) (segment : ℕ) (old new : InForce) : Type 0 where
  pub values : values_at new.values segment ≡ values_at old.values segment
  pub ratings : (i : ℕ) (t : Span) → slice_get roads.spans i ≡ Some t → t.segment ≡ segment → rating_at new.ratings i ≡ rating_at old.ratings i

-- after these postings the segment is as it was after the first so many
abbrev pub AgreeSince : Roads → ℕ → ℕ → List Change → Type 0
AgreeSince roads segment after postings =
    AgreeOn roads segment (state_of roads (take after postings)) (state_of roads postings)

-- the state is of this network: it has limits for each segment, and for each span a rating that is in range
pub record AreOf (roads : Roads) (state : InForce) : Type 0 where
  pub values : length state.values ≡ length roads.segments
  pub ratings : length state.ratings ≡ length roads.spans
  pub in_range : (i : ℕ) → rating_at state.ratings i ≤ 100000
