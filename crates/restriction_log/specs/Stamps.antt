-- The stamps of segments: which of them postings after a version name, themselves or by a span.
use Rattle.std.specs.Prelude.{◌≡◌, ◌<◌, ◌≤◌, ◌*◌, ◌/◌, ℕ, List, length, nat_lt, drop, slice_index_or}
use Rattle.road_graph.specs.Roads.{Roads}
use Rattle.restriction_log.specs.declared.change.Change.{Change}
use Rattle.restriction_log.specs.Changes.{is_touched}

-- the stamps that these postings give the segments: a posting above a number names the segment or one of its spans exactly
-- where the stamp is above the number
pub record HasStamps (roads : Roads) (postings : List Change) (stamps : List ℕ) : Type 0 where
  pub whole : length stamps ≡ length roads.segments
  pub says : (s n : ℕ) → s < length roads.segments → nat_lt n (slice_index_or stamps s 0) ≡ is_touched roads s (drop n postings)

-- there is a number for each page of 64, and none of the page's stamps is above it
pub record AreNewest (stamps newest : List ℕ) : Type 0 where
  pub few : length stamps ≤ 16384
  pub whole : length stamps ≤ 64 * length newest
  pub each : (s : ℕ) → slice_index_or stamps s 0 ≤ slice_index_or newest (s / 64) 0
