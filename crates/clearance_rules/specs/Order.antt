-- The first limit that fails a load, in words: it fails, and none that comes before it does.
use Rattle.std.specs.Prelude.{ℕ, ◌+◌, ◌*◌, ◌≤◌}
use Rattle.influence_line.specs.Fractions.{IsLowest}
use Rattle.road_graph.specs.Roads.{Roads}
use Rattle.restriction_log.specs.States.{InForce}
use Rattle.clearance_rules.specs.Loads.{LoadParts}
use Rattle.clearance_rules.specs.Failing.{FailsAt}
use Rattle.clearance_rules.specs.declared.limit.Limit.{Limit}
use Rattle.clearance_rules.specs.declared.limit.Limit.TheVariants.{Closed, Height, Width, Length, Gross, Group, Tridem, Moment, Shear}

-- the place of a limit in the order in which they are tested: whether the segment is open, what is posted, the groups of axles, tridem groups, and
-- then its spans by rising number, moment before shear. The order is this project's own
abbrev pub place_of : Limit → ℕ
place_of (Closed s) = 0
place_of (Height s has allowed) = 1
place_of (Width s has allowed) = 2
place_of (Length s has allowed) = 3
place_of (Gross s has allowed) = 4
place_of (Group s i j weight limit allowance) = 5
place_of (Tridem s i j weight allowed) = 6
place_of (Moment s span has design rating) = 7 + 2 * span
place_of (Shear s span has design rating) = 8 + 2 * span

-- no limit fails the load on the segment
abbrev pub NoneFails : Roads → InForce → LoadParts → ℕ → Type 0
NoneFails roads state load segment = (limit : Limit) → FailsAt roads state load segment limit → ⊥

-- a limit has its fractions in lowest terms
abbrev pub IsInLowestTerms : Limit → Type 0
IsInLowestTerms (Moment s span has design rating) = IsLowest has × IsLowest design
IsInLowestTerms (Shear s span has design rating) = IsLowest has × IsLowest design
IsInLowestTerms other = Unit {0}

-- the limit is the first that fails the load on the segment: it fails, with these two sides, and each that does has no place before it
pub record FailsFirst (roads : Roads) (state : InForce) (load : LoadParts) (segment : ℕ) (limit : Limit) : Type 0 where
  pub fails : FailsAt roads state load segment limit
  pub written : IsInLowestTerms limit
  pub first : (other : Limit) → FailsAt roads state load segment other → place_of limit ≤ place_of other
