-- Walks over the segments of a road network, their lengths, and which of them comes first.
use Rattle.std.specs.Prelude.{◌≡◌, ◌⊎◌, ℕ, ◌+◌, ◌<◌, ◌≤◌, Bool, true, false, List, [], ◌∷◌, length, slice_get, get_or, Option, Some, None}
use Rattle.road_graph.specs.declared.segment.Segment.{Segment}

-- a walk from a to b along the segments of these numbers, each of which may be passed: it begins at a, each segment begins
-- where the last ended, and it ends at b
abbrev pub IsWalk : List Segment → (ℕ → Bool) → ℕ → ℕ → List ℕ → Type 0
IsWalk segments may a b [] = a ≡ b
IsWalk segments may a b (i ∷ path) =
    (s : Segment) × (slice_get segments i ≡ Some s) × (may i ≡ true) × (s.from ≡ a) × IsWalk segments may s.to b path

-- the segments that are flagged
abbrev pub flagged : List Bool → ℕ → Bool
flagged passable i = get_or passable i false

-- all segments
abbrev pub every : ℕ → Bool
every i = true

-- the feet of a segment, where it is there
abbrev pub feet_at : Option Segment → ℕ
feet_at None = 0
feet_at (Some s) = s.feet

-- the length of a walk, in feet
abbrev pub feet_of : List Segment → List ℕ → ℕ
feet_of segments [] = 0
feet_of segments (i ∷ path) = feet_at (slice_get segments i) + feet_of segments path

-- the first list comes before the second in dictionary order, or is the second
abbrev pub IsNotAfter : List ℕ → List ℕ → Type 0
IsNotAfter [] ys = Unit {0}
IsNotAfter (x ∷ xs) [] = ⊥
IsNotAfter (x ∷ xs) (y ∷ ys) = (x < y) ⊎ ((x ≡ y) × IsNotAfter xs ys)

-- some walk has this length, and none is shorter
pub record IsLeastLength (segments : List Segment) (may : ℕ → Bool) (a b d : ℕ) : Type 0 where
  pub reached : (path : List ℕ) × IsWalk segments may a b path × (feet_of segments path ≡ d)
  pub least : (path : List ℕ) → IsWalk segments may a b path → d ≤ feet_of segments path

-- the least length of a walk, or none where there is no walk
abbrev pub IsPotential : List Segment → (ℕ → Bool) → ℕ → ℕ → Option ℕ → Type 0
IsPotential segments may a b None = (path : List ℕ) → IsWalk segments may a b path → ⊥
IsPotential segments may a b (Some d) = IsLeastLength segments may a b d

-- for each node its potential: the least length of a walk to the goal
pub record ArePotentials (segments : List Segment) (may : ℕ → Bool) (nodes goal : ℕ) (potentials : List (Option ℕ)) : Type 0 where
  pub many : length potentials ≡ nodes
  pub each : (v : ℕ) (p : Option ℕ) → slice_get potentials v ≡ Some p → IsPotential segments may v goal p

-- what is asked for one start alone: each potential is the length of some walk to the goal, that of the start is its least
-- length, and each node on a walk of least length from the start has the length of the rest of that walk
pub record AreNear (segments : List Segment) (may : ℕ → Bool) (nodes start goal : ℕ) (potentials : List (Option ℕ)) : Type 0 where
  pub many : length potentials ≡ nodes
  pub each : (v d : ℕ) → slice_get potentials v ≡ Some (Some d) → (path : List ℕ) × IsWalk segments may v goal path × (feet_of segments path ≡ d)
  pub here : (p : Option ℕ) → slice_get potentials start ≡ Some p → IsPotential segments may start goal p
  pub on : (v : ℕ) (way path : List ℕ) → IsWalk segments may start v way → IsWalk segments may v goal path
      → ((other : List ℕ) → IsWalk segments may start goal other → feet_of segments way + feet_of segments path ≤ feet_of segments other)
      → slice_get potentials v ≡ Some (Some (feet_of segments path))

-- of the walks of least length the one that is first in dictionary order
pub record IsRoute (segments : List Segment) (may : ℕ → Bool) (a b : ℕ) (route : List ℕ) : Type 0 where
  pub walk : IsWalk segments may a b route
  pub least : (other : List ℕ) → IsWalk segments may a b other → feet_of segments route ≤ feet_of segments other
  pub first : (other : List ℕ) → IsWalk segments may a b other → feet_of segments other ≡ feet_of segments route → IsNotAfter route other

-- some walk leads from a to b
abbrev pub CanReach : List Segment → (ℕ → Bool) → ℕ → ℕ → Type 0
CanReach segments may a b = (path : List ℕ) × IsWalk segments may a b path

-- a number is in a list
abbrev pub IsAmong : List ℕ → ℕ → Type 0
IsAmong numbers v = (k : ℕ) × (slice_get numbers k ≡ Some v)

-- the nodes that walks from a reach, rising
pub record AreReached (segments : List Segment) (may : ℕ → Bool) (a : ℕ) (numbers : List ℕ) : Type 0 where
  pub rising : (j k x y : ℕ) → j < k → slice_get numbers j ≡ Some x → slice_get numbers k ≡ Some y → x < y
  pub sound : (k v : ℕ) → slice_get numbers k ≡ Some v → CanReach segments may a v
  pub complete : (v : ℕ) → CanReach segments may a v → IsAmong numbers v
