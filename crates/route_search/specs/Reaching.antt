-- What holds while nodes are marked.
use Rattle.std.specs.Prelude.{◌≡◌, ◌⊎◌, ℕ, ◌+◌, ◌≤◌, ◌++◌, ◌∷◌, [], Bool, true, false, List, length, map, slice_get, slice_set, Some, Contains}
use Rattle.road_graph.specs.declared.segment.Segment.{Segment}
use Rattle.road_graph.specs.Roads.{Roads, incoming_of, outgoing_of}
use Rattle.route_search.specs.declared.reach.Step.{Step}
use Rattle.route_search.specs.declared.walks.Walks.{Walks}
use Rattle.route_search.specs.declared.walks.Way.{Way}
use Rattle.route_search.specs.declared.walks.Way.TheVariants.{Back, Forth}
use Rattle.route_search.specs.Walks.{CanReach, IsAmong, flagged}

-- where a segment is entered that is taken in a direction
abbrev pub begin_by : Way → Segment → ℕ
begin_by Forth s = s.from
begin_by Back s = s.to

-- where it is left
abbrev pub end_of : Way → Segment → ℕ
end_of Forth s = s.to
end_of Back s = s.from

-- the numbers of the segments that are entered at a node, rising
abbrev pub entered_at : Way → List Segment → ℕ → List ℕ
entered_at Forth segments node = outgoing_of segments node
entered_at Back segments node = map (λ a. a.segment) (incoming_of segments node)

-- these are all of them
abbrev pub IsWhole : Way → List Segment → ℕ → Type 0
IsWhole way segments node = (i : ℕ) (s : Segment) → slice_get segments i ≡ Some s → begin_by way s ≡ node → IsAmong (entered_at way segments node) i

-- the segment at a place among them, and where it is left
pub record IsStepAmong (way : Way) (segments : List Segment) (node k : ℕ) (step : Step) : Type 0 where
  pub place : slice_get (entered_at way segments node) k ≡ Some step.segment
  pub segment : Segment
  pub at : slice_get segments step.segment ≡ Some segment
  pub begin : begin_by way segment ≡ node
  pub end : end_of way segment ≡ step.to

-- some walk leads from the root to a node, or, against the direction, from the node to the root
abbrev pub Leads : Way → List Segment → (ℕ → Bool) → ℕ → ℕ → Type 0
Leads Forth segments may root v = CanReach segments may root v
Leads Back segments may root v = CanReach segments may v root

-- how many nodes are not marked: each mark takes one from it
abbrev pub one_unless : Bool → ℕ
one_unless true = 0
one_unless false = 1

abbrev pub to_do : List Bool → ℕ
to_do [] = 0
to_do (b ∷ rest) = one_unless b + to_do rest

-- a node is marked
abbrev pub IsMarked : List Bool → ℕ → Type 0
IsMarked marked v = slice_get marked v ≡ Some true

-- the marked nodes are those that walks reach, or those from which walks come
pub record AreMarked (way : Way) (roads : Roads) (may : ℕ → Bool) (root : ℕ) (marked : List Bool) : Type 0 where
  pub many : length marked ≡ length roads.nodes
  pub sound : (v : ℕ) → IsMarked marked v → Leads way roads.segments may root v
  pub complete : (v : ℕ) → Leads way roads.segments may root v → IsMarked marked v

-- node is marked too, and waits if it was not
abbrev pub IsMarkedToo : List Bool → List ℕ → List Bool → List ℕ → ℕ → Type 0
IsMarkedToo marked waiting now queue node =
    (IsMarked marked node × (now ≡ marked) × (queue ≡ waiting)) ⊎ ((slice_get marked node ≡ Some false) × (now ≡ slice_set marked node true) × (queue ≡ waiting ++ node ∷ []))

-- the segments from v, or against the direction those into v, lead to marked nodes
abbrev pub IsSpread : Way → Roads → (ℕ → Bool) → List Bool → ℕ → Type 0
IsSpread way roads may marked v = (i : ℕ) (s : Segment) → slice_get roads.segments i ≡ Some s → may i ≡ true → begin_by way s ≡ v → IsMarked marked (end_of way s)

-- the marked nodes are reached, the start among them, and each of them, but those of `but`, waits or has been spread from
pub record IsReachingBut (way : Way) (roads : Roads) (may : ℕ → Bool) (root : ℕ) (marked : List Bool) (waiting : List ℕ) (but : ℕ → Type 0) : Type 0 where
  pub many : length marked ≡ length roads.nodes
  pub start : IsMarked marked root
  pub sound : (v : ℕ) → IsMarked marked v → Leads way roads.segments may root v
  pub ranged : (v : ℕ) → Contains waiting v → IsMarked marked v
  pub waits : (v : ℕ) → IsMarked marked v → but v ⊎ (Contains waiting v ⊎ IsSpread way roads may marked v)

-- the same of every marked node
abbrev pub IsReaching : Way → Roads → (ℕ → Bool) → ℕ → List Bool → List ℕ → Type 0
IsReaching way roads may root marked waiting = IsReachingBut way roads may root marked waiting (λ v. ⊥)

-- the same but for a node, of which the segments of these numbers are tried
pub record IsSpreading (way : Way) (roads : Roads) (may : ℕ → Bool) (root : ℕ) (marked : List Bool) (waiting : List ℕ) (node : ℕ) (tried : List ℕ) : Type 0 where
  pub reaching : IsReachingBut way roads may root marked waiting (λ v. v ≡ node)
  pub here : IsMarked marked node
  pub tried_all : (k i : ℕ) (s : Segment) → slice_get tried k ≡ Some i → slice_get roads.segments i ≡ Some s → may i ≡ true → IsMarked marked (end_of way s)

-- the marking of what these walks reach goes on with these marks and these nodes that wait
abbrev pub IsReachingOver : Walks → List Bool → List ℕ → Type 0
IsReachingOver walks marked waiting = IsReaching walks.way walks.roads.network.now (flagged walks.roads.flags.now) walks.root marked waiting

-- the same but for a node, none of whose segments is tried yet
abbrev pub IsSpreadingOver : Walks → List Bool → List ℕ → ℕ → Type 0
IsSpreadingOver walks marked waiting node = IsSpreading walks.way walks.roads.network.now (flagged walks.roads.flags.now) walks.root marked waiting node []

-- no more is left to do with these marks and these nodes that wait than with those before
abbrev pub IsNoMoreToMark : List Bool → List ℕ → List Bool → List ℕ → Type 0
IsNoMoreToMark marked waiting now queue = to_do now + length queue ≤ to_do marked + length waiting
