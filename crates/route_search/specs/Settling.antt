-- What holds while potentials are found.
use Rattle.std.specs.Prelude.{◌≡◌, ◌⊎◌, ℕ, ◌+◌, ◌*◌, ◌<◌, ◌≤◌, Bool, true, List, [], ◌∷◌, length, slice_get, Option, Some, None, Contains, slice_set, slice_index_or}
use Rattle.road_graph.specs.declared.segment.Segment.{Segment}
use Rattle.road_graph.specs.Roads.{Roads}
use Rattle.road_graph.specs.declared.segment.Arrival.{Arrival}
use Rattle.route_search.specs.declared.query.Query.{Query}
use Rattle.route_search.specs.declared.waiting.Waiting.{Waiting}
use Rattle.route_search.specs.Founds.{AreNearOver, ArePotentialsOver}
use Rattle.route_search.specs.Walks.{IsWalk, every, feet_of, flagged}

-- above every length that can be found
abbrev pub beyond : ℕ
beyond = 50000000000

-- what a potential may still fall by, and all of them together: each try that shortens one takes from the sum
abbrev pub weight_of : Option ℕ → ℕ
weight_of None = beyond
weight_of (Some d) = d

abbrev pub all_weight : List (Option ℕ) → ℕ
all_weight [] = 0
all_weight (p ∷ rest) = weight_of p + all_weight rest

-- how many nodes have a potential: no potential is more than 10,000,000 ft for each of these
abbrev pub one_if_known : Option ℕ → ℕ
one_if_known None = 0
one_if_known (Some d) = 1

abbrev pub known : List (Option ℕ) → ℕ
known [] = 0
known (p ∷ rest) = one_if_known p + known rest

-- a waiting node is in the queue
abbrev pub IsIn : Waiting → List Waiting → Type 0
IsIn w queue = Contains queue w

-- u has a potential, at most this
pub record IsBelow (potentials : List (Option ℕ)) (u most : ℕ) : Type 0 where
  pub value : ℕ
  pub at : slice_get potentials u ≡ Some (Some value)
  pub below : value ≤ most

-- where one start alone is asked for: each walk from it by u and on for so many feet is longer than one that is known
abbrev pub IsOut : List Segment → Option ℕ → List (Option ℕ) → ℕ → ℕ → Type 0
IsOut segments None potentials u feet = ⊥
IsOut segments (Some start) potentials u feet =
    (known : ℕ) × (slice_get potentials start ≡ Some (Some known)) × ((way : List ℕ) → IsWalk segments every start u way → known < feet_of segments way + feet)

-- u has a potential, at most this, or no such walk by u is asked for
abbrev pub IsMet : List Segment → Option ℕ → List (Option ℕ) → ℕ → ℕ → Type 0
IsMet segments start potentials u feet = IsBelow potentials u feet ⊎ IsOut segments start potentials u feet

-- the segments into v lead to no shorter way than d by v that is asked for
abbrev pub IsNodeSettled : List Segment → (ℕ → Bool) → Option ℕ → List (Option ℕ) → ℕ → ℕ → Type 0
IsNodeSettled segments may start potentials v d =
    (i : ℕ) (s : Segment) → slice_get segments i ≡ Some s → may i ≡ true → s.to ≡ v → IsMet segments start potentials s.from (d + s.feet)

-- what every try keeps: the goal has 0, each potential is the length of some walk and is bounded, and the nodes that wait are
-- there
pub record IsKept (roads : Roads) (may : ℕ → Bool) (goal : ℕ) (potentials : List (Option ℕ)) (queue : List Waiting) : Type 0 where
  pub many : length potentials ≡ length roads.nodes
  pub zero : slice_get potentials goal ≡ Some (Some 0)
  pub reached : (v d : ℕ) → slice_get potentials v ≡ Some (Some d) → (path : List ℕ) × IsWalk roads.segments may v goal path × (feet_of roads.segments path ≡ d)
  pub bounded : (v d : ℕ) → slice_get potentials v ≡ Some (Some d) → d ≤ 10000000 * known potentials
  pub ranged : (w : Waiting) → IsIn w queue → w.node < length roads.nodes

-- each potential waits in the queue, or the segments into its node lead to no shorter way: where nothing waits, no walk is
-- shorter than the potentials say
pub record IsSearching (roads : Roads) (may : ℕ → Bool) (start : Option ℕ) (goal : ℕ) (potentials : List (Option ℕ)) (queue : List Waiting) : Type 0 where
  pub kept : IsKept roads may goal potentials queue
  pub waits : (v d : ℕ) → slice_get potentials v ≡ Some (Some d) → IsIn (record { length = d; node = v }) queue ⊎ IsNodeSettled roads.segments may start potentials v d

-- the same but for v, of which these arrivals are settled
pub record IsRelaxing (roads : Roads) (may : ℕ → Bool) (start : Option ℕ) (goal : ℕ) (potentials : List (Option ℕ)) (queue : List Waiting) (v d : ℕ) (tried : List Arrival) : Type 0 where
  pub kept : IsKept roads may goal potentials queue
  pub here : slice_get potentials v ≡ Some (Some d)
  pub settled : (j : ℕ) (a : Arrival) → slice_get tried j ≡ Some a → may a.segment ≡ true → IsMet roads.segments start potentials a.from (d + a.feet)
  pub waits : (u e : ℕ) → slice_get potentials u ≡ Some (Some e) → (u ≡ v) ⊎ (IsIn (record { length = e; node = u }) queue ⊎ IsNodeSettled roads.segments may start potentials u e)

-- the search for what is asked goes on with these potentials and this queue
abbrev pub IsSearchingFor : Query → List (Option ℕ) → List Waiting → Type 0
IsSearchingFor query potentials queue = IsSearching query.roads.network.now (flagged query.roads.flags.now) query.start query.goal potentials queue

-- the same but for a node that was taken from the queue, no arrival of which is settled yet
abbrev pub IsRelaxingFor : Query → List (Option ℕ) → List Waiting → Waiting → Type 0
IsRelaxingFor query potentials queue near = IsRelaxing query.roads.network.now (flagged query.roads.flags.now) query.start query.goal potentials queue near.node near.length []

-- no walk by a node that goes on for so many feet is asked for
abbrev pub IsLeftOut : Query → List (Option ℕ) → Waiting → Type 0
IsLeftOut query potentials near = IsOut query.roads.network.now.segments query.start potentials near.node near.length

-- no more is left to do with these potentials and this queue than with those before
abbrev pub IsNoMoreWork : List (Option ℕ) → List Waiting → List (Option ℕ) → List Waiting → Type 0
IsNoMoreWork potentials queue now waiting = all_weight now + length waiting ≤ all_weight potentials + length queue

-- the queue holds one more
pub record IsPushed (old new : List Waiting) (w : Waiting) : Type 0 where
  pub len : length new ≡ length old + 1
  pub one : IsIn w new
  pub others : (x : Waiting) → IsIn x old → IsIn x new
  pub no_more : (x : Waiting) → IsIn x new → (x ≡ w) ⊎ IsIn x old

-- the potential of u fell to d, and u waits
pub record IsShortened (potentials : List (Option ℕ)) (queue : List Waiting) (now : List (Option ℕ)) (waiting : List Waiting) (u d : ℕ) : Type 0 where
  pub list : now ≡ slice_set potentials u (Some d)
  pub less : d < weight_of (slice_index_or potentials u None)
  pub pushed : IsPushed queue waiting (record { length = d; node = u })

-- the potential of u was at most d, or u is not asked for with it
pub record IsLeft (roads : Roads) (start : Option ℕ) (potentials : List (Option ℕ)) (queue : List Waiting) (now : List (Option ℕ)) (waiting : List Waiting) (u d : ℕ) : Type 0 where
  pub list : now ≡ potentials
  pub same : waiting ≡ queue
  pub met : IsMet roads.segments start potentials u d

abbrev pub IsTried : Roads → Option ℕ → List (Option ℕ) → List Waiting → List (Option ℕ) → List Waiting → ℕ → ℕ → Type 0
IsTried roads start potentials queue now waiting u d = IsShortened potentials queue now waiting u d ⊎ IsLeft roads start potentials queue now waiting u d

-- the same for what is asked
abbrev pub IsTriedFor : Query → List (Option ℕ) → List Waiting → List (Option ℕ) → List Waiting → Waiting → Type 0
IsTriedFor query potentials queue now waiting next = IsTried query.roads.network.now query.start potentials queue now waiting next.node next.length

-- what a search tells: all potentials, or those that are asked for one start alone
abbrev pub AreAskedFrom : Roads → List Bool → Option ℕ → ℕ → List (Option ℕ) → Type 0
AreAskedFrom roads passable None goal potentials = ArePotentialsOver roads passable goal potentials
AreAskedFrom roads passable (Some start) goal potentials = AreNearOver roads passable start goal potentials

abbrev pub AreAsked : Query → List (Option ℕ) → Type 0
AreAsked query potentials = AreAskedFrom query.roads.network.now query.roads.flags.now query.start query.goal potentials
