-- What the first failing limit of a segment says, and what it depends on.
use Rattle.std.specs.Prelude.{◌≡◌, ◌↔◌, ℕ, Some, None}
use Rattle.axle_train.specs.Bounds.{IsTrain}
use Rattle.road_graph.specs.Roads.{Roads, IsRoads}
use Rattle.restriction_log.specs.States.{InForce, AgreeOn}
use Rattle.clearance_rules.specs.Loads.{LoadParts}
use Rattle.clearance_rules.specs.Limits.{limit_of}
use Rattle.clearance_rules.specs.Failing.{FailsAt}
use Rattle.clearance_rules.specs.Order.{FailsFirst, NoneFails}
use Rattle.clearance_rules.specs.declared.limit.Limit.{Limit}

-- the limit that is named for a segment fails the load there
abbrev pub NamedLimitFails : Type 0
NamedLimitFails =
    (roads : Roads) (state : InForce) (load : LoadParts) (segment : ℕ) (limit : Limit) → IsRoads roads → IsTrain load.train
    → limit_of roads state load segment ≡ Some limit → FailsAt roads state load segment limit

-- the limit that is named for a segment is the first that fails the load there, and no other limit is
abbrev pub NamedLimitIsFirst : Type 0
NamedLimitIsFirst =
    (roads : Roads) (state : InForce) (load : LoadParts) (segment : ℕ) (limit : Limit) → IsRoads roads → IsTrain load.train
    → (limit_of roads state load segment ≡ Some limit) ↔ FailsFirst roads state load segment limit

-- none is named exactly where none fails
abbrev pub NoneNamedWhereNoneFails : Type 0
NoneNamedWhereNoneFails =
    (roads : Roads) (state : InForce) (load : LoadParts) (segment : ℕ) → IsRoads roads → IsTrain load.train
    → (limit_of roads state load segment ≡ None) ↔ NoneFails roads state load segment

-- two states that agree on the values of a segment and on the ratings of its spans have the same limit there
abbrev pub LimitsAgree : Type 0
LimitsAgree =
    (roads : Roads) (old new : InForce) (load : LoadParts) (segment : ℕ) → AgreeOn roads segment old new
    → limit_of roads new load segment ≡ limit_of roads old load segment
