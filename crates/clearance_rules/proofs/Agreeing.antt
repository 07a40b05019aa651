-- The limit of a segment depends on what is posted there alone.
use Rattle.std.proofs.Common.{◌≡◌, ℕ, suc, List, [], ◌∷◌, refl, Some}
use Rattle.std.specs.Prelude.{slice_get}
use Rattle.axle_train.specs.declared.axle.Axle.{Axle}
use Rattle.road_graph.specs.Roads.{Roads, spans_of}
use Rattle.road_graph.proofs.Filters.{spans_are}
use Rattle.restriction_log.specs.States.{InForce, rating_at}
use Rattle.clearance_rules.specs.Limits.{first_of_spans, limit_of}
use Rattle.clearance_rules.specs.Laws.{LimitsAgree}

spans_same : (roads : Roads) (old new : InForce) (axles : List Axle) (s : ℕ) (list : List ℕ)
    → ((k i : ℕ) → slice_get list k ≡ Some i → rating_at new.ratings i ≡ rating_at old.ratings i)
    → first_of_spans roads new axles s list ≡ first_of_spans roads old axles s list
spans_same roads old new axles s [] same = refl
spans_same roads old new axles s (span ∷ list) same =
    rw (same 0 span refl, spans_same roads old new axles s list (λ k i at. same (suc k) i at)) refl

pub limits_agree : LimitsAgree
unfolding limit_of
limits_agree roads old new load s agree =
    let spans = spans_same roads old new load.train s (spans_of roads.spans s) (λ k i at.
    let (t, there, on) = (spans_are roads.spans s).sound k i at in agree.ratings i t there on) in
    rw (agree.values, spans) refl
