-- Which limit is named.
use Rattle.std.proofs.Common.{◌≡◌, ℕ, ◌+◌, ◌*◌, ◌<◌, ◌≤◌, List, length, get_or, drop, drop-cons, add-one, refl, Option, Some, None}
use Rattle.std.specs.Option.{option_or}
use Rattle.std.proofs.lemmas.Bool.{lt-ltb, le-ltb}
use Rattle.std.proofs.lemmas.List.{drop_all}
use Rattle.axle_train.specs.declared.axle.Axle.{Axle}
use Rattle.axle_limits.specs.Worst.{IsWorst, worst_of}
use Rattle.axle_limits.specs.declared.worst_group.WorstGroup.{WorstGroup}
use Rattle.span_rating.specs.declared.loading.Effects.{Effects}
use Rattle.span_rating.specs.Judgement.{fit_of}
use Rattle.span_rating.specs.Loading.{AreEffects}
use Rattle.influence_line.specs.Peaks.{IsTrainPlaced, IsHs20Placed}
use Rattle.hs20_truck.proofs.OneEffects.{effects_are_one, design_is_one}
use Rattle.axle_train.specs.Bounds.{IsTrain}
use Rattle.road_graph.specs.declared.values.Values.{Values}
use Rattle.road_graph.specs.Roads.{Roads}
use Rattle.restriction_log.specs.States.{InForce, values_at}
use Rattle.clearance_rules.specs.Loads.{LoadParts}
use Rattle.clearance_rules.specs.Limits.{posted_limit, group_limit, weights_limit, limit_of_fit, span_limit, limit_of_span, first_of_spans, spans_limit, limit_of}
use Rattle.clearance_rules.specs.declared.limit.Limit.{Limit}
use Rattle.clearance_rules.specs.declared.limit.Limit.TheVariants.{Group}
use Rattle.axle_limits.proofs.Allowance.{any_over}

-- where the worst group passes, no limit on groups fails
pub worst_within : (load : LoadParts) (g : WorstGroup) (allowance s : ℕ) → IsWorst load.train g → 1000 * g.weight ≤ allowance * g.limit → None ≡ group_limit allowance load s
unfolding group_limit
worst_within load g allowance s is passes =
    rw (any_over load.train g allowance is, le-ltb (allowance * g.limit) (1000 * g.weight) passes) refl

-- where it does not, it is named
pub worst_named : (load : LoadParts) (g : WorstGroup) (allowance s : ℕ) → IsWorst load.train g → g ≡ worst_of load.train → allowance * g.limit < 1000 * g.weight
    → Some (Group s g.i g.j g.weight g.limit allowance) ≡ group_limit allowance load s
unfolding group_limit
worst_named load g allowance s is same fails =
    rw (any_over load.train g allowance is, lt-ltb (allowance * g.limit) (1000 * g.weight) fails, ← same) refl

-- a span is judged by the effects of the train and of the design truck
pub judged : (axles : List Axle) (inches rating s i : ℕ) (truck design : Effects) → IsTrain axles → 1 ≤ inches → inches ≤ 6000
    → AreEffects (IsTrainPlaced axles) inches truck → AreEffects IsHs20Placed inches design
    → limit_of_fit (fit_of truck design rating) truck design rating s i ≡ span_limit axles inches rating s i
unfolding span_limit
judged axles inches rating s i truck design train some long one other =
    rw (effects_are_one axles inches truck train some long one, design_is_one inches design some long other) refl

-- the next of the spans that are left
pub next_span : (roads : Roads) (state : InForce) (axles : List Axle) (s : ℕ) (list : List ℕ) (k : ℕ) (limit : Option Limit) → k < length list
    → limit ≡ limit_of_span roads state axles s (get_or list k 0)
    → first_of_spans roads state axles s (drop k list) ≡ option_or limit (first_of_spans roads state axles s (drop (k + 1) list))
next_span roads state axles s list k limit inside is = rw (is, add-one, drop-cons list k 0 inside) refl

-- past the last span nothing fails
pub no_more_spans : (roads : Roads) (state : InForce) (axles : List Axle) (s : ℕ) (list : List ℕ) (k : ℕ) → length list ≤ k
    → first_of_spans roads state axles s (drop k list) ≡ None
no_more_spans roads state axles s list k past = rw (drop_all k list past) refl

-- the limit of a segment from its parts
pub in_parts : (roads : Roads) (state : InForce) (load : LoadParts) (s : ℕ) (values : Values) (posted weights : Option Limit)
    → values ≡ values_at state.values s → posted_limit values load s ≡ posted → weights_limit values load s ≡ weights
    → option_or posted (option_or weights (spans_limit roads state load.train s)) ≡ limit_of roads state load s
unfolding limit_of
in_parts roads state load s values posted weights ev ep ew = rw (← ep, ← ew, ev) refl
