-- Which limit of a segment fails a load first, in a state of what is posted.
use Rattle.std.specs.Prelude.{◌≡◌, ℕ, ◌≤◌, Bool, false, nat_lt, List, [], ◌∷◌, slice_get, Option, Some, None, is_none, if◌then◌else◌}
use Rattle.std.specs.List.{list_any}
use Rattle.std.specs.Option.{option_or}
use Rattle.axle_train.specs.declared.axle.Axle.{Axle}
use Rattle.axle_limits.specs.Groups.{gross_of, groups_of}
use Rattle.axle_limits.specs.Worst.{AllPass, is_over, worst_of}
use Rattle.axle_limits.specs.Tridems.{TridemsAreWithin, heaviest_tridem_of}
use Rattle.axle_limits.specs.declared.tridem.Heaviest.{Heaviest}
use Rattle.span_rating.specs.declared.loading.Effects.{Effects}
use Rattle.span_rating.specs.declared.judgement.Fit.{Fit}
use Rattle.span_rating.specs.declared.judgement.Fit.TheVariants as fit
use Rattle.span_rating.specs.Judgement.{fit_of}
use Rattle.span_rating.specs.Carrying.{Carries}
use Rattle.hs20_truck.specs.Effects.{effects_of, design_of}
use Rattle.road_graph.specs.declared.values.Values.{Values}
use Rattle.road_graph.specs.declared.segment.Span.{Span}
use Rattle.road_graph.specs.Roads.{Roads, span_at, spans_of}
use Rattle.restriction_log.specs.States.{InForce, values_at, rating_at}
use Rattle.clearance_rules.specs.Loads.{LoadParts}
use Rattle.clearance_rules.specs.declared.limit.Limit.{Limit}
use Rattle.clearance_rules.specs.declared.limit.Limit.TheVariants.{Closed, Height, Width, Length, Gross, Group, Tridem, Moment, Shear}

-- the first posted value that fails the load: the segment is closed, or the load is higher, wider, longer or heavier
unfoldable pub posted_limit : Values → LoadParts → ℕ → Option Limit
posted_limit values load segment =
    if values.closed then Some (Closed segment)
    else (if nat_lt values.height load.height then Some (Height segment load.height values.height)
    else (if nat_lt values.width load.width then Some (Width segment load.width values.width)
    else (if nat_lt values.length load.length then Some (Length segment load.length values.length)
    else (if nat_lt values.gross (gross_of load.train) then Some (Gross segment (gross_of load.train) values.gross)
    else None))))

-- the failing limit on groups of axles: where any group is over the allowance, the worst one is named
unfoldable pub group_limit : ℕ → LoadParts → ℕ → Option Limit
group_limit allowance load segment =
    let worst = worst_of load.train in
    if list_any (is_over allowance) (groups_of load.train)
    then Some (Group segment worst.i worst.j worst.weight worst.limit allowance)
    else None

-- the failing limit on a tridem group, if there is one: it is over its posted weight
abbrev pub limit_of_tridem : ℕ → ℕ → Option Heaviest → Option Limit
limit_of_tridem pounds segment None = None
limit_of_tridem pounds segment (Some g) = if nat_lt pounds g.weight then Some (Tridem segment g.i g.j g.weight pounds) else None

-- the failing limit on tridem groups: where any is over its posted weight, the heaviest one is named
unfoldable pub tridem_limit : ℕ → LoadParts → ℕ → Option Limit
tridem_limit pounds load segment = limit_of_tridem pounds segment (heaviest_tridem_of load.train)

-- the first failing limit on the weights of groups of axles: the allowance, then the posted weight of tridem groups
unfoldable pub weights_limit : Values → LoadParts → ℕ → Option Limit
weights_limit values load segment =
    option_or (group_limit values.allowance load segment) (tridem_limit values.tridem load segment)

-- what a judgement of a span says of the limit that fails
abbrev pub limit_of_fit : Fit → Effects → Effects → ℕ → ℕ → ℕ → Option Limit
limit_of_fit fit.Fits truck design rating segment span = None
limit_of_fit fit.Moment truck design rating segment span = Some (Moment segment span truck.moment design.moment rating)
limit_of_fit fit.Shear truck design rating segment span = Some (Shear segment span truck.shear design.shear rating)

-- the failing limit of a span of so many inches with this rating, moment before shear
unfoldable pub span_limit : List Axle → ℕ → ℕ → ℕ → ℕ → Option Limit
span_limit axles inches rating segment span =
    let truck = effects_of axles inches in
    let design = design_of inches in
    limit_of_fit (fit_of truck design rating) truck design rating segment span

-- the failing limit of a span of a segment, with its rating in a state
abbrev pub limit_of_span : Roads → InForce → List Axle → ℕ → ℕ → Option Limit
limit_of_span roads state axles segment span =
    span_limit axles (span_at roads.spans span).inches (rating_at state.ratings span) segment span

-- the first failing limit of these spans of a segment
abbrev pub first_of_spans : Roads → InForce → List Axle → ℕ → List ℕ → Option Limit
first_of_spans roads state axles segment [] = None
first_of_spans roads state axles segment (span ∷ spans) =
    option_or (limit_of_span roads state axles segment span) (first_of_spans roads state axles segment spans)

-- the first failing limit of the spans of a segment, by rising number
abbrev pub spans_limit : Roads → InForce → List Axle → ℕ → Option Limit
spans_limit roads state axles segment = first_of_spans roads state axles segment (spans_of roads.spans segment)

-- the first limit of the segment that fails the load: a posted value, the weight of a group of axles, a span by rising number
unfoldable pub limit_of : Roads → InForce → LoadParts → ℕ → Option Limit
limit_of roads state load segment =
    let values = values_at state.values segment in
    option_or (posted_limit values load segment)
    (option_or (weights_limit values load segment)
    (spans_limit roads state load.train segment))

-- whether the segment meets the load: no limit fails
abbrev pub meets : Roads → InForce → LoadParts → ℕ → Bool
meets roads state load segment = is_none (limit_of roads state load segment)

-- the load is within the posted values of an open segment
pub record IsWithinPosted (values : Values) (load : LoadParts) : Type 0 where
  pub is_open : values.closed ≡ false
  pub height : load.height ≤ values.height
  pub width : load.width ≤ values.width
  pub length : load.length ≤ values.length
  pub gross : gross_of load.train ≤ values.gross

-- the segment meets the load, in words: it is open, the load is within its posted values, every group of axles passes the
-- allowance and every tridem group its posted weight, and every span on it carries the truck
pub record Meets (roads : Roads) (state : InForce) (load : LoadParts) (segment : ℕ) : Type 0 where
  pub posted : IsWithinPosted (values_at state.values segment) load
  pub groups : AllPass load.train (values_at state.values segment).allowance
  pub tridems : TridemsAreWithin load.train (values_at state.values segment).tridem
  pub spans : (i : ℕ) (t : Span) → slice_get roads.spans i ≡ Some t → t.segment ≡ segment → Carries load.train t.inches (rating_at state.ratings i)
