-- What it says that a limit fails a load.
use Rattle.std.specs.Prelude.{◌≡◌, ℕ, ◌*◌, ◌<◌, true, length}
use Rattle.axle_limits.specs.Groups.{gross_of}
use Rattle.axle_limits.specs.Worst.{IsWorst}
use Rattle.axle_limits.specs.Tridems.{IsHeaviestTridem}
use Rattle.influence_line.specs.Fractions.{Ratio}
use Rattle.influence_line.specs.Peaks.{IsPeakMoment, IsPeakShear, IsTrainPlaced, IsHs20Placed}
use Rattle.road_graph.specs.Roads.{Roads, span_at}
use Rattle.restriction_log.specs.States.{InForce, values_at, rating_at}
use Rattle.clearance_rules.specs.Loads.{LoadParts}
use Rattle.clearance_rules.specs.declared.limit.Limit.{Limit}
use Rattle.clearance_rules.specs.declared.limit.Limit.TheVariants.{Closed, Height, Width, Length, Gross, Group, Tridem, Moment, Shear}

-- an effect of a truck on a span is more than so many thousandths of the design truck's
abbrev pub IsOver : ℕ → Ratio → Ratio → Type 0
IsOver rating has design = rating * design.num * has.den < 1000 * has.num * design.den

-- the span is on the segment and has this rating
abbrev pub IsRatedSpan : Roads → InForce → ℕ → ℕ → ℕ → Type 0
IsRatedSpan roads state segment span rating =
    (span < length roads.spans) × ((span_at roads.spans span).segment ≡ segment) × (rating ≡ rating_at state.ratings span)

-- the limit fails the load in this state: its two sides are those of the load and of its segment, and the one is over the
-- other. The group is the worst one, and a tridem group the heaviest one; a moment and a shear are peaks over all placements of the truck and of the HS20-44
-- truck
abbrev pub Fails : Roads → InForce → LoadParts → Limit → Type 0
Fails roads state load (Closed s) = (values_at state.values s).closed ≡ true
Fails roads state load (Height s has allowed) =
    (has ≡ load.height) × (allowed ≡ (values_at state.values s).height) × (allowed < has)
Fails roads state load (Width s has allowed) =
    (has ≡ load.width) × (allowed ≡ (values_at state.values s).width) × (allowed < has)
Fails roads state load (Length s has allowed) =
    (has ≡ load.length) × (allowed ≡ (values_at state.values s).length) × (allowed < has)
Fails roads state load (Gross s has allowed) =
    (has ≡ gross_of load.train) × (allowed ≡ (values_at state.values s).gross) × (allowed < has)
Fails roads state load (Group s i j weight limit allowance) =
    IsWorst load.train (record { i = i; j = j; weight = weight; limit = limit })
    × (allowance ≡ (values_at state.values s).allowance) × (allowance * limit < 1000 * weight)
Fails roads state load (Tridem s i j weight allowed) =
    IsHeaviestTridem load.train (record { i = i; j = j; weight = weight })
    × (allowed ≡ (values_at state.values s).tridem) × (allowed < weight)
Fails roads state load (Moment s span has design rating) =
    IsRatedSpan roads state s span rating × IsOver rating has design
    × IsPeakMoment (IsTrainPlaced load.train) (span_at roads.spans span).inches has.num has.den
    × IsPeakMoment IsHs20Placed (span_at roads.spans span).inches design.num design.den
Fails roads state load (Shear s span has design rating) =
    IsRatedSpan roads state s span rating × IsOver rating has design
    × IsPeakShear (IsTrainPlaced load.train) (span_at roads.spans span).inches has.num has.den
    × IsPeakShear IsHs20Placed (span_at roads.spans span).inches design.num design.den

-- the segment that a limit is of
abbrev pub segment_of : Limit → ℕ
segment_of (Closed s) = s
segment_of (Height s has allowed) = s
segment_of (Width s has allowed) = s
segment_of (Length s has allowed) = s
segment_of (Gross s has allowed) = s
segment_of (Group s i j weight limit allowance) = s
segment_of (Tridem s i j weight allowed) = s
segment_of (Moment s span has design rating) = s
segment_of (Shear s span has design rating) = s

-- the limit is one of the segment, and fails the load there
pub record FailsAt (roads : Roads) (state : InForce) (load : LoadParts) (s : ℕ) (limit : Limit) : Type 0 where
  pub segment : segment_of limit ≡ s
  pub fails : Fails roads state load limit
