-- The limit that is named for a segment may stand in a journal.
use Rattle.std.proofs.Common.{◌≡◌, ◌+◌, ◌*◌, ◌-◌, ◌^◌, ◌<◌, ◌≤◌, ◌&&◌, ◌∷◌, [], List, ℕ, suc, Bool, true, false, ltb, leb, cond, All, length, get_or, fold, refl, sym, subst, Option, Some, None, inl, inr, arith}
use Rattle.std.specs.Prelude.{slice_get, slice_set}
use Rattle.std.specs.List.{list_any}
use Rattle.std.specs.Option.{option_or}
use Rattle.std.proofs.lemmas.Bool.{leb-true, cases_lt}
use Rattle.std.proofs.lemmas.List.{get_or_past}
use Rattle.std.proofs.lemmas.List.Elements.{All-head, All-map, All-set, All-tail}
use Rattle.std.proofs.lemmas.Option.{slice_get-get_or, get_or_from_slice_get, none-some, slice_get_within}
use Rattle.std.proofs.Math.Nat.{div-le_self, mul-le-mul}
use Rattle.axle_train.specs.declared.axle.Axle.{Axle}
use Rattle.axle_train.specs.Bounds.{IsTrain}
use Rattle.axle_train.specs.Trains.{spread, axle_at}
use Rattle.axle_train.proofs.Places.{axle_fits, group_light}
use Rattle.bridge_formula.specs.Formula.{formula_limit}
use Rattle.axle_limits.specs.Groups.{gross_of, groups_of}
use Rattle.axle_limits.specs.Limits.{is_two_tandem, computed_limit_of as limit_of_group}
use Rattle.axle_limits.specs.Worst.{is_over, worst_of}
use Rattle.axle_limits.specs.declared.group.GroupLimit.{GroupLimit}
use Rattle.axle_limits.specs.declared.group.Rule.TheVariants as rule
use Rattle.axle_limits.proofs.Tridems.{tridem_is_computed}
use Rattle.axle_limits.proofs.WorstGroups.{worst_is_there}
use Rattle.axle_limits.specs.Tridems.{heaviest_tridem_of}
use Rattle.axle_limits.specs.declared.tridem.Heaviest.{Heaviest}
use Rattle.influence_line.specs.Fractions.{IsSmall, Ratio}
use Rattle.span_rating.specs.declared.loading.Effects.{Effects}
use Rattle.span_rating.specs.declared.judgement.Fit.{Fit}
use Rattle.span_rating.specs.declared.judgement.Fit.TheVariants as fit
use Rattle.span_rating.specs.Judgement.{fit_of}
use Rattle.hs20_truck.specs.Effects.{effects_of, design_of}
use Rattle.hs20_truck.proofs.OneEffects.{effects_are_the_peaks, design_is_the_peaks}
use Rattle.road_graph.specs.declared.segment.Segment.{Segment}
use Rattle.road_graph.specs.declared.segment.Span.{Span}
use Rattle.road_graph.specs.declared.values.Values.{Values}
use Rattle.road_graph.specs.Ranges.{AreInRange, default_values, is_between}
use Rattle.road_graph.specs.Roads.{IsRoads, Roads, no_span, span_at, spans_of}
use Rattle.road_graph.proofs.Filters.{spans_are}
use Rattle.road_graph.proofs.Growth.{defaults_in_range, range-limit}
use Rattle.restriction_log.specs.declared.change.Change.{Change}
use Rattle.restriction_log.specs.declared.change.Replaced.{Replaced}
use Rattle.restriction_log.specs.declared.change.Replaced.TheVariants as replaced
use Rattle.restriction_log.specs.Changes.{AreTaken, replaced_by, takes, takes_replaced}
use Rattle.restriction_log.specs.States.{AreOf, InForce, base_of, rating_at, state_after, state_of, values_at, with_replaced}
use Rattle.clearance_rules.specs.Loads.{LoadParts, is_cross_section, is_length, is_load}
use Rattle.clearance_rules.specs.Limits.{first_of_spans, group_limit, limit_of, limit_of_fit, limit_of_span, limit_of_tridem, posted_limit, span_limit, tridem_limit, weights_limit}
use Rattle.clearance_rules.specs.declared.limit.Limit.{Limit}
use Rattle.clearance_rules.specs.declared.limit.Limit.TheVariants.{Closed, Height, Width, Length, Gross, Group, Tridem, Moment, Shear}
use Rattle.journal_reader.specs.Fits.{FitsIndex, FitsLimit, FitsNumber, FitsRatio}

pub both : (a b : Bool) → (a && b) ≡ true → (a ≡ true) × (b ≡ true)
both true b e = (refl, e)
both false b e = cc

-- the values in force are in their ranges
at_or : {A : Type 0} (P : A → Type 0) (xs : List A) (i : ℕ) (d : A) → All P xs → P d → P (get_or xs i d)
at_or P xs i d all here = elim (cases_lt i (length xs)) [
  | inl inside ↦ all i d inside
  | inr past ↦ subst P (sym (get_or_past xs i d past)) here
]

abbrev AreRanged : InForce → Type 0
AreRanged state = All AreInRange state.values

set_ranged : (state : InForce) (i : ℕ) (v : Values) → AreRanged state → AreInRange v → All AreInRange (slice_set state.values i v)
set_ranged state i v h fits = All-set AreInRange state.values i v fits h

with_ranged : (roads : Roads) (state : InForce) (r : Replaced) → takes_replaced roads r ≡ true → AreRanged state → AreRanged (with_replaced state r)
with_ranged roads state (replaced.Limit segment limit value) taken h =
    set_ranged state segment _ h (range-limit (values_at state.values segment) limit value (at_or AreInRange state.values segment default_values h defaults_in_range) (both _ _ taken).1)
with_ranged roads state (replaced.Rating span permille) taken h = h

after_ranged : (roads : Roads) (state : InForce) (c : Change) → takes roads c ≡ true → AreRanged state → AreRanged (state_after state c)
after_ranged roads state c = with_ranged roads state (replaced_by c)

all_ranged : (roads : Roads) (changes : List Change) (state : InForce) → AreTaken roads changes → AreRanged state → AreRanged (fold state_after state changes)
all_ranged roads [] state taken h = h
all_ranged roads (c ∷ cs) state taken h =
    all_ranged roads cs (state_after state c) (All-tail (λ (x : Change). takes roads x ≡ true) c cs taken) (after_ranged roads state c (All-head (λ (x : Change). takes roads x ≡ true) c cs taken) h)

base_ranged : (roads : Roads) → IsRoads roads → AreRanged (base_of roads)
base_ranged roads is = All-map AreInRange (λ (s : Segment). s.base) roads.segments
    (λ k d inside. (is.each k (get_or roads.segments k d) (slice_get-get_or roads.segments k d inside)).base)

pub state_ranged : (roads : Roads) (postings : List Change) → IsRoads roads → AreTaken roads postings → AreRanged (state_of roads postings)
state_ranged roads postings is taken = all_ranged roads postings (base_of roads) taken (base_ranged roads is)

-- what a limit is whose numbers are known
picked : (b : Bool) (x l : Limit) (o : Option Limit) → FitsLimit x → (o ≡ Some l → FitsLimit l) → cond b (Some x) o ≡ Some l → FitsLimit l
picked true x l o fits rest e = let same : x ≡ l = cc in subst FitsLimit same fits
picked false x l o fits rest e = rest e

either : (o p : Option Limit) (l : Limit) → (o ≡ Some l → FitsLimit l) → (p ≡ Some l → FitsLimit l) → option_or o p ≡ Some l → FitsLimit l
either (Some x) p l first rest e = first e
either None p l first rest e = rest e

pub most : (least bound n : ℕ) → is_between least bound n ≡ true → n ≤ bound
most least bound n e = leb-true _ _ (both (leb least n) (leb n bound) e).1

small_fits : (f : Ratio) → IsSmall f → FitsRatio f
small_fits f small = (omega (arith, small.num), omega (arith, small.den), small.lowest)

-- a group's limit by the formula is below 2^32
formula_small : (inches axles : ℕ) → inches ≤ 3000 → axles ≤ 32 → formula_limit inches axles < 2 ^ 32
formula_small inches axles short few =
    let quotient = div-le_self (2 * (inches * axles) + 12 * (axles - 1) - 1) (2 * (12 * (axles - 1))) in
    let product : inches * axles ≤ 3000 * 32 = mul-le-mul short few in
    omega (arith, quotient, product)

group_small : (axles : List Axle) (i j : ℕ) → IsTrain axles → i ≤ j → j < length axles → limit_of_group axles i j < 2 ^ 32
group_small axles i j train ordered inside =
    by (leb (spread axles i j) 40) (leb (spread axles i j) 96) (ltb (formula_limit (spread axles i j) (j - i + 1)) 68000 && is_two_tandem axles i j)
  where
    last : (axle_at axles j).place ≤ 3000
    last = (axle_fits axles j train.each inside).0

    by : (a b c : Bool) → (cond {A = GroupLimit} a (record { limit = 20000; rule = rule.Single }) (cond b (record { limit = 34000; rule = rule.Tandem }) (cond c (record { limit = 68000; rule = rule.TwoTandem })
        (record { limit = formula_limit (spread axles i j) (j - i + 1); rule = rule.Formula })))).limit < 2 ^ 32
    by true b c = omega arith
    by false true c = omega arith
    by false false true = omega arith
    by false false false = formula_small (spread axles i j) (j - i + 1) (omega (arith, last)) (omega (arith, train.few))

module _ (roads : Roads) (state : InForce) (load : LoadParts) (s : ℕ) (is : IsRoads roads) (of : AreOf roads state) (ranged : AreRanged state)
    (sizes : is_load load.height load.width load.length ≡ true) (train : IsTrain load.train) (here : FitsIndex s) where
  abbrev values : Values
  values = values_at state.values s

  in_range : AreInRange values
  in_range = at_or AreInRange state.values s default_values ranged defaults_in_range

  crossed : (is_cross_section load.height ≡ true) × (is_cross_section load.width ≡ true)
  crossed = both (is_cross_section load.height) (is_cross_section load.width) (both (is_cross_section load.height && is_cross_section load.width) (is_length load.length) sizes).0

  high : load.height < 2 ^ 32
  high = let h : load.height ≤ 999 = most 1 999 load.height crossed.0 in omega arith

  wide : load.width < 2 ^ 32
  wide = let h : load.width ≤ 999 = most 1 999 load.width crossed.1 in omega arith

  far : load.length < 2 ^ 32
  far =
      let h : load.length ≤ 9999 = most 1 9999 load.length (both (is_cross_section load.height && is_cross_section load.width) (is_length load.length) sizes).1 in
      omega arith

  heavy : gross_of load.train < 2 ^ 32
  heavy = omega (arith, train.gross)

  posted_fits : (l : Limit) → posted_limit values load s ≡ Some l → FitsLimit l
  unfolding posted_limit
  posted_fits l e =
      let height : values.height < 2 ^ 32 = omega (arith, most 1 999 values.height in_range.height) in
      let width : values.width < 2 ^ 32 = omega (arith, most 1 999 values.width in_range.width) in
      let long : values.length < 2 ^ 32 = omega (arith, most 1 9999 values.length in_range.length) in
      let gross : values.gross < 2 ^ 32 = omega (arith, most 1 2000000 values.gross in_range.gross) in
      picked values.closed (Closed s) l _ here
      (picked (ltb values.height load.height) (Height s load.height values.height) l _ (here, high, height)
      (picked (ltb values.width load.width) (Width s load.width values.width) l _ (here, wide, width)
      (picked (ltb values.length load.length) (Length s load.length values.length) l _ (here, far, long)
      (picked (ltb values.gross (gross_of load.train)) (Gross s (gross_of load.train) values.gross) l None (here, heavy, gross) (λ none. absurd (none-some l none)))))) e

  group_fits : (l : Limit) → group_limit values.allowance load s ≡ Some l → FitsLimit l
  unfolding group_limit
  group_fits l e =
      let worst = worst_of load.train in
      let group = (worst_is_there load.train (omega (arith, train.many))).is_group in
      let weight : worst.weight < 2 ^ 32 = omega (arith, group.weight_is, group_light load.train worst.i (worst.j + 1 - worst.i), train.gross) in
      let small : worst.limit < 2 ^ 32 = omega (arith, group.limit_is, group_small load.train worst.i worst.j train group.ordered group.within) in
      let allowance : values.allowance < 2 ^ 32 = omega (arith, leb-true _ _ in_range.allowance) in
      let first : worst.i < 65536 = omega (arith, group.ordered, group.within, train.few) in
      let last : worst.j < 65536 = omega (arith, group.within, train.few) in
      picked (list_any (is_over values.allowance) (groups_of load.train)) (Group s worst.i worst.j worst.weight worst.limit values.allowance) l None
      (here, first, last, weight, small, allowance) (λ none. absurd (none-some l none)) e

  tridem_fits : (l : Limit) → tridem_limit values.tridem load s ≡ Some l → FitsLimit l
  unfolding tridem_limit
  tridem_fits l = by (heaviest_tridem_of load.train) refl
    where
      by : (o : Option Heaviest) → heaviest_tridem_of load.train ≡ o → limit_of_tridem values.tridem s o ≡ Some l → FitsLimit l
      by None there e = absurd (none-some l e)
      by (Some g) there e =
          let heaviest = (tridem_is_computed.some load.train g).0 there in
          let group = heaviest.is_tridem in
          let weight : g.weight < 2 ^ 32 = omega (arith, heaviest.weight_is, group_light load.train g.i (g.j + 1 - g.i), train.gross) in
          let tridem : values.tridem < 2 ^ 32 = omega (arith, most 1 600000 values.tridem in_range.tridem) in
          let first : g.i < 65536 = omega (arith, group.three, group.within, train.few) in
          let last : g.j < 65536 = omega (arith, group.within, train.few) in
          picked (ltb values.tridem g.weight) (Tridem s g.i g.j g.weight values.tridem) l None (here, first, last, weight, tridem) (λ none. absurd (none-some l none)) e

  weights_fit : (l : Limit) → weights_limit values load s ≡ Some l → FitsLimit l
  unfolding weights_limit
  weights_fit l = either (group_limit values.allowance load s) (tridem_limit values.tridem load s) l (group_fits l) (tridem_fits l)

  -- a span of the segment
  span_fits : (i : ℕ) (t : Span) (l : Limit) → slice_get roads.spans i ≡ Some t → limit_of_span roads state load.train s i ≡ Some l → FitsLimit l
  unfolding span_limit
  span_fits i t l at = by (fit_of truck design (rating_at state.ratings i))
    where
      same : span_at roads.spans i ≡ t
      same = get_or_from_slice_get roads.spans i t no_span at

      inches : ℕ
      inches = (span_at roads.spans i).inches

      some : 1 ≤ inches
      some = subst (λ (u : Span). 1 ≤ u.inches) (sym same) (is.each_span i t at).some

      long : inches ≤ 6000
      long = subst (λ (u : Span). u.inches ≤ 6000) (sym same) (is.each_span i t at).long

      truck : Effects
      truck = effects_of load.train inches

      design : Effects
      design = design_of inches

      number : FitsIndex i
      number = omega (arith, slice_get_within roads.spans i t at, is.few_spans)

      rating : FitsNumber (rating_at state.ratings i)
      rating = omega (arith, of.in_range i)

      by : (f : Fit) → limit_of_fit f truck design (rating_at state.ratings i) s i ≡ Some l → FitsLimit l
      by fit.Fits e = absurd (none-some l e)
      by fit.Moment e =
          let own = effects_are_the_peaks load.train inches train some long in
          let other = design_is_the_peaks inches some long in
          let named : Moment s i truck.moment design.moment (rating_at state.ratings i) ≡ l = cc in
          subst FitsLimit named (here, number, small_fits truck.moment own.small.moment, small_fits design.moment other.small.moment, rating)
      by fit.Shear e =
          let own = effects_are_the_peaks load.train inches train some long in
          let other = design_is_the_peaks inches some long in
          let named : Shear s i truck.shear design.shear (rating_at state.ratings i) ≡ l = cc in
          subst FitsLimit named (here, number, small_fits truck.shear own.small.shear, small_fits design.shear other.small.shear, rating)

  spans_fit : (list : List ℕ) (l : Limit) → ((k i : ℕ) → slice_get list k ≡ Some i → (t : Span) × (slice_get roads.spans i ≡ Some t)) → first_of_spans roads state load.train s list ≡ Some l → FitsLimit l
  spans_fit [] l there e = absurd (none-some l e)
  spans_fit (i ∷ list) l there e =
      let at = there 0 i refl in
      either (limit_of_span roads state load.train s i) (first_of_spans roads state load.train s list) l (span_fits i at.0 l at.1) (spans_fit list l (λ k j h. there (suc k) j h)) e

  pub limit_fits : (l : Limit) → limit_of roads state load s ≡ Some l → FitsLimit l
  unfolding limit_of
  limit_fits l e =
      either (posted_limit values load s) _ l (posted_fits l)
      (either (weights_limit values load s) _ l (weights_fit l)
      (spans_fit (spans_of roads.spans s) l (λ k i at. let (t, there, on) = (spans_are roads.spans s).sound k i at in (t, there)))) e
