-- The limit that is named is the first of the segment's limits that fails the load.
use Rattle.std.proofs.Common.{◌≡◌, ◌∷◌, [], ℕ, zero, suc, ◌+◌, ◌*◌, ◌⊎◌, inl, inr, ◌<◌, ◌≤◌, List, length, Bool, true, false, ltb, leb, cond, arith, ap, sym, subst, refl, ◌∙◌, Option, Some, None}
use Rattle.std.specs.Prelude.{slice_get}
use Rattle.std.specs.List.{list_any}
use Rattle.std.specs.Option.{option_or}
use Rattle.std.proofs.lemmas.Bool.{leb-false, leb-true, ltb-true, lt-ltb}
use Rattle.std.proofs.lemmas.Option.{get_or_from_slice_get, slice_get_within, slice_get-get_or, none-some}
use Rattle.axle_train.specs.Bounds.{IsTrain}
use Rattle.axle_limits.specs.Groups.{gross_of, groups_of}
use Rattle.axle_limits.specs.Worst.{is_over as is_group_over, worst_of}
use Rattle.axle_limits.specs.declared.worst_group.WorstGroup.{WorstGroup}
use Rattle.axle_limits.proofs.Allowance.{any_over}
use Rattle.axle_limits.proofs.WorstGroups.{worst_is_there, worst_is_one}
use Rattle.axle_limits.proofs.Tridems.{heaviest_is_found, tridem_is_computed}
use Rattle.axle_limits.specs.Tridems.{IsHeaviestTridem, heaviest_tridem_of}
use Rattle.axle_limits.specs.declared.tridem.Heaviest.{Heaviest}
use Rattle.influence_line.specs.Fractions.{IsLowest, Ratio}
use Rattle.influence_line.specs.Peaks.{IsTrainPlaced, IsHs20Placed}
use Rattle.influence_line.proofs.Unique.{moment_same, moment_unique, shear_same, shear_unique}
use Rattle.span_rating.specs.declared.loading.Effects.{Effects}
use Rattle.span_rating.specs.declared.judgement.Fit.TheVariants as fit
use Rattle.span_rating.proofs.OneValue.{within_from}
use Rattle.hs20_truck.specs.Effects.{effects_of, design_of}
use Rattle.hs20_truck.proofs.OneEffects.{effects_are_the_peaks, design_is_the_peaks}
use Rattle.road_graph.specs.declared.segment.Span.{Span}
use Rattle.road_graph.specs.declared.values.Values.{Values}
use Rattle.road_graph.specs.Roads.{Roads, IsRoads, no_span, span_at, spans_of}
use Rattle.road_graph.proofs.Filters.{spans_are}
use Rattle.restriction_log.specs.States.{InForce, values_at, rating_at}
use Rattle.clearance_rules.specs.Loads.{LoadParts}
use Rattle.clearance_rules.specs.Limits.{posted_limit, group_limit, tridem_limit, limit_of_tridem, weights_limit, limit_of_fit, span_limit, limit_of_span, first_of_spans, limit_of}
use Rattle.clearance_rules.specs.Failing.{IsOver, FailsAt}
use Rattle.clearance_rules.specs.Order.{place_of, NoneFails, IsInLowestTerms, FailsFirst}
use Rattle.clearance_rules.specs.Laws.{NamedLimitFails, NamedLimitIsFirst, NoneNamedWhereNoneFails}
use Rattle.clearance_rules.specs.declared.limit.Limit.{Limit}
use Rattle.clearance_rules.specs.declared.limit.Limit.TheVariants.{Closed, Height, Width, Length, Gross, Group, Tridem, Moment, Shear}
use Rattle.clearance_rules.proofs.Naming.{worst_named}

-- a choice
taken : (b : Bool) (x l : Limit) → cond b (Some x) None ≡ Some l → (b ≡ true) × (x ≡ l)
taken true x l e = (refl, cc)
taken false x l e = absurd (none-some l e)

missed : (b : Bool) (x l : Limit) → cond b None (Some x) ≡ Some l → (b ≡ false) × (x ≡ l)
missed true x l e = absurd (none-some l e)
missed false x l e = (refl, cc)

one_by_one : (a b c d : Bool) (x y z u : Limit) (o p : Option Limit)
    → option_or (cond a (Some x) (cond b (Some y) (cond c (Some z) (cond d (Some u) o)))) p
    ≡ option_or (cond a (Some x) None) (option_or (cond b (Some y) None) (option_or (cond c (Some z) None) (option_or (cond d (Some u) None) (option_or o p))))
one_by_one true b c d x y z u o p = refl
one_by_one false true c d x y z u o p = refl
one_by_one false false true d x y z u o p = refl
one_by_one false false false true x y z u o p = refl
one_by_one false false false false x y z u o p = refl

or_or : (o p q : Option Limit) → option_or (option_or o p) q ≡ option_or o (option_or p q)
or_or (Some x) p q = refl
or_or None p q = refl

-- a judgement of a span names its moment, or else its shear
in_two : (moment shear : Bool) (truck design : Effects) (rating s i : ℕ)
    → limit_of_fit (cond moment (cond shear fit.Fits fit.Shear) fit.Moment) truck design rating s i
    ≡ option_or (cond moment None (Some (Moment s i truck.moment design.moment rating))) (cond shear None (Some (Shear s i truck.shear design.shear rating)))
in_two true true truck design rating s i = refl
in_two true false truck design rating s i = refl
in_two false shear truck design rating s i = refl

-- a span of a segment
record IsThere (roads : Roads) (s i : ℕ) : Type 0 where
  within : i < length roads.spans
  on : (span_at roads.spans i).segment ≡ s
  some : 1 ≤ (span_at roads.spans i).inches
  long : (span_at roads.spans i).inches ≤ 6000

is_there : (roads : Roads) (s : ℕ) → IsRoads roads → (i : ℕ) (t : Span) → slice_get roads.spans i ≡ Some t → t.segment ≡ s → IsThere roads s i
is_there roads s is i t there on =
    let here : span_at roads.spans i ≡ t = get_or_from_slice_get roads.spans i t no_span there in
    let span = is.each_span i t there in
    record { within = slice_get_within roads.spans i t there; on = ap (λ (u : Span). u.segment) here ∙ on; some = rw here span.some; long = rw here span.long }

are_there : (roads : Roads) (s : ℕ) → IsRoads roads → (k i : ℕ) → slice_get (spans_of roads.spans s) k ≡ Some i → IsThere roads s i
are_there roads s is k i at = let (t, there, on) = (spans_are roads.spans s).sound k i at in is_there roads s is i t there on

span_here : (roads : Roads) (s : ℕ) → IsRoads roads → (i : ℕ) → i < length roads.spans → (span_at roads.spans i).segment ≡ s → IsThere roads s i
span_here roads s is i inside on = is_there roads s is i (span_at roads.spans i) (slice_get-get_or roads.spans i no_span inside) on

-- an effect that is over its rating is so in any terms
is_over : (rating : ℕ) (x y has other : Ratio) → has.num * x.den ≡ x.num * has.den → other.num * y.den ≡ y.num * other.den → 1 ≤ x.den → 1 ≤ y.den
    → IsOver rating has other → leb (1000 * x.num * y.den) (rating * y.num * x.den) ≡ false
is_over rating x y has other e f p q over = by (leb (1000 * x.num * y.den) (rating * y.num * x.den)) refl
  where
    by : (b : Bool) → leb (1000 * x.num * y.den) (rating * y.num * x.den) ≡ b → leb (1000 * x.num * y.den) (rating * y.num * x.den) ≡ false
    by false h = h
    by true h =
        let within = within_from rating x.num x.den y.num y.den has.num has.den other.num other.den e f p q (leb-true _ _ h) in
        absurd (omega (arith, within, over))

module _ (roads : Roads) (state : InForce) (load : LoadParts) (s : ℕ) where
  abbrev values : Values
  values = values_at state.values s

  abbrev truck : ℕ → Effects
  truck i = effects_of load.train (span_at roads.spans i).inches

  abbrev design : ℕ → Effects
  design i = design_of (span_at roads.spans i).inches

  abbrev rating : ℕ → ℕ
  rating i = rating_at state.ratings i

  abbrev moment_passes : ℕ → Bool
  moment_passes i = leb (1000 * (truck i).moment.num * (design i).moment.den) (rating i * (design i).moment.num * (truck i).moment.den)

  abbrev shear_passes : ℕ → Bool
  shear_passes i = leb (1000 * (truck i).shear.num * (design i).shear.den) (rating i * (design i).shear.num * (truck i).shear.den)

  -- the limits in their order: each with its two sides where it fails
  abbrev closed : Option Limit
  closed = cond values.closed (Some (Closed s)) None

  abbrev height : Option Limit
  height = cond (ltb values.height load.height) (Some (Height s load.height values.height)) None

  abbrev width : Option Limit
  width = cond (ltb values.width load.width) (Some (Width s load.width values.width)) None

  abbrev longest : Option Limit
  longest = cond (ltb values.length load.length) (Some (Length s load.length values.length)) None

  abbrev gross : Option Limit
  gross = cond (ltb values.gross (gross_of load.train)) (Some (Gross s (gross_of load.train) values.gross)) None

  abbrev group : Option Limit
  group = group_limit values.allowance load s

  abbrev tridem : Option Limit
  tridem = tridem_limit values.tridem load s

  abbrev moment : ℕ → Option Limit
  moment i = cond (moment_passes i) None (Some (Moment s i (truck i).moment (design i).moment (rating i)))

  abbrev shear : ℕ → Option Limit
  shear i = cond (shear_passes i) None (Some (Shear s i (truck i).shear (design i).shear (rating i)))

  abbrev of_spans : List ℕ → Option Limit
  of_spans [] = None
  of_spans (i ∷ list) = option_or (moment i) (option_or (shear i) (of_spans list))

  -- the first of these from the second on, from the third on, and so on
  abbrev from_spans : Option Limit
  from_spans = of_spans (spans_of roads.spans s)

  abbrev from_tridem : Option Limit
  from_tridem = option_or tridem from_spans

  abbrev from_group : Option Limit
  from_group = option_or group from_tridem

  abbrev from_gross : Option Limit
  from_gross = option_or gross from_group

  abbrev from_length : Option Limit
  from_length = option_or longest from_gross

  abbrev from_width : Option Limit
  from_width = option_or width from_length

  abbrev from_height : Option Limit
  from_height = option_or height from_width

  by_spans : (list : List ℕ) → first_of_spans roads state load.train s list ≡ of_spans list
  unfolding span_limit
  by_spans [] = refl
  by_spans (i ∷ list) =
      rw (in_two (moment_passes i) (shear_passes i) (truck i) (design i) (rating i) s i, by_spans list) (or_or (moment i) (shear i) (of_spans list))

  in_order : limit_of roads state load s ≡ option_or closed from_height
  unfolding limit_of posted_limit weights_limit
  in_order =
      rw (by_spans (spans_of roads.spans s), or_or group tridem from_spans)
      (one_by_one values.closed (ltb values.height load.height) (ltb values.width load.width) (ltb values.length load.length)
      (Closed s) (Height s load.height values.height) (Width s load.width values.width) (Length s load.length values.length)
      gross _)

  -- a limit of this place in the order fails
  record IsJudged (k : ℕ) (l : Limit) : Type 0 where
    place : place_of l ≡ k
    fails : FailsAt roads state load s l
    written : IsInLowestTerms l

  abbrev Says : ℕ → Option Limit → Type 0
  Says k o = (l : Limit) → o ≡ Some l → IsJudged k l

  same : (k : ℕ) (x l : Limit) → x ≡ l → IsJudged k x → IsJudged k l
  same k x l e h = subst (IsJudged k) e h

  closed_says : Says 0 closed
  closed_says l e =
      let is = taken values.closed (Closed s) l e in
      same 0 (Closed s) l is.1 (record { place = refl; fails = record { segment = refl; fails = is.0 }; written = tt })

  height_says : Says 1 height
  height_says l e =
      let is = taken (ltb values.height load.height) (Height s load.height values.height) l e in
      same 1 (Height s load.height values.height) l is.1 (record { place = refl; fails = record { segment = refl; fails = (refl, refl, ltb-true values.height load.height is.0) }; written = tt })

  width_says : Says 2 width
  width_says l e =
      let is = taken (ltb values.width load.width) (Width s load.width values.width) l e in
      same 2 (Width s load.width values.width) l is.1 (record { place = refl; fails = record { segment = refl; fails = (refl, refl, ltb-true values.width load.width is.0) }; written = tt })

  length_says : Says 3 longest
  length_says l e =
      let is = taken (ltb values.length load.length) (Length s load.length values.length) l e in
      same 3 (Length s load.length values.length) l is.1 (record { place = refl; fails = record { segment = refl; fails = (refl, refl, ltb-true values.length load.length is.0) }; written = tt })

  gross_says : Says 4 gross
  gross_says l e =
      let is = taken (ltb values.gross (gross_of load.train)) (Gross s (gross_of load.train) values.gross) l e in
      same 4 (Gross s (gross_of load.train) values.gross) l is.1 (record { place = refl; fails = record { segment = refl; fails = (refl, refl, ltb-true values.gross (gross_of load.train) is.0) }; written = tt })

  group_says : IsTrain load.train → Says 5 group
  unfolding group_limit
  group_says train l e =
      let worst = worst_of load.train in
      let is_worst = worst_is_there load.train (omega (arith, train.many)) in
      let is = taken (list_any (is_group_over values.allowance) (groups_of load.train)) (Group s worst.i worst.j worst.weight worst.limit values.allowance) l e in
      same 5 (Group s worst.i worst.j worst.weight worst.limit values.allowance) l is.1 (record {
        place = refl;
        fails = record { segment = refl; fails = (is_worst, refl, ltb-true (values.allowance * worst.limit) (1000 * worst.weight) (sym (any_over load.train worst values.allowance is_worst) ∙ is.0)) };
        written = tt;
      })

  tridem_says : Says 6 tridem
  unfolding tridem_limit
  tridem_says l e = by (heaviest_tridem_of load.train) refl e
    where
      by : (o : Option Heaviest) → heaviest_tridem_of load.train ≡ o → limit_of_tridem values.tridem s o ≡ Some l → IsJudged 6 l
      by None there e = absurd (none-some l e)
      by (Some g) there e =
          let is = taken (ltb values.tridem g.weight) (Tridem s g.i g.j g.weight values.tridem) l e in
          let heaviest = (tridem_is_computed.some load.train g).0 there in
          same 6 (Tridem s g.i g.j g.weight values.tridem) l is.1 (record { place = refl; fails = record { segment = refl; fails = (heaviest, refl, ltb-true values.tridem g.weight is.0) }; written = tt })

  moment_says : IsTrain load.train → (i : ℕ) → IsThere roads s i → Says (7 + 2 * i) (moment i)
  moment_says train i here l e =
      let own = effects_are_the_peaks load.train (span_at roads.spans i).inches train here.some here.long in
      let other = design_is_the_peaks (span_at roads.spans i).inches here.some here.long in
      let is = missed (moment_passes i) (Moment s i (truck i).moment (design i).moment (rating i)) l e in
      same (7 + 2 * i) (Moment s i (truck i).moment (design i).moment (rating i)) l is.1 (record {
        place = refl;
        fails = record { segment = refl; fails = ((here.within, here.on, refl), leb-false _ _ is.0, own.moment, other.moment) };
        written = (own.small.moment.lowest, other.small.moment.lowest);
      })

  shear_says : IsTrain load.train → (i : ℕ) → IsThere roads s i → Says (8 + 2 * i) (shear i)
  shear_says train i here l e =
      let own = effects_are_the_peaks load.train (span_at roads.spans i).inches train here.some here.long in
      let other = design_is_the_peaks (span_at roads.spans i).inches here.some here.long in
      let is = missed (shear_passes i) (Shear s i (truck i).shear (design i).shear (rating i)) l e in
      same (8 + 2 * i) (Shear s i (truck i).shear (design i).shear (rating i)) l is.1 (record {
        place = refl;
        fails = record { segment = refl; fails = ((here.within, here.on, refl), leb-false _ _ is.0, own.shear, other.shear) };
        written = (own.small.shear.lowest, other.small.shear.lowest);
      })

  -- what is named fails
  abbrev AllSay : Option Limit → Type 0
  AllSay o = (l : Limit) → o ≡ Some l → (k : ℕ) × IsJudged k l

  say : (k : ℕ) (o p : Option Limit) → Says k o → AllSay p → AllSay (option_or o p)
  say k (Some x) p says rest l e = (k, says l e)
  say k None p says rest l e = rest l e

  spans_say : IsTrain load.train → (list : List ℕ) → ((k i : ℕ) → slice_get list k ≡ Some i → IsThere roads s i) → AllSay (of_spans list)
  spans_say train [] there l e = absurd (none-some l e)
  spans_say train (i ∷ list) there l e =
      let rest = spans_say train list (λ k j at. there (suc k) j at) in
      say (7 + 2 * i) (moment i) _ (moment_says train i (there 0 i refl))
      (say (8 + 2 * i) (shear i) (of_spans list) (shear_says train i (there 0 i refl)) rest) l e

  all_say : IsRoads roads → IsTrain load.train → AllSay (limit_of roads state load s)
  all_say is train l e =
      say 0 closed from_height closed_says (say 1 height from_width height_says (say 2 width from_length width_says
      (say 3 longest from_gross length_says (say 4 gross from_group gross_says (say 5 group from_tridem (group_says train)
      (say 6 tridem from_spans tridem_says (spans_say train (spans_of roads.spans s) (are_there roads s is)))))))) l (sym in_order ∙ e)

  -- of some limits one is named: this one, or one of a place before it
  record IsNamedBy (o : Option Limit) (k : ℕ) (m : Limit) : Type 0 where
    limit : Limit
    is : o ≡ Some limit
    either : (place_of limit < k) ⊎ (limit ≡ m)

  here : (k : ℕ) (o p : Option Limit) (m : Limit) → o ≡ Some m → IsNamedBy (option_or o p) k m
  here k o p m e = record { limit = m; is = rw e refl; either = inr refl }

  later : (j k : ℕ) (o p : Option Limit) (m : Limit) → Says j o → j < k → IsNamedBy p k m → IsNamedBy (option_or o p) k m
  later j k (Some x) p m says less rest = let at = (says x refl).place in record { limit = x; is = refl; either = inl (omega (arith, at, less)) }
  later j k None p m says less rest = rest

  module _ (is : IsRoads roads) (train : IsTrain load.train) where
    in_chain : (k : ℕ) (m : Limit) → IsNamedBy (option_or closed from_height) k m → IsNamedBy (limit_of roads state load s) k m
    in_chain k m = subst (λ o. IsNamedBy o k m) (sym in_order)

    past_closed : (k : ℕ) (m : Limit) → 0 < k → IsNamedBy from_height k m → IsNamedBy (limit_of roads state load s) k m
    past_closed k m less by = in_chain k m (later 0 k closed from_height m closed_says less by)

    past_height : (k : ℕ) (m : Limit) → 1 < k → IsNamedBy from_width k m → IsNamedBy (limit_of roads state load s) k m
    past_height k m less by = past_closed k m (omega (arith, less)) (later 1 k height from_width m height_says less by)

    past_width : (k : ℕ) (m : Limit) → 2 < k → IsNamedBy from_length k m → IsNamedBy (limit_of roads state load s) k m
    past_width k m less by = past_height k m (omega (arith, less)) (later 2 k width from_length m width_says less by)

    past_length : (k : ℕ) (m : Limit) → 3 < k → IsNamedBy from_gross k m → IsNamedBy (limit_of roads state load s) k m
    past_length k m less by = past_width k m (omega (arith, less)) (later 3 k longest from_gross m length_says less by)

    past_gross : (k : ℕ) (m : Limit) → 4 < k → IsNamedBy from_group k m → IsNamedBy (limit_of roads state load s) k m
    past_gross k m less by = past_length k m (omega (arith, less)) (later 4 k gross from_group m gross_says less by)

    past_group : (k : ℕ) (m : Limit) → 5 < k → IsNamedBy from_tridem k m → IsNamedBy (limit_of roads state load s) k m
    past_group k m less by = past_gross k m (omega (arith, less)) (later 5 k group from_tridem m (group_says train) less by)

    past_tridem : (k : ℕ) (m : Limit) → 6 < k → IsNamedBy from_spans k m → IsNamedBy (limit_of roads state load s) k m
    past_tridem k m less by = past_group k m (omega (arith, less)) (later 6 k tridem from_spans m tridem_says less by)

    -- of rising spans one that fails is named, or one of a place before it
    abbrev AreRising : List ℕ → Type 0
    AreRising list = (j k a b : ℕ) → j < k → slice_get list j ≡ Some a → slice_get list k ≡ Some b → a < b

    named_span : (list : List ℕ) → AreRising list → ((k j : ℕ) → slice_get list k ≡ Some j → IsThere roads s j) → (k i : ℕ) → slice_get list k ≡ Some i → (m : Limit)
        → (moment i ≡ Some m → IsNamedBy (of_spans list) (7 + 2 * i) m) × (shear i ≡ Some m → IsNamedBy (of_spans list) (8 + 2 * i) m)
    named_span [] rising there k i at m = absurd (none-some i at)
    named_span (j ∷ list) rising there zero i at m =
        let first : j ≡ i = cc in
        rw (first) (
          λ e. here (7 + 2 * i) (moment i) _ m e,
          λ e. later (7 + 2 * i) (8 + 2 * i) (moment i) _ m (moment_says train i (there 0 i at)) (omega arith) (here (8 + 2 * i) (shear i) (of_spans list) m e),
        )
    named_span (j ∷ list) rising there (suc k) i at m =
        let less = rising 0 (suc k) j i (omega arith) refl at in
        let (by_moment, by_shear) = named_span list (λ a b x y h. rising (suc a) (suc b) x y (omega (arith, h))) (λ a x here. there (suc a) x here) k i at m in
        let past : (n : ℕ) → 7 + 2 * i ≤ n → IsNamedBy (of_spans list) n m → IsNamedBy (of_spans (j ∷ list)) n m =
        λ n up by. later (7 + 2 * j) n (moment j) _ m (moment_says train j (there 0 j refl)) (omega (arith, less, up))
        (later (8 + 2 * j) n (shear j) (of_spans list) m (shear_says train j (there 0 j refl)) (omega (arith, less, up)) by) in
        (λ e. past (7 + 2 * i) (omega arith) (by_moment e), λ e. past (8 + 2 * i) (omega arith) (by_shear e))

    -- the span's moment and shear, among those of the segment
    of_span : (i : ℕ) → IsThere roads s i → (m : Limit)
        → (moment i ≡ Some m → IsNamedBy (limit_of roads state load s) (7 + 2 * i) m) × (shear i ≡ Some m → IsNamedBy (limit_of roads state load s) (8 + 2 * i) m)
    of_span i there m =
        let spans = spans_are roads.spans s in
        let listed = spans.complete i (span_at roads.spans i) (slice_get-get_or roads.spans i no_span there.within) there.on in
        let (by_moment, by_shear) = named_span (spans_of roads.spans s) spans.rising (are_there roads s is) listed.0 i listed.1 m in
        (λ e. past_tridem (7 + 2 * i) m (omega arith) (by_moment e), λ e. past_tridem (8 + 2 * i) m (omega arith) (by_shear e))

    -- where a limit fails it is named, with these sides if its fractions are in lowest terms, or one of a place before it
    record IsMet (l : Limit) : Type 0 where
      limit : Limit
      place : place_of limit ≡ place_of l
      named : IsNamedBy (limit_of roads state load s) (place_of l) limit
      same : IsInLowestTerms l → limit ≡ l

    flagged : (b : Bool) (x : Limit) → b ≡ true → cond b (Some x) None ≡ Some x
    flagged b x e = rw e refl

    refused : (b : Bool) (x : Limit) → b ≡ false → cond b None (Some x) ≡ Some x
    refused b x e = rw e refl

    met_tridem : (g : Heaviest) → IsHeaviestTridem load.train g → values.tridem < g.weight → tridem ≡ Some (Tridem s g.i g.j g.weight values.tridem)
    unfolding tridem_limit
    met_tridem g is over =
        ap (limit_of_tridem values.tridem s) (heaviest_is_found load.train g is)
        ∙ flagged (ltb values.tridem g.weight) (Tridem s g.i g.j g.weight values.tridem) (lt-ltb values.tridem g.weight over)

    met : (l : Limit) → FailsAt roads state load s l → IsMet l
    met (Closed z) h = record {
      limit = Closed s;
      place = refl;
      named = in_chain 0 (Closed s) (here 0 closed from_height (Closed s) (flagged values.closed (Closed s) (rw h.segment at h.fails)));
      same = λ w. ap Closed (sym h.segment);
    }
    met (Height z has allowed) h =
        let (a, b, c) = (rw h.segment at h.fails) in
        let less : values.height < load.height = omega arith in
        let m = Height s load.height values.height in
        record {
          limit = m;
          place = refl;
          named = past_closed 1 m (omega arith) (here 1 height from_width m (flagged (ltb values.height load.height) m (lt-ltb _ _ less)));
          same = λ w. cc (h.segment, a, b);
        }
    met (Width z has allowed) h =
        let (a, b, c) = (rw h.segment at h.fails) in
        let less : values.width < load.width = omega arith in
        let m = Width s load.width values.width in
        record {
          limit = m;
          place = refl;
          named = past_height 2 m (omega arith) (here 2 width from_length m (flagged (ltb values.width load.width) m (lt-ltb _ _ less)));
          same = λ w. cc (h.segment, a, b);
        }
    met (Length z has allowed) h =
        let (a, b, c) = (rw h.segment at h.fails) in
        let less : values.length < load.length = omega arith in
        let m = Length s load.length values.length in
        record {
          limit = m;
          place = refl;
          named = past_width 3 m (omega arith) (here 3 longest from_gross m (flagged (ltb values.length load.length) m (lt-ltb _ _ less)));
          same = λ w. cc (h.segment, a, b);
        }
    met (Gross z has allowed) h =
        let (a, b, c) = (rw h.segment at h.fails) in
        let less : values.gross < gross_of load.train = omega arith in
        let m = Gross s (gross_of load.train) values.gross in
        record {
          limit = m;
          place = refl;
          named = past_length 4 m (omega arith) (here 4 gross from_group m (flagged (ltb values.gross (gross_of load.train)) m (lt-ltb _ _ less)));
          same = λ w. cc (h.segment, a, b);
        }
    met (Group z i j weight most allowance) h =
        let (a, b, c) = (rw h.segment at h.fails) in
        let g : WorstGroup = record { i = i; j = j; weight = weight; limit = most } in
        let m = Group s i j weight most values.allowance in
        record {
          limit = m;
          place = refl;
          named = past_gross 5 m (omega arith) (here 5 group from_tridem m (sym (worst_named load g values.allowance s a (worst_is_one load.train g a) (rw (← b) c))));
          same = λ w. cc (h.segment, b);
        }
    met (Tridem z i j weight allowed) h =
        let (a, b, c) = (rw h.segment at h.fails) in
        let g : Heaviest = record { i = i; j = j; weight = weight } in
        let m = Tridem s i j weight values.tridem in
        record {
          limit = m;
          place = refl;
          named = past_group 6 m (omega arith) (here 6 tridem from_spans m (met_tridem g a (rw b at c)));
          same = λ w. cc (h.segment, b);
        }
    met (Moment z i has other most) h =
        let ((inside, on, rated), over, peak, others_peak) = h.fails in
        let there = span_here roads s is i inside (on ∙ h.segment) in
        let inches = (span_at roads.spans i).inches in
        let own = effects_are_the_peaks load.train inches train there.some there.long in
        let hs20 = design_is_the_peaks inches there.some there.long in
        let same_has = moment_same (IsTrainPlaced load.train) inches has.num has.den (truck i).moment.num (truck i).moment.den there.some peak own.moment in
        let same_other = moment_same IsHs20Placed inches other.num other.den (design i).moment.num (design i).moment.den there.some others_peak hs20.moment in
        let m = Moment s i (truck i).moment (design i).moment (rating i) in
        record {
          limit = m;
          place = refl;
          named = (of_span i there m).0 (refused (moment_passes i) m (is_over (rating i) (truck i).moment (design i).moment has other same_has same_other own.moment.some hs20.moment.some (rw rated at over)));
          same = λ (low : IsLowest has × IsLowest other).
              let a = moment_unique (IsTrainPlaced load.train) inches has (truck i).moment there.some low.0 own.small.moment.lowest peak own.moment in
              let b = moment_unique IsHs20Placed inches other (design i).moment there.some low.1 hs20.small.moment.lowest others_peak hs20.moment in
              cc (h.segment, rated, a, b);
        }
    met (Shear z i has other most) h =
        let ((inside, on, rated), over, peak, others_peak) = h.fails in
        let there = span_here roads s is i inside (on ∙ h.segment) in
        let inches = (span_at roads.spans i).inches in
        let own = effects_are_the_peaks load.train inches train there.some there.long in
        let hs20 = design_is_the_peaks inches there.some there.long in
        let same_has = shear_same (IsTrainPlaced load.train) inches has.num has.den (truck i).shear.num (truck i).shear.den there.some peak own.shear in
        let same_other = shear_same IsHs20Placed inches other.num other.den (design i).shear.num (design i).shear.den there.some others_peak hs20.shear in
        let m = Shear s i (truck i).shear (design i).shear (rating i) in
        record {
          limit = m;
          place = refl;
          named = (of_span i there m).1 (refused (shear_passes i) m (is_over (rating i) (truck i).shear (design i).shear has other same_has same_other own.shear.some hs20.shear.some (rw rated at over)));
          same = λ (low : IsLowest has × IsLowest other).
              let a = shear_unique (IsTrainPlaced load.train) inches has (truck i).shear there.some low.0 own.small.shear.lowest peak own.shear in
              let b = shear_unique IsHs20Placed inches other (design i).shear there.some low.1 hs20.small.shear.lowest others_peak hs20.shear in
              cc (h.segment, rated, a, b);
        }

    -- what is named comes before all others that fail
    none_before : (l other : Limit) → limit_of roads state load s ≡ Some l → FailsAt roads state load s other → place_of l ≤ place_of other
    none_before l other e h =
        let m = met other h in
        let one : m.named.limit ≡ l = cc (m.named.is, e) in
        let place = ap place_of one in
        elim m.named.either [
          | inl less ↦ omega (arith, less, place)
          | inr same ↦ let at = ap place_of same in let mets = m.place in omega (arith, place, at, mets)
        ]

    first_only : (l : Limit) → FailsFirst roads state load s l → limit_of roads state load s ≡ Some l
    first_only l h =
        let m = met l h.fails in
        elim m.named.either [
          | inl less ↦ let no_less = h.first m.named.limit (all_say is train m.named.limit m.named.is).1.fails in absurd (omega (arith, less, no_less))
          | inr same ↦ m.named.is ∙ ap Some (same ∙ m.same h.written)
        ]

    none_only : NoneFails roads state load s → limit_of roads state load s ≡ None
    none_only none = by (limit_of roads state load s) refl
      where
        by : (o : Option Limit) → limit_of roads state load s ≡ o → limit_of roads state load s ≡ None
        by None e = e
        by (Some l) e = absurd (none l (all_say is train l e).1.fails)

pub named_limit_fails : NamedLimitFails
named_limit_fails roads state load s l is train e = (all_say roads state load s is train l e).1.fails

pub named_limit_is_first : NamedLimitIsFirst
named_limit_is_first roads state load s l is train = (
  λ e. let named = (all_say roads state load s is train l e).1 in
      record { fails = named.fails; written = named.written; first = λ other h. none_before roads state load s is train l other e h },
  first_only roads state load s is train l,
)

pub none_named : NoneNamedWhereNoneFails
none_named roads state load s is train = (
  λ e l h. none-some _ (sym e ∙ (met roads state load s is train l h).named.is),
  none_only roads state load s is train,
)
