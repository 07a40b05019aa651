-- No limit fails exactly where the segment meets the load.
use Rattle.std.proofs.Common.{◌≡◌, arith, ℕ, zero, suc, ◌+◌, ◌*◌, ◌≤◌, ◌<◌, ◌↔◌, List, [], ◌∷◌, Bool, true, false, cond, not, ◌&&◌, ltb, refl, sym, ap, ◌∙◌, Option, Some, None, inl, inr, length, get_or, drop}
use Rattle.std.specs.Prelude.{slice_get, is_some, is_none}
use Rattle.std.specs.List.{list_all, list_any}
use Rattle.std.specs.Option.{option_or}
use Rattle.std.proofs.lemmas.Bool.{ltb-false, le-ltb, not-false, true≢false, cases_Bool}
use Rattle.std.proofs.lemmas.Option.{none-some, get_or_from_slice_get}
use Rattle.axle_train.specs.declared.axle.Axle.{Axle}
use Rattle.axle_train.specs.Trains.{group_weight}
use Rattle.axle_limits.specs.Limits.{computed_limit_of as limit_of_group}
use Rattle.axle_limits.specs.Groups.{gross_of, group_at, groups_of}
use Rattle.axle_limits.specs.Worst.{AllPass, is_over}
use Rattle.axle_limits.specs.declared.worst_group.WorstGroup.{WorstGroup}
use Rattle.span_rating.specs.declared.loading.Effects.{Effects}
use Rattle.span_rating.specs.declared.judgement.Fit.{Fit}
use Rattle.span_rating.specs.declared.judgement.Fit.TheVariants.{Fits, Moment, Shear}
use Rattle.span_rating.specs.Judgement.{fit_of}
use Rattle.span_rating.specs.Carrying.{Carries}
use Rattle.span_rating.proofs.OneValue.{says_of_peaks}
use Rattle.hs20_truck.proofs.OneEffects.{effects_are_the_peaks, design_is_the_peaks}
use Rattle.influence_line.specs.Peaks.{IsTrainPlaced, IsHs20Placed}
use Rattle.axle_train.specs.Bounds.{IsTrain}
use Rattle.hs20_truck.specs.Effects.{effects_of, design_of}
use Rattle.road_graph.specs.declared.values.Values.{Values}
use Rattle.road_graph.specs.Roads.{Roads, IsRoads, no_span, span_at, spans_of}
use Rattle.road_graph.proofs.Filters.{spans_are}
use Rattle.restriction_log.specs.States.{InForce, values_at, rating_at}
use Rattle.clearance_rules.specs.Loads.{LoadParts}
use Rattle.clearance_rules.specs.Limits.{IsWithinPosted, Meets, posted_limit, group_limit, tridem_limit, limit_of_tridem, weights_limit, span_limit, limit_of_span, first_of_spans, spans_limit, limit_of, limit_of_fit, meets}
use Rattle.clearance_rules.specs.declared.limit.Limit.{Limit}
use Rattle.clearance_rules.specs.declared.limit.Limit.TheVariants as limit
use Rattle.axle_limits.proofs.Allowance.{any_is_not_all}
use Rattle.clearance_rules.proofs.Naming.{next_span}
use Rattle.axle_limits.proofs.Groups.{all_groups, each_group}
use Rattle.axle_limits.proofs.Tridems.{tridem_is_computed}
use Rattle.axle_limits.specs.Tridems.{TridemsAreWithin, heaviest_tridem_of}
use Rattle.axle_limits.specs.declared.tridem.Heaviest.{Heaviest}

-- a choice that gives nothing did not take its first part
not_taken : (b : Bool) (x : Limit) (o : Option Limit) → cond b (Some x) o ≡ None → (b ≡ false) × (o ≡ None)
not_taken true x o h = absurd (none-some x (sym h))
not_taken false x o h = (refl, h)

taken_next : (b : Bool) (x : Limit) (o : Option Limit) → b ≡ false → o ≡ None → cond b (Some x) o ≡ None
taken_next b x o h k = rw h k

or_none : (o p : Option Limit) → option_or o p ≡ None → (o ≡ None) × (p ≡ None)
or_none None p h = (refl, h)
or_none (Some x) p h = absurd (none-some x (sym h))

some_or : (o p : Option Limit) → is_none o ≡ false → is_none (option_or o p) ≡ false
some_or None p h = absurd (true≢false h)
some_or (Some x) p h = refl

is_none_only : (o : Option Limit) → is_none o ≡ true → o ≡ None
is_none_only None h = refl
is_none_only (Some x) h = absurd (true≢false (sym h))

none_or : (o p : Option Limit) → o ≡ None → p ≡ None → option_or o p ≡ None
none_or o p h k = rw h k

-- the posted values
posted_only : (values : Values) (load : LoadParts) (s : ℕ) → posted_limit values load s ≡ None → IsWithinPosted values load
unfolding posted_limit
posted_only values load s h =
    let a = not_taken values.closed _ _ h in
    let b = not_taken (ltb values.height load.height) _ _ a.1 in
    let c = not_taken (ltb values.width load.width) _ _ b.1 in
    let d = not_taken (ltb values.length load.length) _ _ c.1 in
    let e = not_taken (ltb values.gross (gross_of load.train)) _ _ d.1 in
    record {
      is_open = a.0;
      height = ltb-false values.height load.height b.0;
      width = ltb-false values.width load.width c.0;
      length = ltb-false values.length load.length d.0;
      gross = ltb-false values.gross (gross_of load.train) e.0;
    }

posted_none : (values : Values) (load : LoadParts) (s : ℕ) → IsWithinPosted values load → posted_limit values load s ≡ None
unfolding posted_limit
posted_none values load s is =
    taken_next values.closed _ _ is.is_open
    (taken_next (ltb values.height load.height) _ _ (le-ltb values.height load.height is.height)
    (taken_next (ltb values.width load.width) _ _ (le-ltb values.width load.width is.width)
    (taken_next (ltb values.length load.length) _ _ (le-ltb values.length load.length is.length)
    (taken_next (ltb values.gross (gross_of load.train)) _ _ (le-ltb values.gross (gross_of load.train) is.gross) refl))))

-- the groups of axles
within : (allowance : ℕ) (g : WorstGroup) → not (is_over allowance g) ≡ true → 1000 * g.weight ≤ allowance * g.limit
within allowance g h = elim (cases_Bool (is_over allowance g)) [
  | inl over ↦ absurd (true≢false (sym h ∙ ap not over))
  | inr passes ↦ ltb-false (allowance * g.limit) (1000 * g.weight) passes
]

groups_only : (allowance : ℕ) (load : LoadParts) (s : ℕ) → group_limit allowance load s ≡ None → AllPass load.train allowance
unfolding group_limit
groups_only allowance load s h i j ordered inside =
    let none = not_taken (list_any (is_over allowance) (groups_of load.train)) _ _ h in
    let all = not-false (list_all (λ g. not (is_over allowance g)) (groups_of load.train)) (sym (any_is_not_all (is_over allowance) (groups_of load.train)) ∙ none.0) in
    within allowance (group_at load.train i j) (each_group (λ g. not (is_over allowance g)) load.train i j all ordered inside)

groups_none : (allowance : ℕ) (load : LoadParts) (s : ℕ) → AllPass load.train allowance → group_limit allowance load s ≡ None
unfolding group_limit
groups_none allowance load s pass =
    let all = all_groups (λ g. not (is_over allowance g)) load.train
    (λ i j ordered inside. ap not (le-ltb (allowance * limit_of_group load.train i j) (1000 * group_weight load.train i j) (pass i j ordered inside))) in
    taken_next (list_any (is_over allowance) (groups_of load.train)) _ _ (any_is_not_all (is_over allowance) (groups_of load.train) ∙ ap not all) refl

-- the tridem groups: the heaviest decides for all
tridem_only : (pounds : ℕ) (load : LoadParts) (s : ℕ) → tridem_limit pounds load s ≡ None → TridemsAreWithin load.train pounds
unfolding tridem_limit
tridem_only pounds load s = by (heaviest_tridem_of load.train) refl
  where
    by : (o : Option Heaviest) → heaviest_tridem_of load.train ≡ o → limit_of_tridem pounds s o ≡ None → TridemsAreWithin load.train pounds
    by None e h i j is = absurd ((tridem_is_computed.none load.train).0 e i j is)
    by (Some g) e h i j is =
        let heaviest = (tridem_is_computed.some load.train g).0 e in
        let passes = not_taken (ltb pounds g.weight) _ _ h in
        omega (arith, heaviest.greatest i j is, ltb-false pounds g.weight passes.0)

tridem_none : (pounds : ℕ) (load : LoadParts) (s : ℕ) → TridemsAreWithin load.train pounds → tridem_limit pounds load s ≡ None
unfolding tridem_limit
tridem_none pounds load s pass = by (heaviest_tridem_of load.train) refl
  where
    by : (o : Option Heaviest) → heaviest_tridem_of load.train ≡ o → limit_of_tridem pounds s o ≡ None
    by None e = refl
    by (Some g) e =
        let heaviest = (tridem_is_computed.some load.train g).0 e in
        let low = pass g.i g.j heaviest.is_tridem in
        taken_next (ltb pounds g.weight) _ _ (le-ltb pounds g.weight (rw (← heaviest.weight_is) at low)) refl

-- the weights of groups
record WeightsPass (values : Values) (load : LoadParts) : Type 0 where
  groups : AllPass load.train values.allowance
  tridems : TridemsAreWithin load.train values.tridem

weights_only : (values : Values) (load : LoadParts) (s : ℕ) → weights_limit values load s ≡ None → WeightsPass values load
unfolding weights_limit
weights_only values load s h =
    let parts = or_none (group_limit values.allowance load s) (tridem_limit values.tridem load s) h in
    record { groups = groups_only values.allowance load s parts.0; tridems = tridem_only values.tridem load s parts.1 }

weights_none : (values : Values) (load : LoadParts) (s : ℕ) → WeightsPass values load → weights_limit values load s ≡ None
unfolding weights_limit
weights_none values load s pass =
    none_or (group_limit values.allowance load s) (tridem_limit values.tridem load s)
    (groups_none values.allowance load s pass.groups) (tridem_none values.tridem load s pass.tridems)

-- one span
fits_only : (truck design : Effects) (rating s i : ℕ) → limit_of_fit (fit_of truck design rating) truck design rating s i ≡ None → fit_of truck design rating ≡ Fits
fits_only truck design rating s i h = by (fit_of truck design rating) refl
  where
    by : (f : Fit) → fit_of truck design rating ≡ f → fit_of truck design rating ≡ Fits
    by Fits e = e
    by Moment e = absurd (none-some (limit.Moment s i truck.moment design.moment rating) (sym h ∙ rw e refl))
    by Shear e = absurd (none-some (limit.Shear s i truck.shear design.shear rating) (sym h ∙ rw e refl))

fits_none : (truck design : Effects) (rating s i : ℕ) → (fit_of truck design rating ≡ Moment → ⊥) → (fit_of truck design rating ≡ Shear → ⊥)
    → limit_of_fit (fit_of truck design rating) truck design rating s i ≡ None
fits_none truck design rating s i no_moment no_shear = by (fit_of truck design rating) refl
  where
    by : (f : Fit) → fit_of truck design rating ≡ f → limit_of_fit (fit_of truck design rating) truck design rating s i ≡ None
    by Fits e = rw e refl
    by Moment e = absurd (no_moment e)
    by Shear e = absurd (no_shear e)

span_only : (axles : List Axle) (inches rating s i : ℕ) → IsTrain axles → 1 ≤ inches → inches ≤ 6000
    → span_limit axles inches rating s i ≡ None → Carries axles inches rating
unfolding span_limit
span_only axles inches rating s i train some long h =
    let both = fits_only (effects_of axles inches) (design_of inches) rating s i h in
    let says = says_of_peaks (IsTrainPlaced axles) IsHs20Placed inches rating (effects_of axles inches) (design_of inches) some
    (effects_are_the_peaks axles inches train some long) (design_is_the_peaks inches some long) in
    let fits = says.fits.0 both in
    record { moment = fits.0; shear = fits.1 }

pub span_none : (axles : List Axle) (inches rating s i : ℕ) → IsTrain axles → 1 ≤ inches → inches ≤ 6000
    → Carries axles inches rating → span_limit axles inches rating s i ≡ None
unfolding span_limit
span_none axles inches rating s i train some long is =
    let says = says_of_peaks (IsTrainPlaced axles) IsHs20Placed inches rating (effects_of axles inches) (design_of inches) some
    (effects_are_the_peaks axles inches train some long) (design_is_the_peaks inches some long) in
    fits_none (effects_of axles inches) (design_of inches) rating s i (λ over. says.moment.0 over is.moment) (λ over. (says.shear.0 over).1 is.shear)

-- the spans of a list
abbrev AreInRange : Roads → List ℕ → Type 0
AreInRange roads list = (k i : ℕ) → slice_get list k ≡ Some i → (1 ≤ (span_at roads.spans i).inches) × ((span_at roads.spans i).inches ≤ 6000)

spans_only : (roads : Roads) (state : InForce) (axles : List Axle) (s : ℕ) (list : List ℕ) → IsTrain axles → AreInRange roads list
    → first_of_spans roads state axles s list ≡ None
    → (k i : ℕ) → slice_get list k ≡ Some i → Carries axles (span_at roads.spans i).inches (rating_at state.ratings i)
spans_only roads state axles s [] train range h k i at = absurd (none-some i at)
spans_only roads state axles s (span ∷ list) train range h zero i at =
    let parts = or_none (limit_of_span roads state axles s span) (first_of_spans roads state axles s list) h in
    let inches = range 0 span refl in
    let same : span ≡ i = cc in
    rw (← same) (span_only axles (span_at roads.spans span).inches (rating_at state.ratings span) s span train inches.0 inches.1 parts.0)
spans_only roads state axles s (span ∷ list) train range h (suc k) i at =
    let parts = or_none (limit_of_span roads state axles s span) (first_of_spans roads state axles s list) h in
    spans_only roads state axles s list train (λ n j on. range (suc n) j on) parts.1 k i at

spans_none : (roads : Roads) (state : InForce) (axles : List Axle) (s : ℕ) (list : List ℕ) → IsTrain axles → AreInRange roads list
    → ((k i : ℕ) → slice_get list k ≡ Some i → Carries axles (span_at roads.spans i).inches (rating_at state.ratings i))
    → first_of_spans roads state axles s list ≡ None
spans_none roads state axles s [] train range each = refl
spans_none roads state axles s (span ∷ list) train range each =
    let inches = range 0 span refl in
    none_or (limit_of_span roads state axles s span) (first_of_spans roads state axles s list)
    (span_none axles (span_at roads.spans span).inches (rating_at state.ratings span) s span train inches.0 inches.1 (each 0 span refl))
    (spans_none roads state axles s list train (λ n j on. range (suc n) j on) (λ k i at. each (suc k) i at))

in_range : (roads : Roads) (s : ℕ) → IsRoads roads → AreInRange roads (spans_of roads.spans s)
in_range roads s is k i at =
    let (t, there, on) = (spans_are roads.spans s).sound k i at in
    let here : span_at roads.spans i ≡ t = get_or_from_slice_get roads.spans i t no_span there in
    let span = is.each_span i t there in
    rw here (span.some, span.long)

-- no limit fails exactly where the segment meets the load
pub none_meets : (roads : Roads) (state : InForce) (load : LoadParts) (s : ℕ) → IsRoads roads → IsTrain load.train → limit_of roads state load s ≡ None → Meets roads state load s
unfolding limit_of
none_meets roads state load s is train h =
    let values = values_at state.values s in
    let a = or_none (posted_limit values load s) _ h in
    let b = or_none (weights_limit values load s) _ a.1 in
    let weights = weights_only values load s b.0 in
    record {
      posted = posted_only values load s a.0;
      groups = weights.groups;
      tridems = weights.tridems;
      spans = λ i t at on.
          let listed = (spans_are roads.spans s).complete i t at on in
          let here : span_at roads.spans i ≡ t = get_or_from_slice_get roads.spans i t no_span at in
          rw (← here) (spans_only roads state load.train s (spans_of roads.spans s) train (in_range roads s is) b.1 listed.0 i listed.1);
    }

pub meets_none : (roads : Roads) (state : InForce) (load : LoadParts) (s : ℕ) → IsRoads roads → IsTrain load.train → Meets roads state load s → limit_of roads state load s ≡ None
unfolding limit_of
meets_none roads state load s is train meets =
    let values = values_at state.values s in
    none_or (posted_limit values load s) _ (posted_none values load s meets.posted)
    (none_or (weights_limit values load s) _ (weights_none values load s (record { groups = meets.groups; tridems = meets.tridems }))
    (spans_none roads state load.train s (spans_of roads.spans s) train (in_range roads s is) (λ k i at.
    let (t, there, on) = (spans_are roads.spans s).sound k i at in
    let here : span_at roads.spans i ≡ t = get_or_from_slice_get roads.spans i t no_span there in
    rw here (meets.spans i t there on))))

-- a segment passes the test exactly where it meets the load
pub met_means : (roads : Roads) (state : InForce) (load : LoadParts) (s : ℕ) (met : Bool) → IsRoads roads → IsTrain load.train → met ≡ meets roads state load s
    → (met ≡ true) ↔ Meets roads state load s
met_means roads state load s met is train e = (
  λ h. none_meets roads state load s is train (is_none_only (limit_of roads state load s) (sym e ∙ h)),
  λ m. e ∙ ap is_none (meets_none roads state load s is train m),
)

-- whether the segment meets the load, from its parts
pub meets_in_parts : (roads : Roads) (state : InForce) (load : LoadParts) (s : ℕ) (values : Values) (posted weights spans : Bool)
    → values ≡ values_at state.values s → posted ≡ is_some (posted_limit values load s) → weights ≡ is_some (weights_limit values load s)
    → spans ≡ is_none (spans_limit roads state load.train s) → (not posted && (not weights && spans)) ≡ meets roads state load s
unfolding limit_of
meets_in_parts roads state load s values posted weights spans ev ep ew es = rw (ep, ew, es, ← ev) (by (posted_limit values load s) (weights_limit values load s))
  where
    by : (p g : Option Limit) → (not (is_some p) && (not (is_some g) && is_none (spans_limit roads state load.train s))) ≡ is_none (option_or p (option_or g (spans_limit roads state load.train s)))
    by None None = refl
    by None (Some x) = refl
    by (Some x) g = refl

-- a span carries the truck exactly where no limit of it fails
pub span_judged : (roads : Roads) (state : InForce) (axles : List Axle) (s i inches rating : ℕ) (carries : Bool) → IsTrain axles → 1 ≤ inches → inches ≤ 6000
    → inches ≡ (span_at roads.spans i).inches → rating ≡ rating_at state.ratings i → (carries ≡ true) ↔ Carries axles inches rating
    → is_none (limit_of_span roads state axles s i) ≡ carries
span_judged roads state axles s i inches rating carries train some long at rated is = rw (← at, ← rated) (by carries is)
  where
    by : (b : Bool) → (b ≡ true) ↔ Carries axles inches rating → is_none (span_limit axles inches rating s i) ≡ b
    by true is = rw (span_none axles inches rating s i train some long (is.0 refl)) refl
    by false is = none (span_limit axles inches rating s i) refl
      where
        none : (o : Option Limit) → span_limit axles inches rating s i ≡ o → is_none (span_limit axles inches rating s i) ≡ false
        none None e = absurd (true≢false (sym (is.1 (span_only axles inches rating s i train some long e))))
        none (Some x) e = rw e refl

-- past a span that carries the truck the next ones decide, and one that does not decides alone
pub span_passed : (roads : Roads) (state : InForce) (axles : List Axle) (s : ℕ) (list : List ℕ) (k : ℕ) → k < length list
    → is_none (limit_of_span roads state axles s (get_or list k 0)) ≡ true
    → first_of_spans roads state axles s (drop k list) ≡ first_of_spans roads state axles s (drop (k + 1) list)
span_passed roads state axles s list k inside none =
    next_span roads state axles s list k None inside (sym (is_none_only (limit_of_span roads state axles s (get_or list k 0)) none))

pub span_stops : (roads : Roads) (state : InForce) (axles : List Axle) (s : ℕ) (list : List ℕ) (k : ℕ) → k < length list
    → is_none (limit_of_span roads state axles s (get_or list k 0)) ≡ false
    → is_none (first_of_spans roads state axles s (drop k list)) ≡ false
span_stops roads state axles s list k inside some =
    let limit = limit_of_span roads state axles s (get_or list k 0) in
    rw (next_span roads state axles s list k limit inside refl) (some_or limit (first_of_spans roads state axles s (drop (k + 1) list)) some)
