-- The greatest of the reactions at whole inches is the peak end shear: the places with an axle at a support are among these.
use Rattle.std.proofs.Common.{◌≡◌, ℕ, ◌*◌, ◌<◌, ◌≤◌, List, [], ◌∷◌, length, map, get_or, arith, refl, ap, ℤ, pos, negsuc, ◌+ℤ◌, sum_by, inl, inr}
use Rattle.std.specs.List.{All, Contains}
use Rattle.std.proofs.Math.Nat.{mul-le-mul, mul-le-mul_left, mul-le-mul_right, le_of_mul-le-mul_right, le_antisymm, one-mul}
use Rattle.std.proofs.lemmas.Bool.{cases_lt}
use Rattle.std.proofs.lemmas.Int.{ints}
use Rattle.std.proofs.lemmas.List.Elements.{All-map, All-contains, All-from_recursion}
use Rattle.axle_train.specs.declared.axle.Axle.{Axle}
use Rattle.axle_train.specs.Bounds.{IsTrain}
use Rattle.axle_train.specs.Trains.{axle_at}
use Rattle.axle_train.proofs.Places.{axle_fits}
use Rattle.influence_line.specs.Fractions.{Ratio, IsLowest, IsSmall}
use Rattle.influence_line.specs.Greatest.{greatest, lowest_of}
use Rattle.influence_line.specs.Placed.{placed, Load}
use Rattle.influence_line.specs.Places.{leads}
use Rattle.influence_line.specs.Peaks.{IsPeakShear, IsTrainPlaced}
use Rattle.influence_line.specs.Reactions.{reaction_line, reaction_sum}
use Rattle.influence_line.specs.declared.placing.End.{End}
use Rattle.influence_line.specs.declared.placing.End.TheVariants.{Left, Right}
use Rattle.influence_line.proofs.Greatest.{IsNoMore, greatest_has}
use Rattle.influence_line.proofs.Leads.{among_leads}
use Rattle.influence_line.proofs.Lowest.{lowest_least}
use Rattle.influence_line.proofs.LowestTerms.{lowest_is, lowest_same}
use Rattle.influence_line.proofs.Members.{All-flat_map, Contains-map, Contains-flat_map}
use Rattle.influence_line.proofs.ReactionLines.{left_on, right_on, right_off}
use Rattle.influence_line.proofs.Totals.{total, total_is}
use Rattle.influence_line.proofs.Unique.{shear_unique}
use Rattle.influence_line.proofs.Values.{shear_by}
use Rattle.shear_peak.specs.Ends.{lead_to, reaction_to}
use Rattle.shear_peak.specs.PeakShear.{shear_at, shears_of, peak_shear_of, IsPeakShearOf, PeakShearIsAFunction, NoOtherIsThePeakShear}
use Rattle.shear_peak.proofs.Supports.{below_some_axle}

-- a pound gives no more than a pound to a reaction
line_most : (n : ℕ) (end : End) (x : ℤ) → reaction_line n end x ≤ n
line_most n Left (pos x) = rw (left_on n x) (omega arith)
line_most n Left (negsuc x) = omega arith
line_most n Right (pos x) = elim (cases_lt n x) [ inl off ↦ rw (right_off n x off) (omega arith) | inr on ↦ rw (right_on n x on) (omega arith) ]
line_most n Right (negsuc x) = omega arith

loads_most : (q n : ℕ) (end : End) (lead : ℤ) (axles : List Axle) → total (λ (l : Load). l.weight * reaction_line n end l.at) (placed q lead axles) ≤ n * total (λ (a : Axle). a.weight) axles
loads_most q n end lead [] = omega arith
loads_most q n end lead (a ∷ rest) = omega (arith, mul-le-mul_left a.weight (line_most n end (lead +ℤ pos (q * a.place))), loads_most q n end lead rest)

reaction_most : (q n : ℕ) (end : End) (lead : ℤ) (axles : List Axle) → reaction_sum n end (placed q lead axles) ≤ n * sum_by (λ a. a.weight) axles
reaction_most q n end lead axles =
    rw (← total_is (λ (l : Load). l.weight * reaction_line n end l.at) (placed q lead axles), ← total_is (λ (a : Axle). a.weight) axles) (loads_most q n end lead axles)

-- a reaction at some place
record IsShear (axles : List Axle) (span : ℕ) (f : Ratio) : Type 0 where
  end : End
  lead : ℤ
  same : f ≡ shear_at axles span end lead

each_at : (axles : List Axle) (span : ℕ) (end : End) → All (IsShear axles span) (map (shear_at axles span end) (leads span 1))
each_at axles span end =
    All-map (IsShear axles span) (shear_at axles span end) (leads span 1) (λ i d _. record { end = end; lead = get_or (leads span 1) i d; same = refl })

each_shear : (axles : List Axle) (span : ℕ) → All (IsShear axles span) (shears_of axles span)
unfolding shears_of
each_shear axles span =
    let at : End → List Ratio = λ end. map (shear_at axles span end) (leads span 1) in
    All-flat_map (IsShear axles span) at (Left ∷ Right ∷ [])
    (All-from_recursion (λ end. All (IsShear axles span) (at end)) (Left ∷ Right ∷ []) (each_at axles span Left, (each_at axles span Right, tt)))

one_of_ends : (end : End) → Contains (Left ∷ Right ∷ []) end
one_of_ends Left = (0, omega arith, refl)
one_of_ends Right = (1, omega arith, refl)

among_shears : (axles : List Axle) (span : ℕ) (end : End) (lead : ℤ) → Contains (leads span 1) lead → Contains (shears_of axles span) (shear_at axles span end lead)
unfolding shears_of
among_shears axles span end lead there =
    let at : End → List Ratio = λ e. map (shear_at axles span e) (leads span 1) in
    Contains-flat_map at (Left ∷ Right ∷ []) end (shear_at axles span end lead) (one_of_ends end)
    (Contains-map (shear_at axles span end) (leads span 1) lead there)

-- the places with an axle at a support are among the leads
lead_among : (span : ℕ) (end : End) (place : ℕ) → place ≤ 3000 → Contains (leads span 1) (lead_to span end place)
lead_among span Left place near = among_leads span 1 (lead_to span Left place) (omega (arith, ints)) (omega (arith, ints))
lead_among span Right place near = among_leads span 1 (lead_to span Right place) (omega (arith, ints)) (omega (arith, ints))

module _ (axles : List Axle) (span : ℕ) (some : 1 ≤ span) (train : IsTrain axles) where
  axle_among : (end : End) (k : ℕ) → k < length axles → Contains (shears_of axles span) (shear_at axles span end (lead_to span end (axle_at axles k).place))
  axle_among end k within =
      among_shears axles span end (lead_to span end (axle_at axles k).place) (lead_among span end (axle_at axles k).place (axle_fits axles k train.each within).0)

  any_shear : 0 < length (shears_of axles span)
  any_shear = let there = axle_among Left 0 (omega (arith, train.many)) in omega (arith, there.1)

  -- a reaction with an axle at a support, by the span itself
  reaction_is : (end : End) (k : ℕ) → reaction_to axles span end k ≡ reaction_sum span end (placed 1 (lead_to span end (axle_at axles k).place) axles)
  reaction_is end k = ap (λ (n : ℕ). reaction_sum n end (placed 1 (lead_to span end (axle_at axles k).place) axles)) (one-mul span)

  -- what is no less than each of these reactions is no less than the reaction at any place
  not_more : (n d : ℕ) → ((end : End) (lead : ℤ) → Contains (shears_of axles span) (shear_at axles span end lead) → reaction_sum span end (placed 1 lead axles) * d ≤ n * span) → (q : ℕ) (end : End) (lead : ℤ) → reaction_sum (q * span) end (placed q lead axles) * d ≤ n * (q * span)
  not_more n d most q end lead =
      let b = below_some_axle q span 0 end lead axles train.rising (omega (arith, train.many)) in
      let at = most end (lead_to span end (axle_at axles b.0).place) (axle_among end b.0 b.1) in
      let under : reaction_to axles span end b.0 * d ≤ n * span = rw reaction_is at in
      omega (arith, mul-le-mul_right d b.2, mul-le-mul_left q under)

  -- a reaction that none of them exceeds is the peak
  peak_at : (f : Ratio) (end : End) (lead : ℤ) → f ≡ shear_at axles span end lead → All (λ g. IsNoMore g f) (shears_of axles span) → IsPeakShear (IsTrainPlaced axles) span f.num f.den
  peak_at f end lead same most =
      let loads = placed 1 lead axles in
      let whole : reaction_sum (1 * span) end loads ≡ reaction_sum span end loads = ap (λ (n : ℕ). reaction_sum n end loads) (one-mul span) in
      let reached : reaction_sum span end loads * f.den ≡ f.num * span = rw same refl in
      record {
        some = rw same some;
        reached = (1, end, loads, omega arith, (lead, refl), omega (arith, ap (λ t. t * f.den) whole, reached));
        greatest = λ q e others scale is_placed. rw is_placed.1 (not_more f.num f.den (λ i x there. All-contains (λ g. IsNoMore g f) (shears_of axles span) (shear_at axles span i x) most there) q e is_placed.0);
      }

  peak_of_places : IsPeakShearOf axles span (greatest (shears_of axles span))
  peak_of_places =
      let values = shears_of axles span in
      let best = greatest_has (IsShear axles span) values (λ f s. rw s.same some) any_shear (each_shear axles span) in
      peak_at (greatest values) best.0.end best.0.lead best.0.same best.1

  cancel_scale : (q M m n d : ℕ) → 1 ≤ q → m * d ≡ n * (q * span) → m ≤ q * M → M * d ≤ n * span → n * span ≡ M * d
  cancel_scale q M m n d scale reached under most =
      let other : n * span ≤ M * d = le_of_mul-le-mul_right {m = n * span} {n = M * d} {k = q} (omega (arith, mul-le-mul_right d under, reached)) scale in
      le_antisymm other most

  -- a peak end shear in lowest terms has the size of peaks
  peak_small : (f : Ratio) → span ≤ 6000 → IsLowest f → IsPeakShear (IsTrainPlaced axles) span f.num f.den → IsSmall f
  peak_small f long lowest peak =
      let r = peak.reached in
      let lead = r.4.0 in
      let m = reaction_sum (r.0 * span) r.1 (placed r.0 lead axles) in
      let reached : m * f.den ≡ f.num * (r.0 * span) = rw r.4.1 at r.5 in
      let b = below_some_axle r.0 span 0 r.1 lead axles train.rising (omega (arith, train.many)) in
      let M = reaction_to axles span r.1 b.0 in
      let at = lead_to span r.1 (axle_at axles b.0).place in
      let most : M * f.den ≤ f.num * span = omega (arith, peak.greatest 1 r.1 (placed 1 at axles) (omega arith) (at, refl)) in
      let terms = lowest_least f M span lowest some (cancel_scale r.0 M m f.num f.den r.3 reached b.2 most) in
      record { lowest = lowest; num = omega (arith, terms.0, reaction_most 1 (1 * span) r.1 at axles, mul-le-mul long train.gross); den = omega (arith, terms.1, long) }

pub peak_shear_is : PeakShearIsAFunction
unfolding peak_shear_of
peak_shear_is axles span train sized =
    let f = greatest (shears_of axles span) in
    let whole = peak_of_places axles span sized.0 train in
    let lowest = lowest_is f whole.some in
    let peak = shear_by (IsTrainPlaced axles) span f.num f.den (lowest_of f).num (lowest_of f).den lowest.some (lowest_same f whole.some) whole in
    (peak, peak_small axles span sized.0 train (lowest_of f) sized.1 lowest peak)

pub peak_shear_alone : NoOtherIsThePeakShear
peak_shear_alone axles span f train sized lowest peak =
    let is = peak_shear_is axles span train sized in
    shear_unique (IsTrainPlaced axles) span f (peak_shear_of axles span) sized.0 lowest is.1.lowest peak is.0
