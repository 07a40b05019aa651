-- The greatest of the moments at the places in units of 1/q inch, for each q up to twice the train's weight, is the peak moment: the vertex of each run of axles is among these places.
use Rattle.std.proofs.Common.{◌≡◌, ℕ, ◌+◌, ◌-◌, ◌*◌, ◌<◌, ◌≤◌, ◌^◌, List, length, map, get_or, arith, refl, ap, sym, ℤ, inl, inr}
use Rattle.std.specs.List.{All, Contains, range_with_len}
use Rattle.std.proofs.Math.Nat.{mul-le-mul, mul-le-mul_left, mul-le-mul_right, le_of_mul-le-mul_right, le_antisymm, eq_of_mul-eq-mul_right, mul-pos}
use Rattle.std.proofs.lemmas.Bool.{cases_lt}
use Rattle.std.proofs.lemmas.Int.{ints}
use Rattle.std.proofs.lemmas.List.Elements.{All-map, All-contains}
use Rattle.axle_train.specs.declared.axle.Axle.{Axle}
use Rattle.axle_train.specs.Bounds.{IsTrain}
use Rattle.axle_train.specs.Trains.{axle_at}
use Rattle.axle_train.proofs.Places.{axle_fits}
use Rattle.influence_line.specs.Fractions.{Ratio, IsLowest, IsSmall}
use Rattle.influence_line.specs.Greatest.{greatest, lowest_of}
use Rattle.influence_line.specs.Placed.{moment_sum, placed}
use Rattle.influence_line.specs.Places.{leads}
use Rattle.influence_line.specs.Spans.{IsSpanLength}
use Rattle.influence_line.specs.Peaks.{IsPeakMoment, IsTrainPlaced}
use Rattle.influence_line.proofs.Greatest.{IsNoMore, greatest_has}
use Rattle.influence_line.proofs.Leads.{among_leads}
use Rattle.influence_line.proofs.Lowest.{lowest_least, lowest_unique}
use Rattle.influence_line.proofs.LowestTerms.{lowest_is, lowest_same}
use Rattle.influence_line.proofs.Members.{All-range, All-flat_map, Contains-range, Contains-map, Contains-flat_map}
use Rattle.influence_line.proofs.Unique.{moment_unique}
use Rattle.influence_line.proofs.Values.{moment_by}
use Rattle.moment_peak.specs.PeakMoment.{moment_at, moments_in, moments_of, peak_moment_of, IsPeakMomentOf, PeakMomentIsAFunction, NoOtherIsThePeakMoment}
use Rattle.moment_peak.specs.Runs.{run, run_value, run_weight, front_in, back_in, weight_in, IsRunWith}
use Rattle.moment_peak.proofs.BestBounds.{below_value, lead_at, run_loaded, vertex_reaches}
use Rattle.moment_peak.proofs.Bound.{below_some_vertex}
use Rattle.moment_peak.proofs.RunSums.{sum_part}
use Rattle.moment_peak.proofs.Runs.{weight_of}
use Rattle.moment_peak.proofs.Small.{run_light, value_most}

-- a moment at some place
record IsMoment (axles : List Axle) (span : ℕ) (f : Ratio) : Type 0 where
  q : ℕ
  section : ℕ
  lead : ℤ
  scale : 1 ≤ q
  on : section ≤ q * span
  same : f ≡ moment_at axles span q section lead

each_in : (axles : List Axle) (span q : ℕ) → 1 ≤ q → All (IsMoment axles span) (moments_in axles span q)
each_in axles span q scale =
    let P = IsMoment axles span in
    All-flat_map P (λ section. map (moment_at axles span q section) (leads span q)) (range_with_len 0 (q * span + 1))
    (All-range (λ section. All P (map (moment_at axles span q section) (leads span q))) 0 (q * span + 1) (λ section _ on.
    All-map P (moment_at axles span q section) (leads span q) (λ i d _. record {
      q = q;
      section = section;
      lead = get_or (leads span q) i d;
      scale = scale;
      on = omega arith;
      same = refl;
    })))

each_moment : (axles : List Axle) (span : ℕ) → All (IsMoment axles span) (moments_of axles span)
unfolding moments_of
each_moment axles span =
    All-flat_map (IsMoment axles span) (moments_in axles span) (range_with_len 1 (2 * weight_in axles))
    (All-range (λ q. All (IsMoment axles span) (moments_in axles span q)) 1 (2 * weight_in axles) (λ q scale _. each_in axles span q scale))

-- all places of these units are there
among_moments : (axles : List Axle) (span q section : ℕ) (lead : ℤ) → 1 ≤ q → q ≤ 2 * weight_in axles → section ≤ q * span → Contains (leads span q) lead → Contains (moments_of axles span) (moment_at axles span q section lead)
unfolding moments_of
among_moments axles span q section lead scale coarse on there =
    let f = moment_at axles span q in
    Contains-flat_map (moments_in axles span) (range_with_len 1 (2 * weight_in axles)) q (f section lead) (Contains-range 1 (2 * weight_in axles) q scale (omega arith))
    (Contains-flat_map (λ s. map (f s) (leads span q)) (range_with_len 0 (q * span + 1)) section (f section lead) (Contains-range 0 (q * span + 1) section (omega arith) (omega arith))
    (Contains-map (f section) (leads span q) lead there))

-- a peak that is below a value which it is not above has that value
pub same_value : (R q m value n d L : ℕ) → 1 ≤ q → m * d ≡ n * (q * q * L) → 4 * R * m ≤ q * q * value → value * d ≤ n * (4 * R * L) → n * (4 * R * L) ≡ value * d
same_value R q m value n d L scale reached under most =
    let square : 0 < q * q = mul-pos scale scale in
    let other : n * (4 * R * L) ≤ value * d = le_of_mul-le-mul_right {m = n * (4 * R * L)} {n = value * d} {k = q * q} (omega (arith, mul-le-mul_right d under, ap (λ t. 4 * R * t) reached)) square in
    le_antisymm other most

module _ (axles : List Axle) (span : ℕ) (some : 1 ≤ span) (train : IsTrain axles) where
  -- the vertex of a run is among the places
  vertex_among : (k first last v : ℕ) → IsRunWith axles k first last → v ≤ 2 * run_weight axles first last * span → Contains (moments_of axles span) (moment_at axles span (2 * run_weight axles first last) v (lead_at (2 * run_weight axles first last) (axle_at axles k).place v))
  vertex_among k first last v is_run on =
      let R = run_weight axles first last in
      let place = (axle_at axles k).place in
      let loaded : 0 < R = run_loaded axles k first last train.each is_run in
      let light : R ≤ weight_in axles = sum_part weight_of axles first (last + 1 - first) in
      let near : place ≤ 3000 = (axle_fits axles k train.each (omega (arith, is_run.to, is_run.within))).0 in
      let behind : 2 * R * place ≤ 2 * R * 3000 = mul-le-mul_left (2 * R) near in
      among_moments axles span (2 * R) v (lead_at (2 * R) place v) (omega arith) (omega arith) on
      (among_leads span (2 * R) (lead_at (2 * R) place v) (omega (arith, ints, behind)) (omega (arith, ints, on)))

  -- what is no less than each of these moments is no less than a run's value
  pub value_under : (n d : ℕ) → ((q section : ℕ) (lead : ℤ) → 1 ≤ q → section ≤ q * span → Contains (moments_of axles span) (moment_at axles span q section lead) → moment_sum (q * span) section (placed q lead axles) * d ≤ n * (q * q * span)) → (k first last : ℕ) → IsRunWith axles k first last → run_value span axles k first last * d ≤ n * (4 * run_weight axles first last * span)
  value_under n d most k first last is_run =
      let R = run_weight axles first last in
      let value = run_value span axles k first last in
      let loaded : 0 < R = run_loaded axles k first last train.each is_run in
      elim (cases_lt 0 value) [
        | inl high ↦
            let place = (axle_at axles k).place in
            let v = R * span + front_in place (run axles first last) - back_in place (run axles first last) in
            let lead = lead_at (2 * R) place v in
            let vertex = vertex_reaches span axles k first last high in
            let M = moment_sum (2 * R * span) v (placed (2 * R) lead axles) in
            let under : M * d ≤ n * (2 * R * (2 * R) * span) = most (2 * R) v lead (omega arith) vertex.0 (vertex_among k first last v is_run vertex.0) in
            le_of_mul-le-mul_right {m = value * d} {n = n * (4 * R * span)} {k = R} (omega (arith, mul-le-mul_right d vertex.1, under)) loaded
        | inr none ↦ let zero : value ≡ 0 = omega arith in rw zero (omega arith)
      ]

  -- what is no less than each of these moments is no less than the moment at any place
  not_more : (n d : ℕ) → ((q section : ℕ) (lead : ℤ) → 1 ≤ q → section ≤ q * span → Contains (moments_of axles span) (moment_at axles span q section lead) → moment_sum (q * span) section (placed q lead axles) * d ≤ n * (q * q * span)) → (q section : ℕ) (lead : ℤ) → 1 ≤ q → section ≤ q * span → moment_sum (q * span) section (placed q lead axles) * d ≤ n * (q * q * span)
  not_more n d most q section lead scale on =
      elim (below_some_vertex q span section lead axles scale train.rising on) [
        | inl none ↦ rw none (omega arith)
        | inr found ↦
            let s = found.1 in
            let m = moment_sum (q * span) section (placed q lead axles) in
            let R = run_weight axles s.first s.last in
            let value = run_value span axles s.k s.first s.last in
            let loaded : 0 < R = run_loaded axles s.k s.first s.last train.each s.is_run in
            let under : 4 * R * m ≤ q * q * value = below_value q span m found.0 (axle_at axles s.k).place (run axles s.first s.last) s.below in
            let over : value * d ≤ n * (4 * R * span) = value_under n d most s.k s.first s.last s.is_run in
            le_of_mul-le-mul_right {m = m * d} {n = n * (q * q * span)} {k = 4 * R} (omega (arith, mul-le-mul_right d under, mul-le-mul_left (q * q) over)) (omega arith)
      ]

  -- the train has a moment somewhere
  any_moment : 0 < length (moments_of axles span)
  any_moment =
      let is_run : IsRunWith axles 0 0 0 = record { from = omega arith; to = omega arith; within = omega (arith, train.many) } in
      let there = vertex_among 0 0 0 0 is_run (omega arith) in
      omega (arith, there.1)

  -- a moment that none of them exceeds is the peak
  peak_at : (f : Ratio) (q section : ℕ) (lead : ℤ) → 1 ≤ q → section ≤ q * span → f ≡ moment_at axles span q section lead → All (λ g. IsNoMore g f) (moments_of axles span) → IsPeakMoment (IsTrainPlaced axles) span f.num f.den
  peak_at f q section lead scale on same most = record {
    some = rw same (mul-pos (mul-pos scale scale) some);
    reached = (q, section, placed q lead axles, scale, on, (lead, refl), rw same refl);
    greatest = λ p r loads a b is_placed. rw is_placed.1 (not_more f.num f.den (λ i s x _ _ there. All-contains (λ g. IsNoMore g f) (moments_of axles span) (moment_at axles span i s x) most there) p r is_placed.0 a b);
  }

  peak_of_places : IsPeakMomentOf axles span (greatest (moments_of axles span))
  peak_of_places =
      let values = moments_of axles span in
      let best = greatest_has (IsMoment axles span) values (λ f m. rw m.same (mul-pos (mul-pos m.scale m.scale) some)) any_moment (each_moment axles span) in
      let at = best.0 in
      peak_at (greatest values) at.q at.section at.lead at.scale at.on at.same best.1

  value_small : (k first last : ℕ) → span ≤ 6000 → run_value span axles k first last < 2 ^ 68
  value_small k first last long =
      elim (cases_lt 0 (run_value span axles k first last)) [
        | inl high ↦
            let light : run_weight axles first last ≤ 2000000 = run_light axles first last train in
            let half = mul-le-mul light long in
            omega (arith, value_most span (run_weight axles first last) _ _ high, mul-le-mul half half)
        | inr none ↦ omega arith
      ]

  -- a peak moment in lowest terms has their size
  peak_small : (f : Ratio) → span ≤ 6000 → IsLowest f → IsPeakMoment (IsTrainPlaced axles) span f.num f.den → IsSmall f
  peak_small f long lowest peak =
      let r = peak.reached in
      let lead = r.5.0 in
      let m = moment_sum (r.0 * span) r.1 (placed r.0 lead axles) in
      let reached : m * f.den ≡ f.num * (r.0 * r.0 * span) = rw r.5.1 at r.6 in
      elim (below_some_vertex r.0 span r.1 lead axles r.3 train.rising r.4) [
        | inl none ↦
            let nothing : f.num * (r.0 * r.0 * span) ≡ 0 * f.den = sym (rw none at reached) in
            let whole : 1 ≤ r.0 * r.0 * span = mul-pos (mul-pos r.3 r.3) some in
            let zero = (lowest_least f 0 (r.0 * r.0 * span) lowest whole nothing).0 in
            let terms = lowest_least f 0 1 lowest (omega arith) (omega (arith, zero)) in
            record { lowest = lowest; num = omega (arith, terms.0); den = omega (arith, terms.1) }
        | inr found ↦
            let s = found.1 in
            let R = run_weight axles s.first s.last in
            let value = run_value span axles s.k s.first s.last in
            let loaded : 0 < R = run_loaded axles s.k s.first s.last train.each s.is_run in
            let light : R ≤ 2000000 = run_light axles s.first s.last train in
            let under : 4 * R * m ≤ r.0 * r.0 * value = below_value r.0 span m found.0 (axle_at axles s.k).place (run axles s.first s.last) s.below in
            let over = value_under f.num f.den (λ q section at scale on _. peak.greatest q section (placed q at axles) scale on (at, refl)) s.k s.first s.last s.is_run in
            let four : 0 < 4 = omega arith in
            let terms = lowest_least f value (4 * R * span) lowest (mul-pos (mul-pos four loaded) some) (same_value R r.0 m value f.num f.den span r.3 reached under over) in
            record { lowest = lowest; num = omega (arith, terms.0, value_small s.k s.first s.last long); den = omega (arith, terms.1, mul-le-mul light long) }
      ]

pub peak_moment_is : PeakMomentIsAFunction
unfolding peak_moment_of
peak_moment_is axles span train sized =
    let f = greatest (moments_of axles span) in
    let whole = peak_of_places axles span sized.0 train in
    let lowest = lowest_is f whole.some in
    let peak = moment_by (IsTrainPlaced axles) span f.num f.den (lowest_of f).num (lowest_of f).den lowest.some (lowest_same f whole.some) whole in
    (peak, peak_small axles span sized.0 train (lowest_of f) sized.1 lowest peak)

pub peak_moment_alone : NoOtherIsThePeakMoment
peak_moment_alone axles span f train sized lowest peak =
    let is = peak_moment_is axles span train sized in
    moment_unique (IsTrainPlaced axles) span f (peak_moment_of axles span) sized.0 lowest is.1.lowest peak is.0

-- so a fraction in lowest terms with a value that the peak moment has is that one
pub peak_by_value : (axles : List Axle) (span value weight : ℕ) (f : Ratio) → IsTrain axles → IsSpanLength span → 0 < weight → IsLowest f → f.num * weight ≡ value * f.den → (peak_moment_of axles span).num * weight ≡ value * (peak_moment_of axles span).den → f ≡ peak_moment_of axles span
peak_by_value axles span value weight f train sized some lowest is at_peak =
    let peak = peak_moment_of axles span in
    lowest_unique f peak lowest (peak_moment_is axles span train sized).1.lowest
    (eq_of_mul-eq-mul_right weight some (f.num * peak.den) (peak.num * f.den) (omega (arith, ap (λ t. peak.den * t) is, ap (λ t. f.den * t) at_peak)))
