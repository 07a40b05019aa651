-- Every placement of a train is below some vertex.
use Rattle.std.proofs.Common.{◌≡◌, ℕ, zero, suc, ◌+◌, ◌-◌, ◌*◌, ◌<◌, ◌≤◌, List, [], ◌∷◌, ◌++◌, arith, refl, ap, sym, ◌∙◌, subst, ℤ, pos, ◌+ℤ◌, inl, inr, ◌⊎◌, take, length, length-append}
use Rattle.std.proofs.Math.Seq.{drop-append_seam, take-append_seam}
use Rattle.std.proofs.Math.ListN.{get_or-append}
use Rattle.std.proofs.lemmas.List.{get_or-append-add}
use Rattle.std.proofs.lemmas.Bool.{cases_lt}
use Rattle.std.proofs.lemmas.Int.{ints}
use Rattle.std.proofs.Math.Nat.{mul-le-mul_left, le_of_mul-le-mul_left, add-zero}
use Rattle.std.specs.List.{AllByRecursion}
use Rattle.influence_line.specs.Placed.{moment_line, moment_sum, placed, Load}
use Rattle.axle_train.specs.declared.axle.Axle.{Axle}
use Rattle.axle_train.specs.Bounds.{RisesFrom}
use Rattle.axle_train.specs.Trains.{axle_at, no_axle}
use Rattle.moment_peak.specs.Runs.{run, IsRunWith, CanBeOnSpan}
use Rattle.moment_peak.proofs.Vertex.{below_vertex, only_vertex, no_vertex_left, no_vertex_right}
use Rattle.influence_line.proofs.Totals.{total, total_is, under_of}
use Rattle.moment_peak.proofs.Runs.{weight_of, front_of, back_of, IsOn, exact_all}
use Rattle.influence_line.proofs.Lines.{line_is_under, times, times_zero}
use Rattle.influence_line.proofs.Sections.{StandsAt, greatest_at_load}
use Rattle.moment_peak.proofs.Spans.{at, IsBefore, IsAboard, IsPast, Split, split, line_of, moment_of_run}

-- the axle of a load
record Found (q : ℕ) (lead : ℤ) (x : ℕ) (axles : List Axle) : Type 0 where
  index : ℕ
  within : index < length axles
  stands : at q lead (axle_at axles index) ≡ pos x

not_past : (q n : ℕ) (lead : ℤ) (x : ℕ) (back : List Axle) → AllByRecursion (IsPast q n lead) back → x ≤ n → StandsAt x (placed q lead back) → ⊥
not_past q n lead x [] p h s = s
not_past q n lead x (a ∷ rest) p h (inl e) = omega (arith, ints, p.0.1, p.0.2, e)
not_past q n lead x (a ∷ rest) p h (inr s) = not_past q n lead x rest p.1 h s

find_run : (q n : ℕ) (lead : ℤ) (x : ℕ) (run back : List Axle) → AllByRecursion (IsPast q n lead) back → x ≤ n → StandsAt x (placed q lead (run ++ back)) → Found q lead x run
find_run q n lead x [] back p h s = absurd (not_past q n lead x back p h s)
find_run q n lead x (a ∷ run) back p h (inl e) = record { index = 0; within = omega arith; stands = e }
find_run q n lead x (a ∷ run) back p h (inr s) = let f = find_run q n lead x run back p h s in record { index = suc f.index; within = omega (arith, f.within); stands = f.stands }

skip_front : (q : ℕ) (lead : ℤ) (x : ℕ) (front rest : List Axle) → AllByRecursion (IsBefore q lead) front → StandsAt x (placed q lead (front ++ rest)) → StandsAt x (placed q lead rest)
skip_front q lead x [] rest b s = s
skip_front q lead x (a ∷ front) rest b (inl e) = absurd (omega (arith, ints, b.0.1, e))
skip_front q lead x (a ∷ front) rest b (inr s) = skip_front q lead x front rest b.1 s

-- an axle aboard is on the span, seen from the one at r
on_of : (q n r s place : ℕ) (lead : ℤ) (a : Axle) → r + s ≡ n → lead +ℤ pos (q * place) ≡ pos r → IsAboard q n lead a → IsOn q r s place a
on_of q n r s place lead a e h b =
    elim (cases_lt a.place place) [
      | inl k ↦ let zero_back : q * (a.place - place) ≡ 0 = times_zero q (a.place - place) (omega arith) in (omega (arith, ints, times q a.place place (omega arith), h, b.1), omega arith)
      | inr k ↦ let zero_front : q * (place - a.place) ≡ 0 = times_zero q (place - a.place) (omega arith) in (omega arith, omega (arith, ints, times q place a.place (omega arith), h, b.1, b.2))
    ]

on_all : (q n r s place : ℕ) (lead : ℤ) (axles : List Axle) → r + s ≡ n → lead +ℤ pos (q * place) ≡ pos r → AllByRecursion (IsAboard q n lead) axles → AllByRecursion (IsOn q r s place) axles
on_all q n r s place lead [] e h b = tt
on_all q n r s place lead (a ∷ rest) e h b = (on_of q n r s place lead a e h b.0, on_all q n r s place lead rest e h b.1)

line_under : (q n r s place : ℕ) (lead : ℤ) (axles : List Axle) → r + s ≡ n → lead +ℤ pos (q * place) ≡ pos r → total (line_of q n r lead) axles ≡ total (under_of q r s place) axles
line_under q n r s place lead [] e h = refl
line_under q n r s place lead (a ∷ rest) e h =
    omega (arith, ap (λ t. a.weight * t) (line_is_under q n r s place lead a.place e h), line_under q n r s place lead rest e h)

-- a run and the place of one of its axles, which stands at x, that bound a placement's moment; only at the vertex it is as large
pub record BelowVertex (q span m x : ℕ) (place : ℕ) (run : List Axle) : Type 0 where
  pub left_in : total (back_of place) run ≤ total weight_of run * span + total (front_of place) run
  pub right_in : total (front_of place) run ≤ total weight_of run * span + total (back_of place) run
  pub bound : (v u : ℕ) → v + total (back_of place) run ≡ total weight_of run * span + total (front_of place) run → u + total (front_of place) run ≡ total weight_of run * span + total (back_of place) run → 4 * total weight_of run * m ≤ q * q * (v * u - 2 * (total (front_of place) run * u + total (back_of place) run * v))
  pub only : (v u : ℕ) → v + total (back_of place) run ≡ total weight_of run * span + total (front_of place) run → u + total (front_of place) run ≡ total weight_of run * span + total (back_of place) run → 0 < m → 4 * total weight_of run * m ≡ q * q * (v * u - 2 * (total (front_of place) run * u + total (back_of place) run * v)) → q * v ≡ 2 * total weight_of run * x

pub run_below : (q span r s place : ℕ) (lead : ℤ) (run : List Axle) → r + s ≡ q * span → lead +ℤ pos (q * place) ≡ pos r → AllByRecursion (IsAboard q (q * span) lead) run → (total (line_of q (q * span) r lead) run ≡ 0) ⊎ BelowVertex q span (total (line_of q (q * span) r lead) run) r place run
run_below q span r s place lead run e h b =
    let m = total (line_of q (q * span) r lead) run in
    let exact = exact_all q r s place run (on_all q (q * span) r s place lead run e h b) in
    let same = line_under q (q * span) r s place lead run e h in
    let value : m + q * (total (front_of place) run * s + total (back_of place) run * r) ≡ total weight_of run * (r * s) = omega (arith, exact, same) in
    elim (cases_lt (total weight_of run * span + total (front_of place) run) (total (back_of place) run)) [
      | inl far ↦ inl (no_vertex_left (total weight_of run) (total (front_of place) run) (total (back_of place) run) span q r s m e far value)
      | inr near ↦ elim (cases_lt (total weight_of run * span + total (back_of place) run) (total (front_of place) run)) [
        | inl far ↦ inl (no_vertex_right (total weight_of run) (total (front_of place) run) (total (back_of place) run) span q r s m e far value)
        | inr close ↦ inr (record { left_in = near; right_in = close; bound = λ v u hv hu. below_vertex (total weight_of run) (total (front_of place) run) (total (back_of place) run) span q r s v u m e hv hu value; only = λ v u hv hu some same. only_vertex (total weight_of run) (total (front_of place) run) (total (back_of place) run) span q r s v u m e hv hu value some same })
      ]
    ]

-- the axles of a run are on the span, and they alone
pub record IsAlone (q span : ℕ) (lead : ℤ) (axles : List Axle) (first last : ℕ) : Type 0 where
  pub first_on : IsAboard q (q * span) lead (axle_at axles first)
  pub last_on : IsAboard q (q * span) lead (axle_at axles last)
  pub front_off : 0 < first → IsBefore q lead (axle_at axles (first - 1))
  pub back_off : last + 1 < length axles → IsPast q (q * span) lead (axle_at axles (last + 1))

-- an axle and a run with it that bound a placement's moment
pub record SomeVertex (q span m x : ℕ) (lead : ℤ) (axles : List Axle) : Type 0 where
  pub k : ℕ
  pub first : ℕ
  pub last : ℕ
  pub is_run : IsRunWith axles k first last
  pub can_be : CanBeOnSpan span axles first last
  pub alone : IsAlone q span lead axles first last
  pub stands : at q lead (axle_at axles k) ≡ pos x
  pub below : BelowVertex q span m x (axle_at axles k).place (run axles first last)

run_is : (front middle back : List Axle) → run (front ++ (middle ++ back)) (length front) (length front + length middle - 1) ≡ take (length front + length middle - 1 + 1 - length front) (middle ++ back)
run_is front middle back = ap (take (length front + length middle - 1 + 1 - length front)) (drop-append_seam front (middle ++ back))

run_of : (front middle back : List Axle) → 0 < length middle → run (front ++ (middle ++ back)) (length front) (length front + length middle - 1) ≡ middle
run_of front middle back h =
    let n : length front + length middle - 1 + 1 - length front ≡ length middle = omega arith in
    run_is front middle back ∙ rw n (take-append_seam middle back)

axle_in : (front middle back : List Axle) (k : ℕ) → k < length middle → axle_at (front ++ (middle ++ back)) (length front + k) ≡ axle_at middle k
axle_in front middle back k h = get_or-append-add front (middle ++ back) k no_axle ∙ get_or-append middle back no_axle k h

all_at : (P : Axle → Type 0) (axles : List Axle) (i : ℕ) → AllByRecursion P axles → i < length axles → P (axle_at axles i)
all_at P [] i h within = absurd (omega arith)
all_at P (a ∷ rest) zero h within = h.0
all_at P (a ∷ rest) (suc i) h within = all_at P rest i h.1 (omega arith)

-- two axles aboard are no further apart than the span
fits_from : (q span : ℕ) (lead : ℤ) (a b : Axle) → 1 ≤ q → IsAboard q (q * span) lead a → IsAboard q (q * span) lead b → b.place ≤ a.place + span
fits_from q span lead a b some on_a on_b =
    let far : q * b.place ≤ q * (a.place + span) = omega (arith, ints, on_a.1, on_b.1, on_b.2) in
    le_of_mul-le-mul_left {m = b.place} {n = a.place + span} {k = q} far some

-- an axle before the span and one past it are further apart
alone_from : (q span : ℕ) (lead : ℤ) (a b : Axle) → IsBefore q lead a → IsPast q (q * span) lead b → a.place + span < b.place
alone_from q span lead a b before past =
    elim (cases_lt (a.place + span) b.place) [
      | inl far ↦ far
      | inr near ↦ absurd (omega (arith, ints, before.1, past.1, past.2, mul-le-mul_left q near))
    ]

axle_past : (front middle back : List Axle) → axle_at (front ++ (middle ++ back)) (length front + length middle + 0) ≡ axle_at back 0
axle_past front middle back =
    let n : length front + length middle + 0 ≡ length front + (length middle + 0) = omega arith in
    rw n (get_or-append-add front (middle ++ back) (length middle + 0) no_axle) ∙ get_or-append-add middle back 0 no_axle

-- the run on the span, whose neighbours are off it
alone_there : (q span : ℕ) (lead : ℤ) (front middle back : List Axle) → 0 < length middle → AllByRecursion (IsBefore q lead) front → AllByRecursion (IsAboard q (q * span) lead) middle → AllByRecursion (IsPast q (q * span) lead) back → IsAlone q span lead (front ++ (middle ++ back)) (length front) (length front + length middle - 1)
alone_there q span lead front middle back any before aboard past =
    let axles = front ++ (middle ++ back) in
    let whole : length axles ≡ length front + (length middle + length back) = omega (arith, length-append front (middle ++ back), length-append middle back) in
    let first : axle_at axles (length front) ≡ axle_at middle 0 = rw (add-zero (length front)) at (axle_in front middle back 0 any) in
    let n : length front + (length middle - 1) ≡ length front + length middle - 1 = omega arith in
    let last : axle_at axles (length front + length middle - 1) ≡ axle_at middle (length middle - 1) = rw n at (axle_in front middle back (length middle - 1) (omega arith)) in
    record {
      first_on = rw first (all_at (IsAboard q (q * span) lead) middle 0 aboard any);
      last_on = rw last (all_at (IsAboard q (q * span) lead) middle (length middle - 1) aboard (omega arith));
      front_off = λ in_front.
          let b : axle_at axles (length front - 1) ≡ axle_at front (length front - 1) = get_or-append front (middle ++ back) no_axle (length front - 1) (omega arith) in
          rw b (all_at (IsBefore q lead) front (length front - 1) before (omega arith));
      back_off = λ behind.
          let m : length front + length middle - 1 + 1 ≡ length front + length middle + 0 = omega arith in
          let p : axle_at axles (length front + length middle - 1 + 1) ≡ axle_at back 0 = rw m (axle_past front middle back) in
          rw p (all_at (IsPast q (q * span) lead) back 0 past (omega (arith, whole, behind)));
    }

-- it is one that can be there
can_be_there : (q span : ℕ) (lead : ℤ) (axles : List Axle) (first last : ℕ) → 1 ≤ q → first ≤ last → last < length axles → IsAlone q span lead axles first last → CanBeOnSpan span axles first last
can_be_there q span lead axles first last some ordered within w = record {
  ordered = ordered;
  within = within;
  fits = omega (arith, fits_from q span lead (axle_at axles first) (axle_at axles last) some w.first_on w.last_on);
  alone = λ in_front behind. omega (arith, alone_from q span lead (axle_at axles (first - 1)) (axle_at axles (last + 1)) (w.front_off in_front) (w.back_off behind));
}

some_vertex_at : (q span m x : ℕ) (lead : ℤ) (front middle back : List Axle) (k : ℕ) → 1 ≤ q → k < length middle → AllByRecursion (IsBefore q lead) front → AllByRecursion (IsAboard q (q * span) lead) middle → AllByRecursion (IsPast q (q * span) lead) back → at q lead (axle_at middle k) ≡ pos x → BelowVertex q span m x (axle_at middle k).place middle → SomeVertex q span m x lead (front ++ (middle ++ back))
some_vertex_at q span m x lead front middle back k some h before aboard past stands below =
    let axles = front ++ (middle ++ back) in
    let within : length front + length middle - 1 < length axles = omega (arith, length-append front (middle ++ back), length-append middle back) in
    let alone = alone_there q span lead front middle back (omega arith) before aboard past in
    record {
      k = length front + k;
      first = length front;
      last = length front + length middle - 1;
      is_run = record {
        from = omega arith;
        to = omega arith;
        within = within;
      };
      can_be = can_be_there q span lead axles (length front) (length front + length middle - 1) some (omega arith) within alone;
      alone = alone;
      stands = rw (axle_in front middle back k h) stands;
      below = rw (run_of front middle back (omega arith), axle_in front middle back k h) below;
    }

below_less : (q span m m' x place : ℕ) (middle : List Axle) → m ≤ m' → BelowVertex q span m' x place middle → BelowVertex q span m x place middle
below_less q span m m' x place middle h b = record {
  left_in = b.left_in;
  right_in = b.right_in;
  bound = λ v u hv hu. omega (arith, mul-le-mul_left (4 * total weight_of middle) h, b.bound v u hv hu);
  only = λ v u hv hu some same. b.only v u hv hu (omega arith) (omega (arith, mul-le-mul_left (4 * total weight_of middle) h, b.bound v u hv hu, same));
}

-- the moment by the recursion
moment_is : (n r q : ℕ) (lead : ℤ) (axles : List Axle) → moment_sum n r (placed q lead axles) ≡ total (λ (l : Load). l.weight * moment_line n r l.at) (placed q lead axles)
moment_is n r q lead axles = sym (total_is (λ (l : Load). l.weight * moment_line n r l.at) (placed q lead axles))

under_load : (q span r x : ℕ) (lead : ℤ) (axles : List Axle) → 1 ≤ q → (s : Split q (q * span) lead axles) → x ≤ q * span → Found q lead x s.run → moment_sum (q * span) r (placed q lead axles) ≤ moment_sum (q * span) x (placed q lead axles) → (moment_sum (q * span) r (placed q lead axles) ≡ 0) ⊎ SomeVertex q span (moment_sum (q * span) r (placed q lead axles)) x lead axles
under_load q span r x lead axles some s h f le =
    let e = moment_of_run q (q * span) x lead axles s in
    elim (run_below q span x (q * span - x) (axle_at s.run f.index).place lead s.run (omega arith) f.stands s.aboard) [
      | inl none ↦ inl (omega arith)
      | inr below ↦
          let m = moment_sum (q * span) r (placed q lead axles) in
          let less = below_less q span m (total (line_of q (q * span) x lead) s.run) x (axle_at s.run f.index).place s.run (omega arith) below in
          inr (subst (SomeVertex q span m x lead) (sym s.whole) (some_vertex_at q span m x lead s.front s.run s.back f.index some f.within s.before s.aboard s.past f.stands less))
    ]

-- under a load that stands on the span a train has no moment, or is below a vertex of that load
pub below_vertex_of : (q span r x : ℕ) (lead : ℤ) (axles : List Axle) → 1 ≤ q → RisesFrom 0 axles → x ≤ q * span → StandsAt x (placed q lead axles) → moment_sum (q * span) r (placed q lead axles) ≤ moment_sum (q * span) x (placed q lead axles) → (moment_sum (q * span) r (placed q lead axles) ≡ 0) ⊎ SomeVertex q span (moment_sum (q * span) r (placed q lead axles)) x lead axles
below_vertex_of q span r x lead axles some rises h stands le =
    let s = split q (q * span) lead 0 axles rises in
    let there : StandsAt x (placed q lead (s.front ++ (s.run ++ s.back))) = subst (λ (t : List Axle). StandsAt x (placed q lead t)) s.whole stands in
    let found = find_run q (q * span) lead x s.run s.back s.past h (skip_front q lead x s.front (s.run ++ s.back) s.before there) in
    under_load q span r x lead axles some s h found le

-- every placement of a train has no moment, or is below some vertex
pub below_some_vertex : (q span r : ℕ) (lead : ℤ) (axles : List Axle) → 1 ≤ q → RisesFrom 0 axles → r ≤ q * span → (moment_sum (q * span) r (placed q lead axles) ≡ 0) ⊎ ((x : ℕ) × SomeVertex q span (moment_sum (q * span) r (placed q lead axles)) x lead axles)
below_some_vertex q span r lead axles some rises h =
    elim (greatest_at_load (q * span) r (placed q lead axles) h) [
      | inl none ↦ inl (moment_is (q * span) r q lead axles ∙ none)
      | inr better ↦
          elim (below_vertex_of q span r better.0 lead axles some rises better.2 better.1 (omega (arith, better.3, moment_is (q * span) r q lead axles, moment_is (q * span) better.0 q lead axles))) [
            | inl none ↦ inl none
            | inr s ↦ inr (better.0, s)
          ]
    ]
