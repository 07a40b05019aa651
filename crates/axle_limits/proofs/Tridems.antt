-- The heaviest tridem group: found one axle after another, and found by the definition.
use Rattle.std.proofs.Common.{◌≡◌, ℕ, zero, suc, ◌+◌, ◌-◌, ◌<◌, ◌≤◌, List, length, get_or, Bool, true, false, not, ◌||◌, leb, ltb, cond, find, Option, Some, None, Contains, MatchOption, arith, refl, sym, ap, ◌∙◌, inl, inr, subst}
use Rattle.std.specs.List.{list_all}
use Rattle.std.specs.Option.{option_map}
use Rattle.std.proofs.lemmas.Bool.{true≢false, cases_lt, and_from, and_parts, le-leb, leb-true, lt-ltb, ltb-true}
use Rattle.std.proofs.lemmas.List.FromFn.{get_or-range_with_len, length-range_with_len}
use Rattle.std.proofs.lemmas.List.Sums.{AllPass-from_list_all, list_all-from_AllPass}
use Rattle.axle_train.specs.declared.axle.Axle.{Axle}
use Rattle.axle_train.specs.Trains.{group_weight, spread}
use Rattle.axle_limits.specs.declared.legal.TheConstants.{TANDEM_SPREAD, TRIDEM_SPREAD}
use Rattle.axle_limits.specs.declared.tridem.Heaviest.{Heaviest}
use Rattle.axle_limits.specs.Tridems.{IsTridem, IsHeaviestTridem, IsHeaviestBefore, IsHeaviestSoFar, HasNoTridem, is_tridem, three_at, tridem_at, starts_of, is_heaviest_at, heaviest_tridem_of, heavier_of, TridemIsComputed}
use Rattle.axle_limits.proofs.Lists.{IsFirst, found_first, found_none}

implied : (a b : Bool) → a ≡ true → (not a || b) ≡ true → b ≡ true
implied true b e h = h
implied false b e h = absurd (true≢false (sym e))

imply : (a b : Bool) → (a ≡ true → b ≡ true) → (not a || b) ≡ true
imply true b f = f refl
imply false b f = refl

-- the test of three axles means that they are a tridem group
tridem_means : (axles : List Axle) (i : ℕ) → i + 2 < length axles → is_tridem axles i ≡ true → IsTridem axles i (i + 2)
tridem_means axles i within h =
    let parts = and_parts (ltb TANDEM_SPREAD (spread axles i (i + 2))) (leb (spread axles i (i + 2)) TRIDEM_SPREAD) h in
    record { three = refl; within = within; far = ltb-true TANDEM_SPREAD (spread axles i (i + 2)) parts.0; near = leb-true (spread axles i (i + 2)) TRIDEM_SPREAD parts.1 }

tridem_tests : (axles : List Axle) (i j : ℕ) → IsTridem axles i j → is_tridem axles i ≡ true
tridem_tests axles i j is =
    let at : IsTridem axles i (i + 2) = subst (IsTridem axles i) is.three is in
    and_from (ltb TANDEM_SPREAD (spread axles i (i + 2))) (leb (spread axles i (i + 2)) TRIDEM_SPREAD)
    (lt-ltb TANDEM_SPREAD (spread axles i (i + 2)) at.far) (le-leb (spread axles i (i + 2)) TRIDEM_SPREAD at.near)

-- the group that begins with an axle has one weight
abbrev weight_of : List Axle → ℕ → ℕ
weight_of axles i = group_weight axles i (i + 2)

start_at : (axles : List Axle) (k d : ℕ) → k < length axles - 2 → get_or (starts_of axles) k d ≡ k
start_at axles k d h = get_or-range_with_len 0 (length axles - 2) k d h ∙ omega arith

is_start : (axles : List Axle) (i j : ℕ) → IsTridem axles i j → i < length axles - 2
is_start axles i j is = omega (arith, is.three, is.within)

starts_contain : (axles : List Axle) (i : ℕ) → i < length axles - 2 → Contains (starts_of axles) i
starts_contain axles i h = (i, omega (arith, h, length-range_with_len 0 (length axles - 2)), start_at axles i i h)

-- no tridem group weighs more than the one that begins with axle i
abbrev IsMost : List Axle → ℕ → Type 0
IsMost axles i = (a b : ℕ) → IsTridem axles a b → weight_of axles a ≤ weight_of axles i

heaviest_tests : (axles : List Axle) (i j : ℕ) → IsTridem axles i j → IsMost axles i → is_heaviest_at axles i ≡ true
heaviest_tests axles i j is most =
    and_from (is_tridem axles i) (list_all p (starts_of axles)) (tridem_tests axles i j is) (list_all-from_AllPass p (starts_of axles) (λ k d inside.
    let start : k < length axles - 2 = omega (arith, inside, length-range_with_len 0 (length axles - 2)) in
    rw (start_at axles k d start) (imply (is_tridem axles k) (leb (weight_of axles k) (weight_of axles i)) (λ here.
    le-leb (weight_of axles k) (weight_of axles i) (most k (k + 2) (tridem_means axles k (omega (arith, start)) here))))))
  where
    p : ℕ → Bool
    p k = not (is_tridem axles k) || leb (weight_of axles k) (weight_of axles i)

heaviest_means : (axles : List Axle) (i : ℕ) → is_heaviest_at axles i ≡ true → IsMost axles i
heaviest_means axles i h a b is =
    let parts = and_parts (is_tridem axles i) (list_all p (starts_of axles)) h in
    let inside : a < length (starts_of axles) = omega (arith, is_start axles a b is, length-range_with_len 0 (length axles - 2)) in
    let here : p a ≡ true = ap p (sym (start_at axles a a (is_start axles a b is))) ∙ AllPass-from_list_all p (starts_of axles) parts.1 a a inside in
    leb-true (weight_of axles a) (weight_of axles i) (implied (is_tridem axles a) (leb (weight_of axles a) (weight_of axles i)) (tridem_tests axles a b is) here)
  where
    p : ℕ → Bool
    p k = not (is_tridem axles k) || leb (weight_of axles k) (weight_of axles i)

-- the first axle that passes the test begins the heaviest tridem group
found_is_heaviest : (axles : List Axle) (w : ℕ) → IsFirst (is_heaviest_at axles) (starts_of axles) w → IsHeaviestTridem axles (three_at axles w)
found_is_heaviest axles w found =
    let inside : found.place < length axles - 2 = omega (arith, found.within, length-range_with_len 0 (length axles - 2)) in
    let place : found.place ≡ w = sym (start_at axles found.place 0 inside) ∙ found.at 0 in
    let parts = and_parts (is_tridem axles w) _ found.passes in
    let most = heaviest_means axles w found.passes in
    record {
      is_tridem = tridem_means axles w (omega (arith, place, inside)) parts.0;
      weight_is = refl;
      greatest = λ i j is. rw is.three (most i j is);
      first = λ i j is before. elim (cases_lt (weight_of axles i) (weight_of axles w)) [
        | inl lighter ↦ rw is.three lighter
        | inr no_lighter ↦ (
            let passes : is_heaviest_at axles i ≡ true = heaviest_tests axles i j is (λ a b other. omega (arith, most a b other, no_lighter)) in
            let fails : is_heaviest_at axles i ≡ false = ap (is_heaviest_at axles) (sym (start_at axles i 0 (is_start axles i j is))) ∙ found.before i 0 (omega (arith, before, place)) in
            absurd (true≢false (sym passes ∙ fails))
            )
      ];
    }

-- a truck has one heaviest tridem group
one_heaviest : (axles : List Axle) (g h : Heaviest) → IsHeaviestTridem axles g → IsHeaviestTridem axles h → g ≡ h
one_heaviest axles g h is other =
    let low : g.i ≤ h.i = elim (cases_lt h.i g.i) [ inl earlier ↦ absurd (omega (arith, is.first h.i h.j other.is_tridem earlier, other.greatest g.i g.j is.is_tridem, is.weight_is, other.weight_is)) | inr from ↦ from ] in
    let high : h.i ≤ g.i = elim (cases_lt g.i h.i) [ inl earlier ↦ absurd (omega (arith, other.first g.i g.j is.is_tridem earlier, is.greatest h.i h.j other.is_tridem, is.weight_is, other.weight_is)) | inr from ↦ from ] in
    let first : g.i ≡ h.i = omega (arith, low, high) in
    let last : g.j ≡ h.j = omega (arith, first, is.is_tridem.three, other.is_tridem.three) in
    let weight : g.weight ≡ h.weight = is.weight_is ∙ ap (λ i. group_weight axles i g.j) first ∙ ap (group_weight axles h.i) last ∙ sym other.weight_is in
    λ t. record { i = first t; j = last t; weight = weight t }

-- the definition finds the heaviest tridem group
pub heaviest_is_found : (axles : List Axle) (g : Heaviest) → IsHeaviestTridem axles g → heaviest_tridem_of axles ≡ Some g
unfolding heaviest_tridem_of
heaviest_is_found axles g is = by (find (is_heaviest_at axles) (starts_of axles)) refl
  where
    own : g.weight ≡ weight_of axles g.i
    own = is.weight_is ∙ ap (group_weight axles g.i) is.is_tridem.three

    most : (a b : ℕ) → b ≡ a + 2 → group_weight axles a b ≤ g.weight → weight_of axles a ≤ weight_of axles g.i
    most a b three h = let same = ap (group_weight axles a) three in omega (arith, own, same, h)

    by : (o : Option ℕ) → find (is_heaviest_at axles) (starts_of axles) ≡ o → option_map (three_at axles) o ≡ Some g
    by (Some w) e = ap Some (one_heaviest axles (three_at axles w) g (found_is_heaviest axles w (found_first (is_heaviest_at axles) (starts_of axles) w e)) is)
    by None e =
        let fails = found_none (is_heaviest_at axles) (starts_of axles) e g.i (starts_contain axles g.i (is_start axles g.i g.j is.is_tridem)) in
        let passes = heaviest_tests axles g.i g.j is.is_tridem (λ a b other. most a b other.three (is.greatest a b other)) in
        absurd (true≢false (sym passes ∙ fails))

-- and finds nothing else
found_is_the_heaviest : (axles : List Axle) (g : Heaviest) → heaviest_tridem_of axles ≡ Some g → IsHeaviestTridem axles g
unfolding heaviest_tridem_of
found_is_the_heaviest axles g = by (find (is_heaviest_at axles) (starts_of axles)) refl
  where
    by : (o : Option ℕ) → find (is_heaviest_at axles) (starts_of axles) ≡ o → option_map (three_at axles) o ≡ Some g → IsHeaviestTridem axles g
    by (Some w) e is =
        let same : three_at axles w ≡ g = cc in
        subst (IsHeaviestTridem axles) same (found_is_heaviest axles w (found_first (is_heaviest_at axles) (starts_of axles) w e))
    by None e is = absurd cc

pub none_is_found : (axles : List Axle) → HasNoTridem axles → heaviest_tridem_of axles ≡ None
none_is_found axles none = by (heaviest_tridem_of axles) refl
  where
    by : (o : Option Heaviest) → heaviest_tridem_of axles ≡ o → o ≡ None
    by (Some g) e = absurd (none g.i g.j (found_is_the_heaviest axles g e).is_tridem)
    by None e = refl

-- one axle more
pub so_far_next : (axles : List Axle) (n : ℕ) (best : Option Heaviest) → n + 2 < length axles → IsHeaviestSoFar axles n best
    → IsHeaviestSoFar axles (n + 1) (heavier_of best (tridem_at axles n))
so_far_next axles n best within so_far = by (is_tridem axles n) refl best so_far
  where
    none : is_tridem axles n ≡ false → (i j : ℕ) → IsTridem axles i j → i < n + 1 → i < n
    none e i j is h = elim (cases_lt i n) [
      | inl before ↦ before
      | inr from ↦ (
          let same : i ≡ n = omega (arith, h, from) in
          absurd (true≢false (sym (tridem_tests axles i j is) ∙ ap (is_tridem axles) same ∙ e))
          )
    ]

    -- a group that begins with the next axle, where those before it are lighter
    takes : is_tridem axles n ≡ true → ((i j : ℕ) → IsTridem axles i j → i < n → group_weight axles i j < weight_of axles n) → IsHeaviestBefore axles (n + 1) (three_at axles n)
    takes e lighter = record {
      is_tridem = tridem_means axles n within e;
      weight_is = refl;
      before = omega arith;
      greatest = λ i j is h. elim (cases_lt i n) [
        | inl before ↦ omega (arith, lighter i j is before)
        | inr from ↦ (
            let same : i ≡ n = omega (arith, h, from) in
            rw (is.three, same) (omega arith)
            )
      ];
      first = lighter;
    }

    by : (b : Bool) → is_tridem axles n ≡ b → (best : Option Heaviest) → IsHeaviestSoFar axles n best → IsHeaviestSoFar axles (n + 1) (heavier_of best (cond b (Some (three_at axles n)) None))
    by false e None so = λ i j is h. so i j is (none e i j is h)
    by false e (Some g) so = record { is_tridem = so.is_tridem; weight_is = so.weight_is; before = omega (arith, so.before); greatest = λ i j is h. so.greatest i j is (none e i j is h); first = so.first }
    by true e None so = takes e (λ i j is h. absurd (so i j is h))
    by true e (Some g) so = chosen (leb (weight_of axles n) g.weight) refl
      where
        chosen : (b : Bool) → leb (weight_of axles n) g.weight ≡ b → IsHeaviestSoFar axles (n + 1) (cond b (Some g) (Some (three_at axles n)))
        chosen true h = record {
          is_tridem = so.is_tridem;
          weight_is = so.weight_is;
          before = omega (arith, so.before);
          greatest = λ i j is inside. elim (cases_lt i n) [
            | inl before ↦ so.greatest i j is before
            | inr from ↦ (
                let same : i ≡ n = omega (arith, inside, from) in
                rw (is.three, same) (leb-true (weight_of axles n) g.weight h)
                )
          ];
          first = so.first;
        }
        chosen false h = takes e (λ i j is before.
            elim (cases_lt g.weight (weight_of axles n)) [ inl lighter ↦ omega (arith, so.greatest i j is before, lighter) | inr heavy ↦ absurd (true≢false (sym (le-leb (weight_of axles n) g.weight heavy) ∙ h)) ])

-- all axles
pub so_far_all : (axles : List Axle) (best : Option Heaviest) → IsHeaviestSoFar axles (length axles - 2) best → MatchOption best (HasNoTridem axles) (IsHeaviestTridem axles)
so_far_all axles None so = λ i j is. so i j is (is_start axles i j is)
so_far_all axles (Some g) so = record { is_tridem = so.is_tridem; weight_is = so.weight_is; greatest = λ i j is. so.greatest i j is (is_start axles i j is); first = so.first }

-- which the definition finds
pub so_far_value : (axles : List Axle) (best : Option Heaviest) → IsHeaviestSoFar axles (length axles - 2) best → best ≡ heaviest_tridem_of axles
so_far_value axles None so = sym (none_is_found axles (so_far_all axles None so))
so_far_value axles (Some g) so = sym (heaviest_is_found axles g (so_far_all axles (Some g) so))

-- some group is the heaviest so far, or there is none
so_far : (axles : List Axle) (n : ℕ) → n ≤ length axles - 2 → (best : Option Heaviest) × IsHeaviestSoFar axles n best
so_far axles zero h = (None, λ i j is before. absurd (omega (arith, before)))
so_far axles (suc n) h =
    let (best, so) = so_far axles n (omega (arith, h)) in
    (heavier_of best (tridem_at axles n), subst (λ m. IsHeaviestSoFar axles m (heavier_of best (tridem_at axles n))) (omega arith) (so_far_next axles n best (omega (arith, h)) so))

pub tridem_is_computed : TridemIsComputed
tridem_is_computed = record {
  some = λ axles g. (found_is_the_heaviest axles g, heaviest_is_found axles g);
  none = λ axles. (λ e. by axles e (so_far axles (length axles - 2) (omega arith)), none_is_found axles);
}
  where
    by : (axles : List Axle) → heaviest_tridem_of axles ≡ None → ((best : Option Heaviest) × IsHeaviestSoFar axles (length axles - 2) best) → HasNoTridem axles
    by axles e (None, so) = so_far_all axles None so
    by axles e (Some g, so) = absurd (let is = heaviest_is_found axles g (so_far_all axles (Some g) so) in let r = sym e ∙ is in cc)
