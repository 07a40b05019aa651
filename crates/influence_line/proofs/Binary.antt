-- Greatest common divisors without a division: the steps of the binary algorithm.
use Rattle.std.proofs.Common.{◌≡◌, ◌⊎◌, ◌∙◌, ℕ, zero, suc, ◌+◌, ◌-◌, ◌*◌, ◌/◌, ◌%◌, ◌<◌, ◌≤◌, ◌^◌, min, arith, refl, ap, sym, subst, inl, inr}
use Rattle.std.specs.Int.{IsGcd, abs_diff, ◌∣◌}
use Rattle.std.specs.Int.Count.{count_trailing_zeros, under}
use Rattle.std.proofs.lemmas.Bool.{cases_lt}
use Rattle.std.proofs.lemmas.Nat.{pow-add, pow_pos}
use Rattle.std.proofs.lemmas.Nat.Gcd.{IsGcd-from_sub, IsGcd-swap, dvd_refl, dvd_trans}
use Rattle.std.proofs.Math.Nat.{div-div-eq-div-mul, div-mul_cancel, dvd-mul_left, dvd-mul_left_of_dvd, dvd-mul_right, dvd_of_mul-dvd-mul_left, min-eq_left, min-eq_right, mul-dvd-mul_left, two-pow-succ}
use Rattle.influence_line.proofs.Lowest.{has_gcd}

half_or_more : (n : ℕ) → (n % 2 ≡ 0) ⊎ (n % 2 ≡ 1)
half_or_more n = by (n % 2) refl (omega arith)
  where
    by : (r : ℕ) → n % 2 ≡ r → r < 2 → (n % 2 ≡ 0) ⊎ (n % 2 ≡ 1)
    by zero e h = inl e
    by (suc zero) e h = inr e
    by (suc (suc r)) e h = absurd (omega (arith, h))

even_times : (v d a : ℕ) → 2 * v * d ≡ 2 * a → v * d ≡ a
even_times v d a e = omega (arith, e)

-- what divides an odd number is odd
odd_divisor : (d b : ℕ) → b % 2 ≡ 1 → d ∣ b → d % 2 ≡ 1
odd_divisor d b odd h =
    let e : b / d * d ≡ b = div-mul_cancel d h in
    elim (half_or_more d) [
      | inl even ↦ absurd (by (b / d) (d / 2) (omega (arith, even)) e)
      | inr is ↦ is
    ]
  where
    by : (q u : ℕ) → d ≡ 2 * u → q * d ≡ b → ⊥
    by q u two e = let f : q * (2 * u) ≡ b = subst (λ t. q * t ≡ b) two e in omega (arith, f, odd)

-- an odd number that divides twice a number divides the number
odd_divides : (d a : ℕ) → d % 2 ≡ 1 → d ∣ 2 * a → d ∣ a
odd_divides d a odd h =
    let e : 2 * a / d * d ≡ 2 * a = div-mul_cancel d h in
    by (2 * a / d) e (half_or_more (2 * a / d))
  where
    odd_times : (m u v : ℕ) → d ≡ 2 * u + 1 → m ≡ 2 * v + 1 → m * d ≡ 2 * a → ⊥
    odd_times m u v f g e =
        let k : (2 * v + 1) * (2 * u + 1) ≡ 2 * a = subst (λ t. (2 * v + 1) * t ≡ 2 * a) f (subst (λ t. t * d ≡ 2 * a) g e) in
        omega (arith, k)

    by : (m : ℕ) → m * d ≡ 2 * a → (m % 2 ≡ 0) ⊎ (m % 2 ≡ 1) → d ∣ a
    by m e (inl even) =
        let twice : m ≡ 2 * (m / 2) = omega (arith, even) in
        subst (λ t. d ∣ t) (even_times (m / 2) d a (subst (λ t. t * d ≡ 2 * a) twice e)) (dvd-mul_left d (m / 2))
    by m e (inr is) = absurd (odd_times m (d / 2) (m / 2) (omega (arith, odd)) (omega (arith, is)) e)

-- a factor of two is in no common divisor with an odd number
pub twice : (a b g : ℕ) → b % 2 ≡ 1 → IsGcd a b g → IsGcd (2 * a) b g
twice a b g odd h = (dvd-mul_left_of_dvd g h.0 2, h.1, λ d p q. h.2 d (odd_divides d a (odd_divisor d b odd q) p) q)

doubled : (k x : ℕ) → 2 ^ suc k * x ≡ 2 * (2 ^ k * x)
doubled k x = rw (two-pow-succ k) (omega arith)

pub twos : (k a b g : ℕ) → b % 2 ≡ 1 → IsGcd a b g → IsGcd (2 ^ k * a) b g
twos zero a b g odd h = subst (λ n. IsGcd n b g) (omega arith) h
twos (suc k) a b g odd h = subst (λ n. IsGcd n b g) (sym (doubled k a)) (twice (2 ^ k * a) b g odd (twos k a b g odd h))

-- a common factor comes out
pub scaled : (k a b g : ℕ) → 0 < k → IsGcd a b g → IsGcd (k * a) (k * b) (k * g)
scaled k a b g some h = (mul-dvd-mul_left g k h.0, mul-dvd-mul_left g k h.1, greatest)
  where
    greatest : (d : ℕ) → d ∣ k * a → d ∣ k * b → d ∣ k * g
    greatest d p q =
        let gcd = has_gcd (suc (k * b)) (k * a) (k * b) (omega arith) in
        let over : k ∣ gcd.0 = gcd.1.2 k (dvd-mul_right k a) (dvd-mul_right k b) in
        let t = gcd.0 / k in
        let whole : gcd.0 ≡ k * t = sym (div-mul_cancel k over) ∙ omega arith in
        let in_a : t ∣ a = dvd_of_mul-dvd-mul_left t some (subst (λ n. n ∣ k * a) whole gcd.1.0) in
        let in_b : t ∣ b = dvd_of_mul-dvd-mul_left t some (subst (λ n. n ∣ k * b) whole gcd.1.1) in
        let all : gcd.0 ∣ k * g = subst (λ n. n ∣ k * g) (sym whole) (mul-dvd-mul_left t k (h.2 t in_a in_b)) in
        dvd_trans d (gcd.1.2 d p q) all

-- n is the c-th power of two times an odd number
abbrev pub IsHalved : ℕ → ℕ → Type 0
IsHalved n c = (n ≡ 2 ^ c * (n / 2 ^ c)) × (n / 2 ^ c % 2 ≡ 1)

halved_once_more : (n c : ℕ) → n % 2 ≡ 0 → IsHalved (n / 2) c → IsHalved n (suc c)
halved_once_more n c even h =
    let power : 2 ^ suc c ≡ 2 * 2 ^ c = two-pow-succ c ∙ omega arith in
    let same : n / 2 ^ suc c ≡ n / 2 / 2 ^ c = ap (λ p. n / p) power ∙ sym (div-div-eq-div-mul n 2 (2 ^ c)) in
    rw same (by (n / 2 / 2 ^ c) h.0, h.1)
  where
    by : (q : ℕ) → n / 2 ≡ 2 ^ c * q → n ≡ 2 ^ suc c * q
    by q e = let more = doubled c q in omega (arith, e, more, even)

-- a number of k digits is as many times halved as it has zeros behind its last one
pub halved : (k n : ℕ) → 0 < n → n < 2 ^ k → IsHalved n (count_trailing_zeros k n)
unfolding count_trailing_zeros
halved zero n some less = absurd (omega (arith, some, less))
halved (suc k) n some less = by (n % 2) refl (λ more. halved k (n / 2) more (let power = two-pow-succ k in omega (arith, less, power)))
  where
    by : (r : ℕ) → n % 2 ≡ r → (0 < n / 2 → IsHalved (n / 2) (count_trailing_zeros k (n / 2))) → IsHalved n (under r (count_trailing_zeros k (n / 2)))
    by zero e again = halved_once_more n (count_trailing_zeros k (n / 2)) e (again (omega (arith, e, some)))
    by (suc r) e again = (omega arith, omega (arith, e))

-- the common twos of two numbers come out, and the others are in no common divisor
common_first : (i j u v g : ℕ) → i ≤ j → u % 2 ≡ 1 → IsGcd u v g → IsGcd (2 ^ i * u) (2 ^ j * v) (2 ^ i * g)
common_first i j u v g le odd h =
    let more = IsGcd-swap (2 ^ (j - i) * v) u g (twos (j - i) v u g odd (IsGcd-swap u v g h)) in
    let rest : i + (j - i) ≡ j = omega (arith, le) in
    let power : 2 ^ i * 2 ^ (j - i) ≡ 2 ^ j = sym (pow-add 2 i (j - i)) ∙ ap (λ n. 2 ^ n) rest in
    let same : 2 ^ i * (2 ^ (j - i) * v) ≡ 2 ^ j * v = by (2 ^ i) (2 ^ (j - i)) (2 ^ j) power in
    subst (λ n. IsGcd (2 ^ i * u) n (2 ^ i * g)) same (scaled (2 ^ i) u (2 ^ (j - i) * v) g (pow_pos i) more)
  where
    by : (x y z : ℕ) → x * y ≡ z → x * (y * v) ≡ z * v
    by x y z e = rw (← e) (omega arith)

pub common : (i j u v g : ℕ) → u % 2 ≡ 1 → v % 2 ≡ 1 → IsGcd u v g → IsGcd (2 ^ i * u) (2 ^ j * v) (2 ^ min i j * g)
common i j u v g odd other h =
    elim (cases_lt i j) [
      | inl less ↦ rw (min-eq_left {n = i} {m = j} (omega (arith, less))) (common_first i j u v g (omega (arith, less)) odd h)
      | inr least ↦ rw (min-eq_right {n = j} {m = i} least) (IsGcd-swap (2 ^ j * v) (2 ^ i * u) (2 ^ j * g) (common_first j i v u g least other (IsGcd-swap u v g h)))
    ]

-- the same of two numbers and their odd parts
pub common_of : (a b i j u v k g : ℕ) → a ≡ 2 ^ i * u → b ≡ 2 ^ j * v → u % 2 ≡ 1 → v % 2 ≡ 1 → k ≡ min i j → IsGcd u v g → IsGcd a b (g * 2 ^ k)
common_of a b i j u v k g first second odd other least h =
    rw (first, second, least) (subst (λ n. IsGcd (2 ^ i * u) (2 ^ j * v) n) (omega arith) (common i j u v g odd other h))

-- the difference of two numbers and the less of them have their greatest common divisor
pub apart : (x y far least g : ℕ) → far ≡ abs_diff x y → least ≡ min x y → IsGcd far least g → IsGcd x y g
apart x y far least g is_far is_least h =
    elim (cases_lt x y) [
      | inl less ↦
          let far_is : far ≡ y - x = is_far ∙ omega (arith, less) in
          let least_is : least ≡ x = is_least ∙ min-eq_left {n = x} {m = y} (omega (arith, less)) in
          IsGcd-swap y x g (IsGcd-from_sub y x g (omega (arith, less)) (rw (far_is, least_is) at h))
      | inr more ↦
          let far_is : far ≡ x - y = is_far ∙ omega (arith, more) in
          let least_is : least ≡ y = is_least ∙ min-eq_right {n = y} {m = x} more in
          IsGcd-from_sub x y g more (rw (far_is, least_is) at h)
    ]

pub odd_least : (x y least : ℕ) → x % 2 ≡ 1 → y % 2 ≡ 1 → least ≡ min x y → least % 2 ≡ 1
odd_least x y least odd other is =
    elim (cases_lt x y) [
      | inl less ↦ let e : least ≡ x = is ∙ min-eq_left {n = x} {m = y} (omega (arith, less)) in omega (arith, e, odd)
      | inr more ↦ let e : least ≡ y = is ∙ min-eq_right {n = y} {m = x} more in omega (arith, e, other)
    ]

pub itself : (x y : ℕ) → x ≡ y → IsGcd x y x
itself x y e = (dvd_refl x, subst (λ n. x ∣ n) e (dvd_refl x), λ d p q. p)
