-- Where the greatest of a run's values is under an axle, the shear passes 0 there.
use Rattle.std.proofs.Common.{◌≡◌, ℕ, ◌+◌, ◌*◌, ◌<◌, ◌≤◌, arith}
use Rattle.std.proofs.Math.Nat.{mul-pos, le_of_mul-le-mul_left}

-- The run weighs R and its weight times place is S, its axles before place p weigh B and have T; the axle at p weighs w, and the next one is d behind it.
-- a and b are where the two stand at their vertices, times twice the weight, F and G what the axles in front take off, and V and W the values

-- the value under the next axle is no greater
pub shear_to : (R L p d S B T w a F b G V W : ℕ) → 0 < R → 0 < d → a + S ≡ R * (L + p) → F + T ≡ B * p → b + S ≡ R * (L + (p + d)) → G + (T + w * p) ≡ (B + w) * (p + d) → V + 4 * (R * L) * F ≡ a * a → b * b ≤ W + 4 * (R * L) * G → W ≤ V → R * (L + p) + S < 2 * (L * (B + w) + S)
shear_to R L p d S B T w a F b G V W heavy apart ea ef eb eg v u less =
    let there : b ≡ a + R * d = omega (arith, ea, eb) in
    let more : G ≡ F + (B + w) * d = omega (arith, ef, eg) in
    let squares : (a + R * d) * (a + R * d) ≤ W + 4 * (R * L) * (F + (B + w) * d) = rw (there, more) at u in
    let far : R * d * (2 * a + R * d) ≤ R * d * (4 * (L * (B + w))) = omega (arith, squares, v, less) in
    let step : 0 < R * d = mul-pos heavy apart in
    let half = le_of_mul-le-mul_left {m = 2 * a + R * d} {n = 4 * (L * (B + w))} {k = R * d} far step in
    omega (arith, half, step, ea)

-- the value under the axle in front is no greater
pub shear_from : (R L p d S B T w a F b G V W : ℕ) → 0 < R → 0 < d → a + S ≡ R * (L + p) → F + T ≡ B * p → b + S ≡ R * (L + (p + d)) → G + (T + w * p) ≡ (B + w) * (p + d) → a * a ≤ V + 4 * (R * L) * F → W + 4 * (R * L) * G ≡ b * b → V ≤ W → 2 * (L * (B + w) + S) ≤ R * (L + (p + d)) + S
shear_from R L p d S B T w a F b G V W heavy apart ea ef eb eg u v less =
    let there : b ≡ a + R * d = omega (arith, ea, eb) in
    let more : G ≡ F + (B + w) * d = omega (arith, ef, eg) in
    let squares : W + 4 * (R * L) * (F + (B + w) * d) ≡ (a + R * d) * (a + R * d) = rw (there, more) at v in
    let far : R * d * (4 * (L * (B + w))) ≤ R * d * (2 * a + R * d) = omega (arith, squares, u, less) in
    let half = le_of_mul-le-mul_left {m = 4 * (L * (B + w))} {n = 2 * a + R * d} {k = R * d} far (mul-pos heavy apart) in
    omega (arith, half, there, eb)
