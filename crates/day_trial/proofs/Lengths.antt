-- Lengths of an office's history, over plain numbers.
use Rattle.std.proofs.Common.{◌≡◌, ◌+◌, ◌*◌, ◌<◌, ◌≤◌, ℕ, arith}

-- at most 17 entries for each command, and for one command more
pub few_more : (before own after whole k t : ℕ) → before ≤ 17 * k → own ≤ 17 → after ≡ whole → whole ≡ before + own → t ≡ k + 1 → after ≤ 17 * t
few_more before own after whole k t few short same parts more = omega (arith, few, short, same, parts, more)

-- a history with 17 places left is not full behind at most 16 entries
pub has_place : (most n after whole before own : ℕ) → n ≤ after → own ≤ 16 → before + 17 ≤ most → after ≡ whole → n ≡ most → whole ≡ before + own → ⊥
has_place most n after whole before own full few room same kept parts = absurd (omega (arith, full, few, room, same, kept, parts))

-- whoever is one of a few has a number that a caller may have
pub few_callers : (caller n : ℕ) → n ≤ 16 → caller < n → caller < 65536
few_callers caller n few low = omega (arith, few, low)
