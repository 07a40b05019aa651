-- Lengths of histories that are made of parts, over plain numbers.
use Rattle.std.proofs.Common.{◌≡◌, ◌+◌, ◌*◌, ◌<◌, ◌≤◌, ◌++◌, ℕ, suc, List, length, arith}
use Rattle.std.specs.Prelude.{max, min}
use Rattle.std.proofs.lemmas.List.{length-append}

module _ {A : Type 0} where
  pub of_two : (a b : List A) → length (a ++ b) ≡ length a + length b
  of_two a b = omega (arith, length-append a b)

  pub of_three : (a b c : List A) → length ((a ++ b) ++ c) ≡ (length a + length b) + length c
  of_three a b c = omega (arith, length-append (a ++ b) c, length-append a b)

  pub of_three_behind : (a b c : List A) → length (a ++ (b ++ c)) ≡ length a + (length b + length c)
  of_three_behind a b c = omega (arith, length-append a (b ++ c), length-append b c)

-- a number below another is not that number
pub apart : (m n : ℕ) → m < n → m ≡ n → ⊥
apart m n less same = absurd (omega (arith, less, same))

-- what is longer with a part is longer with one more behind it
pub longer : (m a w b s t : ℕ) → m < s → s ≡ a + w → t ≡ a + (w + b) → m < t
longer m a w b s t more first whole = omega (arith, more, first, whole)

pub longer_still : (m s b t u : ℕ) → m < s → t ≡ u → u ≡ s + b → m < t
longer_still m s b t u more same whole = omega (arith, more, same, whole)

-- a full history of a front and an own part, where the own part would be longer
pub longer_alone : (m n h s t a e w : ℕ) → e < w → n ≤ h → n ≡ m → h ≡ s → s ≡ a + e → t ≡ a + w → m < t
longer_alone m n h s t a e w fewer full same grown first whole = omega (arith, fewer, full, same, grown, first, whole)

-- A full history: of what was recalled some were handled, each by an entry at most, and one at least is left. With an entry for
-- each that the last part recalled, it would be longer.
pub longer_with : (m n h t a e g i k z all ra re done left w rw b : ℕ) → n ≤ h → n ≡ m → h ≡ (a + e) + g → g ≡ i → i ≤ k → z ≡ k → all ≡ done + suc left → all ≡ ra + re → done ≡ ra + z
    → w ≡ e → rw ≡ re → b ≡ rw → t ≡ a + (w + b) → m < t
longer_with m n h t a e g i k z all ra re done left w rw b full same whole each few olds first recalled handled own again behind parts =
    omega (arith, full, same, whole, each, few, olds, first, recalled, handled, own, again, behind, parts)

-- Of so many permits that were issued and recalled so far, one command more issues one at most, and each of its renewals another.
pub few_issued : (n i r o ro a ra g u v : ℕ) → i ≤ n + r → o ≤ 1 → a ≤ g → g ≡ ro → u ≡ i + (o + a) → v ≡ r + (ro + ra) → u ≤ suc n + v
few_issued n i r o ro a ra g u v few one renewed each issued recalled = omega (arith, few, one, renewed, each, issued, recalled)

-- A command more makes two entries at most, and one for each permit that it recalls: of these there are no more than commands.
pub one_more_few : (n h i r w o ro g t : ℕ) → h ≤ n * n + 2 * n → i ≤ n + r → w ≤ 2 → o ≤ 1 → r + ro ≤ i + o → g ≡ ro → t ≡ h + (w + g) → t ≤ suc n * suc n + 2 * suc n
one_more_few n h i r w o ro g t few issued two one recalled each whole = omega (arith, few, issued, two, one, recalled, each, whole)

-- one that was stopped makes one entry at most
pub few_stopped : (n h w t : ℕ) → h ≤ n * n + 2 * n → w < 2 → t ≡ h + w → t < suc n * suc n + 2 * suc n
few_stopped n h w t few one whole = omega (arith, few, one, whole)

-- one that has not applied again for all that it recalled makes fewer than one that has
pub few_owing : (n h i r w o ro a left g t : ℕ) → h ≤ n * n + 2 * n → i ≤ n + r → w ≤ 2 → o ≤ 1 → r + ro ≤ i + o → ro ≡ a + suc left → g ≡ a → t ≡ h + (w + g) → t < suc n * suc n + 2 * suc n
few_owing n h i r w o ro a left g t few issued two one recalled parts each whole = omega (arith, few, issued, two, one, recalled, parts, each, whole)

-- a room that was filled by fewer entries than may be made is the greatest that there is
pub whole_room : (most h made m : ℕ) → most ≡ max 1 (min 1000000 made) → m ≡ most → m ≤ h → h < made → h ≤ 1000000 → most ≡ 1000000
whole_room most h made m is same full less few = omega (arith, is, same, full, less, few)
