-- Names that are made are of ASCII.
use Rattle.std.proofs.Common.{◌≡◌, ◌<◌, ◌∷◌, ℕ, true, arith}
use Rattle.std.specs.Fmt.{decimal}
use Rattle.day_maker.specs.Made.{cell, numbered_name}
use Rattle.day_writer.proofs.Plain.{IsPlain, all_append, is_plain, number_plain}

pub cell_plain : (l r c : ℕ) → is_plain l ≡ true → r < 100 → c < 100 → IsPlain (cell l r c)
unfolding cell
cell_plain l r c h hr hc = rw h (all_append is_plain (decimal r) (45 ∷ decimal c) (number_plain r (omega arith)) (number_plain c (omega arith)))

pub numbered_plain : (l n : ℕ) → is_plain l ≡ true → n < 100 → IsPlain (numbered_name l n)
numbered_plain l n h k = rw h (number_plain n (omega arith))
