-- Each influence line of a simple span rises up to one place and falls behind it.
use Rattle.std.proofs.Common.{◌≡◌, ℕ, ◌+◌, ◌≤◌, arith, ℤ, pos, negsuc, ◌≤ℤ◌, inl, inr}
use Rattle.std.proofs.lemmas.Int.{ints}
use Rattle.influence_line.specs.Placed.{moment_line, left_line, right_line}
use Rattle.influence_line.specs.Reactions.{reaction_line}
use Rattle.influence_line.specs.declared.placing.End.{End}
use Rattle.influence_line.specs.declared.placing.End.TheVariants.{Left, Right}
use Rattle.influence_line.proofs.Moves.{moment_rightward, moment_leftward}
use Rattle.influence_line.proofs.ReactionLines.{left_nearer, right_nearer, right_past, either_side}

-- the line rises up to `top`, and falls from there on
pub record IsUnimodal (line : ℤ → ℕ) (top : ℕ) : Type 0 where
  pub rises : (x y : ℤ) → x ≤ℤ y → y ≤ℤ pos top → line x ≤ line y
  pub falls : (x y : ℤ) → y ≤ℤ x → pos top ≤ℤ y → line x ≤ line y

-- that of the moment has its top at the section
pub moment_unimodal : (n r : ℕ) → r ≤ n → IsUnimodal (moment_line n r) r
moment_unimodal n r within = record {
  rises = λ x y right near. moment_rightward n r x y within right near;
  falls = λ x y left near. moment_leftward n r x y within left near;
}

left_rises : (n : ℕ) (x y : ℤ) → x ≤ℤ y → y ≤ℤ pos 0 → left_line n x ≤ left_line n y
left_rises n (negsuc x) y right near = omega arith
left_rises n (pos x) y right near = let same : pos x ≡ y = omega (arith, ints, right, near) in rw (← same) (omega arith)

right_falls : (n : ℕ) (x y : ℤ) → y ≤ℤ x → pos n ≤ℤ y → right_line n x ≤ right_line n y
right_falls n x y left near =
    elim (either_side x (n + 1)) [
      | inl on ↦ let same : x ≡ y = omega (arith, ints, left, near, on) in rw same (omega arith)
      | inr off ↦ rw (right_past n x (omega (arith, ints, off))) (omega arith)
    ]

-- where the line of a reaction has its top: at its support
abbrev pub support_at : ℕ → End → ℕ
support_at n Left = 0
support_at n Right = n

pub reaction_unimodal : (n : ℕ) (end : End) → IsUnimodal (reaction_line n end) (support_at n end)
reaction_unimodal n Left = record {
  rises = λ x y right near. left_rises n x y right near;
  falls = λ x y left near. left_nearer n x y near left;
}
reaction_unimodal n Right = record {
  rises = λ x y right near. right_nearer n x y right near;
  falls = λ x y left near. right_falls n x y left near;
}
