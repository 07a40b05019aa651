-- From one run that can be the axles on the span to the next.
use Rattle.std.proofs.Common.{◌≡◌, ℕ, ◌+◌, ◌-◌, ◌<◌, ◌≤◌, List, length, arith, inl, inr}
use Rattle.std.proofs.lemmas.Bool.{cases_lt}
use Rattle.axle_train.specs.declared.axle.Axle.{Axle}
use Rattle.axle_train.specs.Bounds.{IsTrain}
use Rattle.axle_train.specs.Trains.{spread}
use Rattle.axle_train.proofs.Places.{place_ordered}
use Rattle.moment_peak.specs.Runs.{CanBeOnSpan}

-- the axle behind fits too
pub can_be-longer : (span : ℕ) (axles : List Axle) (first last : ℕ) → IsTrain axles → CanBeOnSpan span axles first last → last + 1 < length axles → spread axles first (last + 1) ≤ span → CanBeOnSpan span axles first (last + 1)
can_be-longer span axles first last train can within fits = record {
  ordered = omega (arith, can.ordered);
  within = within;
  fits = fits;
  alone = λ some more. omega (arith, can.alone some within, place_ordered axles 0 (last + 1) (last + 1 + 1) train.rising (omega arith) more);
}

-- no axle behind fits beside the first one
pub can_be-shorter : (span : ℕ) (axles : List Axle) (first last : ℕ) → IsTrain axles → CanBeOnSpan span axles first last → first < last → (last + 1 < length axles → span < spread axles first (last + 1)) → CanBeOnSpan span axles (first + 1) last
can_be-shorter span axles first last train can longer full =
    let here : first + 1 - 1 ≡ first = omega arith in
    record {
      ordered = omega arith;
      within = can.within;
      fits = omega (arith, can.fits, place_ordered axles 0 first (first + 1) train.rising (omega arith) (omega (arith, can.within)));
      alone = λ some more. rw here (full more);
    }

-- an axle that is further from the one before it than the span
pub can_be-alone : (span : ℕ) (axles : List Axle) (i : ℕ) → IsTrain axles → i < length axles → span < spread axles (i - 1) i → CanBeOnSpan span axles i i
can_be-alone span axles i train within far = record {
  ordered = omega arith;
  within = within;
  fits = omega arith;
  alone = λ some more. omega (arith, far, place_ordered axles 0 i (i + 1) train.rising (omega arith) more);
}

-- where one axle is alone on the span and the next does not fit beside it, no run that can be on the span stands between them
pub none_between : (span : ℕ) (axles : List Axle) (i first last : ℕ) → IsTrain axles → span < spread axles i (i + 1) → CanBeOnSpan span axles first last → i + i + 1 ≤ first + last → i + 1 + (i + 1) ≤ first + last
none_between span axles i first last train far can later =
    elim (cases_lt (first + last) (i + i + 2)) [
      | inl less ↦
          let before : first ≤ i = omega (arith, can.ordered) in
          let after : i + 1 ≤ last = omega (arith, can.ordered) in
          absurd (omega (arith, far, can.fits, place_ordered axles 0 first i train.rising before (omega (arith, can.within)), place_ordered axles 0 (i + 1) last train.rising after can.within))
      | inr more ↦ omega arith
    ]

-- of two runs that can be on the span none lies inside the other with room on both sides
crossed : (span : ℕ) (axles : List Axle) (first last first' last' : ℕ) → IsTrain axles → CanBeOnSpan span axles first last → CanBeOnSpan span axles first' last' → first < first' → last' < last → ⊥
crossed span axles first last first' last' train a b less more =
    let apart = b.alone (omega arith) (omega (arith, a.within)) in
    omega (arith, apart, a.fits, place_ordered axles 0 first (first' - 1) train.rising (omega arith) (omega (arith, b.ordered, b.within)), place_ordered axles 0 (last' + 1) last train.rising (omega arith) a.within)

-- two runs that can be on the span are one where their first and last have one sum: of two of them the one that begins later ends no earlier
pub one_run : (span : ℕ) (axles : List Axle) (first last first' last' : ℕ) → IsTrain axles → CanBeOnSpan span axles first last → CanBeOnSpan span axles first' last' → first + last ≡ first' + last' → first ≡ first'
one_run span axles first last first' last' train a b same =
    elim (cases_lt first first') [
      | inl less ↦ absurd (crossed span axles first last first' last' train a b less (omega arith))
      | inr more ↦ elim (cases_lt first' first) [
        | inl greater ↦ absurd (crossed span axles first' last' first last train b a greater (omega arith))
        | inr equal ↦ omega arith
      ]
    ]
