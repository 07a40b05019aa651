-- The leads of one scale have every lead at which a train can have an axle on the span.
use Rattle.std.proofs.Common.{◌≡◌, ℕ, ◌+◌, ◌-◌, ◌*◌, ◌≤◌, arith, subst, ℤ, pos, negsuc, neg_ℤ, ◌-ℤ◌, ◌≤ℤ◌}
use Rattle.std.specs.List.{Contains, range_with_len}
use Rattle.std.proofs.lemmas.Int.{ints}
use Rattle.influence_line.specs.Places.{leads}
use Rattle.influence_line.proofs.Members.{Contains-range, Contains-map}

among_from : (span q j : ℕ) (lead : ℤ) → j ≤ (3000 + span) * q → pos j -ℤ pos (3000 * q) ≡ lead → Contains (leads span q) lead
among_from span q j lead most e =
    let n = (3000 + span) * q + 1 in
    let there = Contains-map (λ (i : ℕ). pos i -ℤ pos (3000 * q)) (range_with_len 0 n) j (Contains-range 0 n j (omega arith) (omega arith)) in
    subst (Contains (leads span q)) e there

pub among_leads : (span q : ℕ) (lead : ℤ) → neg_ℤ (pos (3000 * q)) ≤ℤ lead → lead ≤ℤ pos (q * span) → Contains (leads span q) lead
among_leads span q (pos x) from to = among_from span q (x + 3000 * q) (pos x) (omega (arith, ints, to)) (omega (arith, ints))
among_leads span q (negsuc x) from to = among_from span q (3000 * q - (x + 1)) (negsuc x) (omega (arith, ints, from)) (omega (arith, ints, from))
