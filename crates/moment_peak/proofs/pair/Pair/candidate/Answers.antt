use Rattle.std.proofs.Common.{◌≡◌, ℕ, ◌≤◌, ◌<◌, ◌*◌, ◌^◌, ◌∙◌, arith, ap, refl, rules}
use Rattle.std.proofs.Math.Nat.{mul-le-mul}
use Rattle.std.proofs.lemmas.Nat.{mul-lt}
use Rattle.axle_train.specs.declared.axle.Axle.{Axle}
use Rattle.moment_peak.specs.Candidates.{value_by_sums}
use Rattle.moment_peak.proofs.BySums.{by_pair}
use Rattle.moment_peak.proofs.pair.Pair.candidate.Goals as goal

pub overflow_sub-at : goal.overflow_sub-at
overflow_sub-at c =
    rw (c.from.ensures, c.axle-place.ensures.value) (by_pair c.args.span c.args.train.now c.args.self c.len-len.ensures.bounds c.requires.pair).left

pub overflow_sub-front : goal.overflow_sub-front
overflow_sub-front c =
    rw (c.from-2.ensures, c.axle-place.ensures.value) (by_pair c.args.span c.args.train.now c.args.self c.len-len.ensures.bounds c.requires.pair).front

pub overflow_mul-off : goal.overflow_mul-off
overflow_mul-off c =
    let span : c.from-5.result ≤ 6000 = omega (arith, c.requires.span.1) in
    let place : c.from-2.result ≤ 3000 = omega arith in
    let whole = mul-le-mul c.requires.pair.on.sums.light span in
    let before = mul-le-mul c.requires.pair.before.light place in
    let left : c.from-6.result ≤ 4 * (2000000 * 6000) = omega (arith, whole) in
    let right : c.from-7.result ≤ 2000000 * 3000 = omega (arith, before) in
    omega (arith, mul-le-mul left right)

pub returns-clause-value : goal.returns-clause-value
returns-clause-value c =
    let self = c.args.self in
    let value : Axle → ℕ = λ a. value_by_sums c.args.span self.run.sums self.before a.place in
    let sums : c.saturating_sub.result ≡ value c.axle-place.result = search rules in
    let s = by_pair c.args.span c.args.train.now self c.len-len.ensures.bounds c.requires.pair in
    record { axle = refl; run = refl; value = sums ∙ ap value c.axle-place.ensures.value ∙ s.value }

pub returns-clause-small : goal.returns-clause-small
returns-clause-small c =
    let far : c.from.result ≤ 9000 = omega (arith, c.requires.span.1) in
    let whole = mul-le-mul c.requires.pair.on.sums.light far in
    let at : c.from-3.result < 2 ^ 36 = grind (arith, whole) in
    let same : c.from-4.result < 2 ^ 36 = grind (arith, whole) in
    omega (arith, mul-lt c.from-3.result c.from-4.result (2 ^ 36) (2 ^ 36) at same)
