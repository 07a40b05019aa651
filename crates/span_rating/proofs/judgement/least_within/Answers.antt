-- The quotient is at most 100,000, since that many thousandths are enough.
use Rattle.std.proofs.Common.{◌*◌, ◌≤◌, ◌<◌, arith, refl}
use Rattle.span_rating.proofs.Least.{quotient_is_least, quotient_within}
use Rattle.span_rating.proofs.judgement.least_within.Goals as goal

-- there is something to divide by, and the quotient
some_unit : (c : goal.After-div_ceil) → 0 < c.num-2.result * c.den-2.result
some_unit c = omega (arith, c.if-unit-eq0.false)

at_most : (c : goal.After-div_ceil) → c.div_ceil.result ≤ 100000
at_most c = (quotient_is_least (1000 * c.num.result * c.den.result) (c.num-2.result * c.den-2.result) c.div_ceil.result 100000 (some_unit c) c.div_ceil.ensures).0 c.if-unit-has.false

pub overflow_cast-result : goal.overflow_cast-result
overflow_cast-result c = omega (arith, at_most c)

pub returns-clause-bound : goal.returns-clause-bound
returns-clause-bound c = omega (arith, at_most c)

pub returns-clause-least : goal.returns-clause-least
returns-clause-least c =
    quotient_within c.args.effect.now c.args.design.now (1000 * c.num.result * c.den.result) (c.num-2.result * c.den-2.result) c.div_ceil.result
    (rw (c.num.ensures, c.den.ensures.value) refl) (rw (c.num-2.ensures, c.den-2.ensures.value) refl) (some_unit c) c.div_ceil.ensures
