use Rattle.std.proofs.Common.{sym, subst, arith}
use Rattle.std.specs.Int.{IsGcd, trailing_zeros, w64}
use Rattle.influence_line.proofs.Binary.{apart, itself, odd_least, twos}
use Rattle.influence_line.proofs.divisor.gcd_of_odd.Goals as goal

pub loop-x-preserved : goal.loop-x-preserved
loop-x-preserved c =
    let invariant = c.loop-x.invariant in
    let least = odd_least c.loop-x.x c.loop-x.y c.min-y.result invariant.odd invariant.other_odd c.min-y.ensures in
    let part = c.odd_part-apart.ensures in
    record {
      odd = part.odd;
      other_odd = least;
      same = λ g h.
          let far = subst (λ n. IsGcd n c.min-y.result g) (sym part.halved) (twos (trailing_zeros w64 c.abs_diff.result) c.odd_part-apart.result c.min-y.result g least h) in
          invariant.same g (apart c.loop-x.x c.loop-x.y c.abs_diff.result c.min-y.result g c.abs_diff.ensures c.min-y.ensures far);
    }

pub returns : goal.returns
returns c = c.loop-x.invariant.same c.loop-x.x (itself c.loop-x.x c.loop-x.y (omega (arith, c.loop-x-test.false)))
