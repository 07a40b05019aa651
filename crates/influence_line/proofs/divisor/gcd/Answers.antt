use Rattle.std.proofs.Common.{◌%◌, arith}
use Rattle.std.proofs.lemmas.Nat.Gcd.{IsGcd-from_mod, IsGcd-from_zero, IsGcd-swap}
use Rattle.influence_line.proofs.divisor.gcd.Goals as goal

pub loop-y-preserved : goal.loop-y-preserved
loop-y-preserved c = λ g h. c.loop-y.invariant g (IsGcd-from_mod c.loop-y.x c.loop-y.y g h)

pub returns-then-y-eq0 : goal.returns-then-y-eq0
returns-then-y-eq0 c = c.loop-y.invariant c.loop-y.x (IsGcd-from_zero c.loop-y.x c.loop-y.y (omega (arith, c.if-y-eq0.true)))

pub returns : goal.returns
returns c =
    let x = c.loop-y.x in
    let y = c.loop-y.y in
    let divisor = c.gcd_of_words.result in
    rw c.from-2.ensures (c.loop-y.invariant divisor (IsGcd-from_mod x y divisor (IsGcd-swap (x % y) y divisor c.gcd_of_words.ensures)))
