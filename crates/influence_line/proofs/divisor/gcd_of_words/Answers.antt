use Rattle.std.proofs.Common.{◌*◌, ◌<◌, ◌^◌, arith}
use Rattle.std.specs.Int.{trailing_zeros, w64}
use Rattle.std.proofs.Math.Nat.{mod-eq_of_lt}
use Rattle.std.proofs.lemmas.Nat.Gcd.{le_of_dvd}
use Rattle.influence_line.proofs.Binary.{common_of}
use Rattle.influence_line.proofs.divisor.gcd_of_words.Goals as goal

pub returns : goal.returns
returns c =
    let whole = common_of c.args.a c.args.b (trailing_zeros w64 c.args.a) (trailing_zeros w64 c.args.b) c.odd_part.result c.odd_part-2.result c.min-common.result c.gcd_of_odd.result
    c.odd_part.ensures.halved c.odd_part-2.ensures.halved c.odd_part.ensures.odd c.odd_part-2.ensures.odd c.min-common.ensures c.gcd_of_odd.ensures in
    let most = le_of_dvd c.requires.some whole.1 in
    let fits : c.gcd_of_odd.result * 2 ^ c.min-common.result < 18446744073709551616 = omega (arith, most, c.ranges.b.fits) in
    rw (mod-eq_of_lt fits) whole
