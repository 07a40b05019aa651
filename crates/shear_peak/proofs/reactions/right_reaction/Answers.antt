use Rattle.std.proofs.Common.{arith}
use Rattle.shear_peak.proofs.Prefixes.{right_of_fronts}
use Rattle.shear_peak.proofs.reactions.right_reaction.Goals as goal

pub overflow_sub-result : goal.overflow_sub-result
overflow_sub-result c =
    rw (c.from-place.ensures, c.from-span.ensures, c.axle.ensures.value) (omega (arith, right_of_fronts c.args.span c.args.train.now c.args.k c.args.on c.requires.span.0 c.requires.train c.requires.on))

pub returns : goal.returns
returns c =
    rw (c.from-place.ensures, c.from-span.ensures, c.axle.ensures.value) (omega (arith, right_of_fronts c.args.span c.args.train.now c.args.k c.args.on c.requires.span.0 c.requires.train c.requires.on))
