use Rattle.std.proofs.Common.{arith}
use Rattle.shear_peak.proofs.Prefixes.{left_of_fronts}
use Rattle.shear_peak.proofs.reactions.left_reaction.Goals as goal

pub overflow_sub-result : goal.overflow_sub-result
overflow_sub-result c =
    rw (c.from-reach.ensures, c.axle.ensures.value) (omega (arith, left_of_fronts c.args.span c.args.train.now c.args.k c.args.on c.requires.span.0 c.requires.train c.requires.on))

pub returns : goal.returns
returns c =
    rw (c.from-reach.ensures, c.axle.ensures.value) (omega (arith, left_of_fronts c.args.span c.args.train.now c.args.k c.args.on c.requires.span.0 c.requires.train c.requires.on))
