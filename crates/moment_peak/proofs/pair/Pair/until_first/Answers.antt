use Rattle.std.proofs.Common.{arith}
use Rattle.moment_peak.proofs.Order.{end_last}
use Rattle.moment_peak.proofs.pair.Pair.until_first.Goals as goal

pub returns-then-spread-span-clause-last : goal.returns-then-spread-span-clause-last
returns-then-spread-span-clause-last c =
    let self = c.args.self in
    end_last c.args.span c.args.train.now self c.len-len.ensures.bounds c.requires.pair c.in_default.ensures.last (omega (arith, c.if-end-len.false, c.len-len.ensures.count)) (omega (arith, c.if-spread-span.true, c.spread.ensures.value))
