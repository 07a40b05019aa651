use Rattle.std.proofs.Common.{◌*◌, ◌<◌, arith}
use Rattle.moment_peak.proofs.OneCentre.{inside_without_first, inside_without_last, own_centre}
use Rattle.moment_peak.proofs.widest.narrower.Goals as goal

pub without_last-requires-clause-longer : goal.without_last-requires-clause-longer
without_last-requires-clause-longer c =
    let run = c.args.run in
    let own = own_centre c.args.train.now run c.requires.run in
    omega (arith, inside_without_last c.args.train.now run.sums c.args.wide c.len-len.ensures.bounds c.requires.wide c.requires.inside c.if-left-right-2.true run.first run.last c.requires.run.ordered c.requires.run.within own, c.requires.run.ordered)

pub returns-then-left-right-2-clause-inside : goal.returns-then-left-right-2-clause-inside
returns-then-left-right-2-clause-inside c = λ first last ordered within same.
    let inside = inside_without_last c.args.train.now c.args.run.sums c.args.wide c.len-len.ensures.bounds c.requires.wide c.requires.inside c.if-left-right-2.true first last ordered within same in
    (omega (arith, inside.0, c.without_last.ensures.first), omega (arith, inside.1, c.without_last.ensures.last))

pub without_first-requires-clause-longer : goal.without_first-requires-clause-longer
without_first-requires-clause-longer c =
    let run = c.args.run in
    let own = own_centre c.args.train.now run c.requires.run in
    let front : c.args.wide.sums.moment * run.sums.weight < run.sums.moment * c.args.wide.sums.weight = omega (arith, c.if-left-right.false, c.if-left-right-2.false) in
    omega (arith, inside_without_first c.args.train.now run.sums c.args.wide c.len-len.ensures.bounds c.requires.wide c.requires.inside front run.first run.last c.requires.run.ordered c.requires.run.within own, c.requires.run.ordered)

pub returns-clause-inside : goal.returns-clause-inside
returns-clause-inside c = λ first last ordered within same.
    let run = c.args.run in
    let front : c.args.wide.sums.moment * run.sums.weight < run.sums.moment * c.args.wide.sums.weight = omega (arith, c.if-left-right.false, c.if-left-right-2.false) in
    let inside = inside_without_first c.args.train.now run.sums c.args.wide c.len-len.ensures.bounds c.requires.wide c.requires.inside front first last ordered within same in
    (omega (arith, inside.0, c.without_first.ensures.first), omega (arith, inside.1, c.without_first.ensures.last))
