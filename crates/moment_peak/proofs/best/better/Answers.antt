use Rattle.std.proofs.Common.{◌≡◌, ◌*◌, ◌<◌, refl}
use Rattle.moment_peak.proofs.OneCentre.{summed_loaded}
use Rattle.moment_peak.proofs.Ties.{kept_by_more, kept_by_earlier, met_by_itself, met_by_earlier}
use Rattle.moment_peak.proofs.best.better.Goals as goal

pub returns-then-left-right-clause-kept : goal.returns-then-left-right-clause-kept
returns-then-left-right-clause-kept c = λ v w k first last some n.
    let best = c.args.best in
    let next = c.args.next in
    let more : best.value * next.run.sums.weight < next.value * best.run.sums.weight = rw (c.from.ensures, c.from-2.ensures) at c.if-left-right.true in
    kept_by_more c.args.train.now best next v w k first last (summed_loaded c.args.train.now best.run c.len-len.ensures.bounds c.requires.runs.0) more some n

pub returns-then-left-right-clause-met : goal.returns-then-left-right-clause-met
returns-then-left-right-clause-met c = met_by_itself c.args.train.now c.args.next c.len-len.ensures.bounds c.requires.runs.1

pub returns-then-comes_first-clause-kept : goal.returns-then-comes_first-clause-kept
returns-then-comes_first-clause-kept c = λ v w k first last some n.
    let axles = c.args.train.now in
    let train = c.len-len.ensures.bounds in
    let best = c.args.best in
    let next = c.args.next in
    let same : next.value * best.run.sums.weight ≡ best.value * next.run.sums.weight = rw (c.from.ensures, c.from-2.ensures) at c.if-left-right-2.true in
    kept_by_earlier axles best next v w k first last (summed_loaded axles best.run train c.requires.runs.0) (summed_loaded axles next.run train c.requires.runs.1) c.if-best-next.true same (c.if-comes_first.ensures.before refl) n

pub returns-then-comes_first-clause-met : goal.returns-then-comes_first-clause-met
returns-then-comes_first-clause-met c = met_by_itself c.args.train.now c.args.next c.len-len.ensures.bounds c.requires.runs.1

pub returns-else-comes_first-clause-met : goal.returns-else-comes_first-clause-met
returns-else-comes_first-clause-met c =
    let best = c.args.best in
    let next = c.args.next in
    let same : next.value * best.run.sums.weight ≡ best.value * next.run.sums.weight = rw (c.from.ensures, c.from-2.ensures) at c.if-left-right-2.true in
    met_by_earlier c.args.train.now best next c.len-len.ensures.bounds c.requires.runs.1 c.if-best-next.true same (c.if-comes_first.ensures.behind refl)
