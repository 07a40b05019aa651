use Rattle.std.proofs.Common.{◌+◌, ◌*◌, ◌<◌, ◌≤◌, arith, rules}
use Rattle.moment_peak.proofs.Pointer.{last_of_run, raised_pair}
use Rattle.moment_peak.proofs.RunSums.{sums_with}
use Rattle.moment_peak.proofs.pair.Pair.raised.Goals as goal

pub returns-then-lost-self-clause-next : goal.returns-then-lost-self-clause-next
returns-then-lost-self-clause-next c =
    let self = c.args.self in
    let axles = c.args.train.now in
    let p = c.requires.pair in
    let before = sums_with axles self.run.first self.axle self.before c.with-before.result c.len-len.ensures.bounds p.from (omega (arith, p.to, p.on.can_be.within)) p.before (rw c.axle.ensures.value at c.with-before.ensures) in
    let lost : c.args.span * c.with-before.result.weight + self.run.sums.moment ≤ self.run.sums.weight * c.args.place = rw (c.from.ensures, c.from-2.ensures) at c.if-lost-self.true in
    record {
      is_pair = raised_pair c.args.span axles self _ c.args.place p c.requires.end before (omega (arith, c.if-self.false, p.to)) lost;
      axle = omega arith;
      later = omega arith;
      none_between = search rules;
    }

pub returns-clause-last : goal.returns-clause-last
returns-clause-last c =
    let self = c.args.self in
    let axles = c.args.train.now in
    let p = c.requires.pair in
    let before = sums_with axles self.run.first self.axle self.before c.with-before.result c.len-len.ensures.bounds p.from (omega (arith, p.to, p.on.can_be.within)) p.before (rw c.axle.ensures.value at c.with-before.ensures) in
    let gained : self.run.sums.weight * c.args.place < c.args.span * c.with-before.result.weight + self.run.sums.moment = rw (c.from.ensures, c.from-2.ensures) at c.if-lost-self.false in
    last_of_run c.args.span axles self c.args.place c.with-before.result p c.requires.end before gained
