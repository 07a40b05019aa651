use Rattle.std.proofs.Common.{◌<◌, arith, refl}
use Rattle.moment_peak.specs.declared.pair.Pair.{Pair}
use Rattle.moment_peak.proofs.Order.{run_next}
use Rattle.moment_peak.proofs.Pointer.{shorter_on, shorter_pair, shorter_fresh, fresh_pair}
use Rattle.moment_peak.proofs.RunSums.{front_part, sums_none, sums_without}
use Rattle.moment_peak.proofs.pair.Pair.without_first.Goals as goal

pub returns-then-self : goal.returns-then-self
returns-then-self c =
    let self = c.args.self in
    let axles = c.args.train.now in
    let train = c.len-len.ensures.bounds in
    let run = c.without_first-run.ensures in
    let next : Pair = record { run = c.without_first-run.result; axle = c.without_first-run.result.first; before = c.none.result } in
    let on = shorter_on c.args.span axles self.run c.without_first-run.result train c.requires.pair.on c.requires.full c.requires.longer run.summed run.first run.last in
    let none = sums_none axles c.without_first-run.result.first c.none.result train c.none.ensures.weight c.none.ensures.moment in
    let pair = fresh_pair c.args.span axles next train on refl none c.none.ensures.weight in
    run_next c.args.span axles self next train c.requires.pair c.requires.last pair (omega (arith, c.if-self.true, run.first)) (omega (arith, run.first, run.last))
    (λ first last can later. omega (arith, later, run.first, run.last))
    (λ k t. t.is_run.from)

pub without-requires : goal.without-requires
without-requires c =
    let p = c.requires.pair in
    rw c.axle.ensures.value (front_part c.args.train.now c.args.self.run.first c.args.self.axle c.args.self.before (omega (arith, p.from, c.if-self.false)) (omega (arith, p.to, p.on.can_be.within)) p.before)

pub returns : goal.returns
returns c =
    let self = c.args.self in
    let axles = c.args.train.now in
    let train = c.len-len.ensures.bounds in
    let p = c.requires.pair in
    let run = c.without_first-run.ensures in
    let behind : self.run.first < self.axle = omega (arith, p.from, c.if-self.false) in
    let front = rw c.axle.ensures.value at c.without.ensures in
    let before = sums_without axles self.run.first self.axle self.before c.without.result train behind (omega (arith, p.to, p.on.can_be.within)) p.before front in
    let next : Pair = record { run = c.without_first-run.result; axle = self.axle; before = c.without.result } in
    let pair = shorter_pair c.args.span axles self next train p behind c.requires.full run.summed run.first run.last refl before front run.less in
    run_next c.args.span axles self next train p c.requires.last pair.1 (omega arith) (omega (arith, run.first, run.last))
    (λ first last can later. omega (arith, later, run.first, run.last))
    (shorter_fresh c.args.span axles self next pair.1 run.first pair.0)
