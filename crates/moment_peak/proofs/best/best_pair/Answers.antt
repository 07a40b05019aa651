use Rattle.std.proofs.Common.{◌<◌, arith, inl, inr}
use Rattle.moment_peak.proofs.BestSoFar.{attained_of, best_more, best_start, on_summed, start_some, value_summed}
use Rattle.moment_peak.proofs.OneCentre.{summed_loaded}
use Rattle.moment_peak.proofs.Ties.{still_some}
use Rattle.moment_peak.proofs.Tight.{best_at_peak}
use Rattle.moment_peak.proofs.best.best_pair.Goals as goal

pub returns-clause-first : goal.returns-clause-first
returns-clause-first c = λ k first last t. c.pairs.invariant.first k first last t (c.in_default.ensures.last k first last t)

pub returns-clause-peak : goal.returns-clause-peak
returns-clause-peak c =
    best_at_peak c.args.span c.args.train.now c.pairs.best c.requires c.start-pair.ensures.bounds c.pairs.invariant.attained (returns-clause-first c)

pub pairs-init : goal.pairs-init
pairs-init c =
    let axles = c.args.train.now in
    let pair = c.start-pair.result in
    let start = c.start-pair.ensures in
    let found = c.candidate-best.ensures in
    let some = start_some c.args.span axles pair c.candidate-best.result start.bounds start.pair found.value start.front.0 start.front.1 start.half in
    record {
      pair = start.pair;
      attained = attained_of c.args.span axles pair c.candidate-best.result start.bounds start.pair found.value found.small some;
      order = omega (arith, found.value.axle);
      first = best_start c.args.span axles pair c.candidate-best.result start.bounds start.pair found.value start.first;
    }

pub pairs-preserved : goal.pairs-preserved
pairs-preserved c =
    let axles = c.args.train.now in
    let span = c.args.span in
    let best = c.pairs.best in
    let found = c.candidate.result in
    let result = c.better-best.result in
    let train = c.start-pair.ensures.bounds in
    let next = c.in-Some.ensures.next in
    let p = next.is_pair in
    let v = c.candidate.ensures.value in
    let old = c.pairs.invariant in
    record {
      pair = p;
      attained = elim c.better-best.ensures.either [
        | inl same ↦ rw same old.attained
        | inr taken ↦
            let loaded : 0 < result.run.sums.weight = rw taken (summed_loaded axles found.run train (value_summed span axles c.in-Some.next found p v)) in
            let some : 0 < result.value = still_some axles best result train (on_summed span axles best old.attained.on) old.attained.some loaded c.better-best.ensures.kept in
            rw taken (attained_of span axles c.in-Some.next found train p v c.candidate.ensures.small (rw taken at some))
      ];
      order = elim c.better-best.ensures.either [
        | inl same ↦ rw same (omega (arith, old.order, next.axle))
        | inr taken ↦ rw taken (omega (arith, v.axle))
      ];
      first = best_more span axles c.pairs.pair c.in-Some.next best found result train next old.first c.better-best.ensures.kept v c.better-best.ensures.met;
    }
