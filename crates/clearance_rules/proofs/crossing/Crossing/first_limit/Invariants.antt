use Rattle.std.proofs.Common.{◌≡◌, drop}
use Rattle.clearance_rules.specs.Limits.{first_of_spans, spans_limit}
use Rattle.clearance_rules.proofs.crossing.Crossing.first_limit.Given as goal

abbrev pub invariant-loop-span : goal.invariant-loop-span
invariant-loop-span g l =
    spans_limit l.self.network.now l.self.state.now l.self.load.now.train l.self.segment
    ≡ first_of_spans l.self.network.now l.self.state.now l.self.load.now.train l.self.segment (drop l.span-index l.span-items)
