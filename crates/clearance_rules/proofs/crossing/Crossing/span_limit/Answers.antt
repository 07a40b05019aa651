-- The study's effects are those of the train and of the design truck, and the judgement is that of these.
use Rattle.std.proofs.Common.{sym, ◌∙◌}
use Rattle.clearance_rules.proofs.Meeting.{span_none}
use Rattle.clearance_rules.proofs.Naming.{judged}
use Rattle.clearance_rules.proofs.crossing.Crossing.span_limit.Goals as goal

pub returns-then-carries : goal.returns-then-carries
returns-then-carries g c =
    let self = c.args.self.now in
    let span = c.span-inches.ensures.fits in
    rw (← c.span-inches.ensures.at, ← c.rating-rating.ensures, ← self.study_is_of)
    (sym (span_none (g.E.SpanStudy.axles self.study.now) c.span-inches.result.inches c.rating-rating.result self.segment c.args.span
    (rw self.study_is_of c.requires.train) span.some span.long (c.carries.ensures.0 c.if-carries.true)))

pub returns : goal.returns
returns g c =
    let self = c.args.self.now in
    let span = c.span-inches.ensures.fits in
    rw (← c.span-inches.ensures.at, ← c.rating-rating.ensures, ← self.study_is_of)
    (c.limit_by.ensures ∙ judged (g.E.SpanStudy.axles self.study.now) c.span-inches.result.inches c.rating-rating.result self.segment c.args.span
    c.of.result.truck c.of.result.design (rw self.study_is_of c.requires.train) span.some span.long c.of.ensures.truck c.of.ensures.design)
