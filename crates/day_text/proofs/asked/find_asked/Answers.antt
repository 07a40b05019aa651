use Rattle.std.proofs.Common.{◌∙◌, None, Ok, Some, ap, sym}
use Rattle.road_graph.specs.Roads.{segment_names}
use Rattle.day_text.specs.Causes.{or_bad}
use Rattle.day_text.specs.declared.refusal.RecordCause.TheVariants as bad
use Rattle.day_text.proofs.Asking.{asked_found}
use Rattle.day_text.proofs.Commanded.{asked_there}
use Rattle.day_text.proofs.asked.find_asked.Goals as goal

pub returns-in_ok-of-in-Some-clause-asked : goal.returns-in_ok-of-in-Some-clause-asked
returns-in_ok-of-in-Some-clause-asked c =
    let known = segment_names c.args.network.now.segments in
    let full = sym c.is_empty.ensures ∙ c.if-is_empty.false in
    let asked = asked_found known c.as_str-text.result.now c.args.field.now (Some c.in-Some.routes) full c.as_str-text.ensures (sym c.in-Some.is ∙ c.in_ok-routes.ensures) in
    ap (or_bad (bad.Unknown 6)) asked ∙ ap (λ routes. Ok (Some routes)) (sym c.in_ok-of-in-Some.ensures)

pub returns-in_ok-of-in-Some-clause-there : goal.returns-in_ok-of-in-Some-clause-there
returns-in_ok-of-in-Some-clause-there c =
    let network = c.args.network.now in
    let full = sym c.is_empty.ensures ∙ c.if-is_empty.false in
    let asked = asked_found (segment_names network.segments) c.as_str-text.result.now c.args.field.now (Some c.in-Some.routes) full c.as_str-text.ensures (sym c.in-Some.is ∙ c.in_ok-routes.ensures) in
    asked_there network c.args.field.now (Some c.in_ok-of-in-Some.field-0) (asked ∙ ap (λ routes. Some (Some routes)) (sym c.in_ok-of-in-Some.ensures))

pub returns-in-None-clause-asked : goal.returns-in-None-clause-asked
returns-in-None-clause-asked c =
    let known = segment_names c.args.network.now.segments in
    let full = sym c.is_empty.ensures ∙ c.if-is_empty.false in
    let asked = asked_found known c.as_str-text.result.now c.args.field.now None full c.as_str-text.ensures (sym c.in-None.is ∙ c.in_ok-routes.ensures) in
    rw c.bad.ensures (ap (or_bad (bad.Unknown 6)) asked)
