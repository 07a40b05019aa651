use Rattle.std.proofs.Common.{◌∙◌, ap}
use Rattle.day_text.specs.Days.{day_of}
use Rattle.permit_program.proofs.Only.{made_lacks}
use Rattle.permit_program.proofs.made.read_made_day.Goals as goal

pub unreachable-requires : goal.unreachable-requires
unreachable-requires c =
    let made = c.made_days_are_accepted.ensures c.args.seed c.args.size c.requires.size.0 c.requires.size.1 in
    let text = c.as_slice.ensures.value ∙ c.in_ok-text.ensures in
    let lacks = made_lacks c.as_slice.result.now made.0 c.in-Err-Refused.field-0 (ap day_of text ∙ made.1) c.in-Err-Refused.ensures.refused in
    cc (lacks, c.in-Err-Refused.field-0-is)
