use Rattle.clerk_program.specs.WholeJournals.{HasSizes}
use Rattle.clerk_program.proofs.Unfit.{unfit_day, unfit_history, whole_day}
use Rattle.clerk_program.proofs.whole_day.read_whole.Goals as goal

pub returns-in-Err-read_day-clause-unfit : goal.returns-in-Err-read_day-clause-unfit
returns-in-Err-read_day-clause-unfit c =
    let cut = c.cut_behind_end-cut.result in
    let sizes : HasSizes cut.front.now cut.rest.now = c.are_sized.ensures.0 c.if-not-are_sized.false in
    unfit_day c.args.bytes.now cut.front.now cut.rest.now c.cut_behind_end-cut.ensures sizes c.in-Ok.history.items c.in-Ok.ensures.journal c.in-Err-read_day.refused c.of_file.result
    c.in-Err-read_day.ensures.refused c.of_file.ensures

pub returns-in-Ok-judge_history-clause-whole : goal.returns-in-Ok-judge_history-clause-whole
returns-in-Ok-judge_history-clause-whole c =
    let cut = c.cut_behind_end-cut.result in
    let sizes : HasSizes cut.front.now cut.rest.now = c.are_sized.ensures.0 c.if-not-are_sized.false in
    whole_day c.args.bytes.now cut.front.now cut.rest.now c.cut_behind_end-cut.ensures sizes c.in-Ok.history.items c.in-Ok.ensures.journal c.in-Ok-read_day.file c.in-Ok-read_day.ensures.ok
    c.in-Ok-judge_history.day c.in-Ok-judge_history.ensures.whole

pub returns-in-Err-judge_history-clause-unfit : goal.returns-in-Err-judge_history-clause-unfit
returns-in-Err-judge_history-clause-unfit c =
    let cut = c.cut_behind_end-cut.result in
    let sizes : HasSizes cut.front.now cut.rest.now = c.are_sized.ensures.0 c.if-not-are_sized.false in
    unfit_history c.args.bytes.now cut.front.now cut.rest.now c.cut_behind_end-cut.ensures sizes c.in-Ok.history.items c.in-Ok.ensures.journal c.in-Ok-read_day.file c.in-Ok-read_day.ensures.ok
    c.in-Err-judge_history.refusal c.in-Err-judge_history.ensures.refused
