use Rattle.std.proofs.Common.{◌∙◌, ℕ, map, subst, sym}
use Rattle.std.specs.String.{string_bytes}
use Rattle.command_line.specs.Asking.{asked_of}
use Rattle.permit_program.specs.Runs.{IsRun, desk_at, outside_of, permit_cli}
use Rattle.permit_program.proofs.Ends.{counts_day, none_counted, of_day}
use Rattle.permit_program.proofs.runs.run.Goals as goal

pub returns-in-Status-clause-run : goal.returns-in-Status-clause-run
returns-in-Status-clause-run g c =
    let desk_now = desk_at (λ v. (g.dyn-1.0.entry v).1) in
    let outside = outside_of g.S.Source g.K.Sink in
    let before = outside c.args.source.now c.args.sink.now (desk_now c.args.notices.now) in
    let after = outside c.run_alone.new.source c.run_alone.new.sink (desk_now c.args.notices.now) in
    subst (λ (n : ℕ). IsRun permit_cli (asked_of (map string_bytes c.args.words.now)) before after n) (sym c.uncounted.ensures.status)
    (c.in-Status.ensures (desk_now c.args.notices.now)).1

pub returns-in-Status-clause-counted : goal.returns-in-Status-clause-counted
returns-in-Status-clause-counted g c =
    let desk_now = desk_at (λ v. (g.dyn-1.0.entry v).1) in
    let outside = outside_of g.S.Source g.K.Sink in
    let before = outside c.args.source.now c.args.sink.now (desk_now c.args.notices.now) in
    let after = outside c.run_alone.new.source c.run_alone.new.sink (desk_now c.args.notices.now) in
    none_counted (asked_of (map string_bytes c.args.words.now)) before after c.uncounted.result.status c.uncounted.result.readings
    (λ is. c.uncounted.ensures.status ∙ (c.in-Status.ensures (desk_now c.args.notices.now)).0 is)

pub returns-in-Day-clause-run : goal.returns-in-Day-clause-run
returns-in-Day-clause-run g c =
    let desk_now = desk_at (λ v. (g.dyn-1.0.entry v).1) in
    let outside = outside_of g.S.Source g.K.Sink in
    let alone = c.in-Day.ensures (desk_now c.args.notices.now) in
    let before = outside c.args.source.now c.args.sink.now (desk_now c.args.notices.now) in
    let from = outside c.run_alone.new.source c.run_alone.new.sink (desk_now c.args.notices.now) in
    let after = outside c.perform_day.new.source c.perform_day.new.sink (desk_now c.perform_day.new.notices) in
    of_day (asked_of (map string_bytes c.args.words.now)) before from after c.perform_day.result.status alone.0 alone.1 c.perform_day.ensures.run

pub returns-in-Day-clause-counted : goal.returns-in-Day-clause-counted
returns-in-Day-clause-counted g c =
    let desk_now = desk_at (λ v. (g.dyn-1.0.entry v).1) in
    let outside = outside_of g.S.Source g.K.Sink in
    let alone = c.in-Day.ensures (desk_now c.args.notices.now) in
    let before = outside c.args.source.now c.args.sink.now (desk_now c.args.notices.now) in
    let from = outside c.run_alone.new.source c.run_alone.new.sink (desk_now c.args.notices.now) in
    let after = outside c.perform_day.new.source c.perform_day.new.sink (desk_now c.perform_day.new.notices) in
    counts_day (asked_of (map string_bytes c.args.words.now)) before from after c.perform_day.result.status c.perform_day.result.readings alone.1 c.perform_day.ensures.counted
