use Rattle.std.proofs.Common.{Option, sym, subst}
use Rattle.command_line.specs.declared.asked.Asked.{Asked}
use Rattle.permit_program.specs.Runs.{IsAlone, outside_of}
use Rattle.permit_program.specs.declared.runs.Alone.TheVariants as alone
use Rattle.permit_program.proofs.runs.run_alone.Goals as goal

pub returns-in_default : goal.returns-in_default
returns-in_default g c = λ desk.
    let outside = outside_of g.S.Source g.K.Sink in
    subst (λ (a : Option Asked). IsAlone a (outside c.args.source.now c.args.sink.now desk) (outside c.perform.new.source c.perform.new.sink desk) (alone.Status c.perform.result)) (sym c.in-Ok.ensures.asked)
    (λ is. absurd (c.in_default.not-Day is), c.perform.ensures desk)
