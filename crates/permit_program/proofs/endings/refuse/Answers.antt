use Rattle.permit_program.specs.Runs.{sink_at}
use Rattle.permit_program.proofs.Lines.{written_line}
use Rattle.permit_program.proofs.endings.refuse.Goals as goal

pub returns-clause-line : goal.returns-clause-line
returns-clause-line g c =
    let now = sink_at g.K.Sink in
    written_line c.args.line.now (now c.args.sink.now) (now c.write_all.new.sink) c.write_all.result c.write_all.ensures.all c.write_all.ensures.part c.write_all.ensures.fault
