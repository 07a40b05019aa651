use Rattle.permit_program.proofs.Only.{summary_made}
use Rattle.permit_program.proofs.made.make_summary.Goals as goal

pub returns : goal.returns
returns c =
    summary_made c.serial_histories_are_one.ensures c.args.seed c.args.size c.in_ok-file.file c.in_ok-office.office.history c.history.result.now c.summary.result c.in_ok-file.ensures.read c.in_ok-office.ensures.roads c.in_ok-office.ensures.served
    c.history.ensures.entries c.summary.ensures
