use Rattle.std.proofs.Common.{List, ℕ, Vec, ap, sym, subst}
use Rattle.std.specs.Global.{Global}
use Rattle.std.specs.String.{string_bytes}
use Rattle.report_text.specs.Checks.{IsReport}
use Rattle.permit_program.specs.Reports.{check}
use Rattle.permit_program.specs.Command.{Makes}
use Rattle.permit_program.proofs.Only.{report_made}
use Rattle.permit_program.proofs.reports.make_report.Goals as goal

pub returns-clause-made : goal.returns-clause-made
returns-clause-made c =
    subst (λ (t : List ℕ). Makes check c.args.bytes.now t) (sym (ap (λ (v : Vec ℕ Global). v.items) c.into_bytes.ensures.value))
    (report_made IsReport c.args.bytes.now (string_bytes c.in_ok-text.text) c.in_ok-file.file c.in_ok-file.ensures.read c.in_ok-text.ensures.report c.in_ok-text.ensures.only)
