use Rattle.std.proofs.Common.{List, ℕ, Vec, ap, sym, subst}
use Rattle.std.specs.Global.{Global}
use Rattle.std.specs.String.{string_bytes}
use Rattle.report_text.specs.Designs.{IsDesignReport}
use Rattle.permit_program.specs.Reports.{design}
use Rattle.permit_program.specs.Command.{Makes}
use Rattle.permit_program.proofs.Only.{report_made}
use Rattle.permit_program.proofs.reports.make_design_report.Goals as goal

pub returns-clause-made : goal.returns-clause-made
returns-clause-made c =
    subst (λ (t : List ℕ). Makes design c.args.bytes.now t) (sym (ap (λ (v : Vec ℕ Global). v.items) c.into_bytes.ensures.value))
    (report_made IsDesignReport c.args.bytes.now (string_bytes c.in_ok-text.text) c.in_ok-file.file c.in_ok-file.ensures.read c.in_ok-text.ensures.report c.in_ok-text.ensures.only)
