use Rattle.std.proofs.Common.{◌≡◌, Bool, true, IfOk, sym, subst}
use Rattle.std.specs.Prelude.{◌↔◌}
use Rattle.office_words.specs.declared.entry.Call.{Call}
use Rattle.journal_audit.specs.Auditors.{MayBeAsked}
use Rattle.journal_audit.proofs.auditor.Auditor.may_be_asked.Goals as goal

pub returns-in-Submit-clause-asked : goal.returns-in-Submit-clause-asked
returns-in-Submit-clause-asked g c =
    subst (λ (k : Call). IfOk c.is_found.result (λ (may : Bool). (may ≡ true) ↔ MayBeAsked c.args.self.now k)) (sym c.in-Submit.is) c.is_found.ensures.found
