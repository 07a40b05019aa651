use Rattle.office_desk.proofs.Looking.{told}
use Rattle.office_desk.proofs.shared_office.SharedOffice.look.Goals as goal

pub returns-in-Ok-clause-grown : goal.returns-in-Ok-clause-grown
returns-in-Ok-clause-grown g c = told _ _ _ _ c.step.ensures.grown c.step.ensures.legal

pub returns-in-Err-clause-grown : goal.returns-in-Err-clause-grown
returns-in-Err-clause-grown g c = told _ _ _ _ c.step.ensures.grown c.step.ensures.legal
