use Rattle.std.proofs.Common.{[], refl, arith}
use Rattle.std.proofs.lemmas.List.{ext_get_or}
use Rattle.journal_audit.proofs.sameness.are_same_routes.Goals as goal

pub returns : goal.returns
returns c = (λ _. ext_get_or [] c.args.one.now c.args.other.now (omega (arith, c.if-len.false, c.len.ensures, c.len-2.ensures)) (λ k within. c.routes.invariant k (omega (arith, within, c.routes-test.false, c.len-i-end.ensures))), λ _. refl)
