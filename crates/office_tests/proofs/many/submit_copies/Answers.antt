use Rattle.office_tests.proofs.many.submit_copies.Goals as goal

pub copies-preserved : goal.copies-preserved
copies-preserved g c = c.answer-reply.ensures c.args.call.now c.copies.invariant
