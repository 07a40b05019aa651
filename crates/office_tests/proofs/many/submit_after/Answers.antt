use Rattle.office_tests.proofs.many.submit_after.Goals as goal

-- what was found may still be submitted after the posting
pub answer-reply-requires-clause-asked : goal.answer-reply-requires-clause-asked
answer-reply-requires-clause-asked g c = c.answer.ensures _ c.found_now-call.ensures
