use Rattle.day_writer.proofs.Writing.{goes_on}
use Rattle.day_writer.proofs.page.write_field.Goals as goal
use Rattle.day_writer.proofs.page.write_field.Goals.{in-Ok, in-Err}

pub returns : goal.returns
returns c = elim c.match-write_field.branch [
  | in-Ok w ↦ rw w.result-is (λ text fields few behind.
      let e = w.in-Ok.ensures in
      goes_on _ _ text _ fields few behind e.text e.same e.count e.wrote e.stays)
  | in-Err w ↦ rw w.result-is tt
]
