use Rattle.clerk_program.proofs.Certificates.{taken_where_promised}
use Rattle.clerk_program.proofs.laws.certificates_are_what_is_taken.Goals as goal

pub returns : goal.returns
returns c = taken_where_promised
