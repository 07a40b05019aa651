use Rattle.std.proofs.Common.{refl}
use Rattle.clap.proofs.OnLiterals.{clap_on_literals}
use Rattle.command_line.specs.Clerk.{clerk_asked_of}
use Rattle.command_line.proofs.laws.clerk_words_ask.Goals as goal

pub returns : goal.returns
unfolding clap_on_literals clerk_asked_of
returns c = record { certify = refl; carry = refl; in_force = refl; none = refl; help = refl }
