use Rattle.restriction_log.proofs.Standing.{base_is_of, stays_of, state_is_of}
use Rattle.restriction_log.proofs.laws.states_are_of_their_network.Goals as goal

pub returns : goal.returns
returns c = record { base = base_is_of; change = stays_of; postings = state_is_of }
