-- What is known of findings, from below.
use Rattle.std.proofs.Common.{◌≡◌, ℕ, List, true, length, take, ap, sym, subst, ◌∙◌, arith}
use Rattle.std.proofs.lemmas.List.{take_all}
use Rattle.road_graph.specs.Roads.{Roads, IsRoads}
use Rattle.restriction_log.specs.declared.change.Change.{Change}
use Rattle.restriction_log.specs.States.{InForce, state_of, is_named, AreOf}
use Rattle.restriction_log.specs.Changes.{takes, AreTaken}
use Rattle.snapshot_store.specs.Stores.{Stored, state_now}
use Rattle.trip_analysis.specs.declared.application.Application.{Application}
use Rattle.trip_analysis.specs.declared.finding.What.{What}
use Rattle.trip_analysis.specs.declared.finding.Proposal.{Proposal}
use Rattle.trip_analysis.specs.Bases.{BaseLists}
use Rattle.trip_analysis.specs.Applications.{Sound}
use Rattle.trip_analysis.specs.Findings.{IsFinding, IsFoundAt, HoldsIn}
use Rattle.office_core.specs.Machine.{Machine, version_of, state_at, state_in, stored_of, IsFound}
use Rattle.restriction_log.proofs.Standing.{named_by_count, state_is_of}
use Rattle.trip_analysis.proofs.Found as found
pub use Rattle.trip_analysis.proofs.Found.{found_in_range, found_holds}

-- what is found now was found at the current version
pub holds_now : (base : BaseLists) (postings : List Change) (n : ℕ) (state : InForce) (a : Application) (w : What) → IsRoads base.roads → state ≡ state_of base.roads postings → n ≡ length postings → Sound base a → IsFinding base state a w → HoldsIn base (state_of base.roads (take n postings)) a.truck w
holds_now base postings n state a w roads same now sound is = subst (λ (s : InForce). HoldsIn base s a.truck w)
    (same ∙ ap (state_of base.roads) (sym (take_all n postings (omega (arith, now))))) (found.found_holds base state a w roads sound is)

-- the state has what the network takes
pub named_of : (roads : Roads) (state : InForce) (change : Change) → AreOf roads state → takes roads change ≡ true → is_named state change ≡ true
named_of roads state change is taken = named_by_count roads state change is.values is.ratings taken

-- the state of postings that the network takes is of the network
pub of_base : (roads : Roads) (postings : List Change) → IsRoads roads → AreTaken roads postings → AreOf roads (state_of roads postings)
of_base roads postings is taken = state_is_of roads postings is taken

-- what is found for what is posted may be asked as a proposal of its version
pub found_for : (base : BaseLists) (m : Machine) (s : Stored) (a : Application) (p : Proposal) → s ≡ stored_of base m → Sound base a → p.seen ≡ length s.postings → IsFoundAt base s a p.what → IsFound base m a p
found_for base m s a p is sound seen found = let now : p.seen ≡ version_of m = seen ∙ ap (λ (t : Stored). length t.postings) is in record {
  sound = sound;
  seen = omega (arith, now);
  found = subst (λ (t : InForce). IsFinding base t a p.what) (ap state_now is ∙ ap (state_of base.roads) (sym (take_all p.seen m.postings (omega (arith, now))))) found;
}

-- at the current version the state seen is the state
pub seen_now : (base : BaseLists) (m : Machine) (seen : ℕ) → seen ≡ version_of m → state_at base m seen ≡ state_in base m
seen_now base m seen now = ap (state_of base.roads) (take_all seen m.postings (omega (arith, now)))
