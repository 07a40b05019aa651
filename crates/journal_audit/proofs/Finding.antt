-- What is found again for a proposal.
use Rattle.std.proofs.Common.{◌≡◌, ◌≤◌, ℕ, ap₂, subst}
use Rattle.restriction_log.specs.States.{InForce, state_of}
use Rattle.snapshot_store.specs.Stores.{Stored, state_now}
use Rattle.trip_analysis.specs.declared.application.Application.{Application}
use Rattle.trip_analysis.specs.declared.finding.Proposal.{Proposal}
use Rattle.trip_analysis.specs.declared.finding.What.{What}
use Rattle.trip_analysis.specs.Applications.{Sound}
use Rattle.trip_analysis.specs.Bases.{BaseLists}
use Rattle.trip_analysis.specs.Findings.{IsFinding}
use Rattle.trip_analysis.proofs.OneFinding.{one_finding}
use Rattle.office_core.specs.Machine.{IsFound, Machine, state_at, stored_of, version_of}
use Rattle.journal_audit.specs.Versions.{IsVersion}

-- a proposal is right exactly where it is what is found again
pub found_again : (base : BaseLists) (m : Machine) (a : Application) (p : Proposal) (w : What) → Sound base a → p.seen ≤ version_of m → IsFinding base (state_at base m p.seen) a w → w ≡ p.what → IsFound base m a p
found_again base m a p w sound seen found same = record {
  sound = sound;
  seen = seen;
  found = subst (IsFinding base (state_at base m p.seen) a) same found;
}

pub found_same : (base : BaseLists) (m : Machine) (a : Application) (p : Proposal) (w : What) → IsFinding base (state_at base m p.seen) a w → IsFound base m a p → w ≡ p.what
found_same base m a p w found proposed = one_finding base (state_at base m p.seen) a w p.what found proposed.found

-- what is found with the snapshot of a version is what is found in what was in force at it
pub found_at : (about base : BaseLists) (m : Machine) (s : Stored) (n : ℕ) (a : Application) (w : What) → about ≡ base → IsVersion (stored_of base m) n s → IsFinding about (state_now s) a w → IsFinding base (state_at base m n) a w
found_at about base m s n a w is version found =
    subst (λ (b : BaseLists). IsFinding b (state_at base m n) a w) is (subst (λ (x : InForce). IsFinding about x a w) (ap₂ state_of version.roads version.postings) found)
