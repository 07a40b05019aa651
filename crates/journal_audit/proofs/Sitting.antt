-- What is known of the trucks where nothing was needed yet.
use Rattle.std.proofs.Common.{◌≡◌, ℕ, Option, Some, None}
use Rattle.restriction_log.specs.States.{InForce}
use Rattle.trip_analysis.specs.declared.analyst.Analyst.{Analyst}
use Rattle.trip_analysis.specs.Bases.{BaseLists}
use Rattle.trip_analysis.specs.Known.{AreKnown}
use Rattle.journal_audit.specs.declared.versions.Versions.{Versions}
use Rattle.journal_audit.specs.Seats.{AreKnownAtVersion}

-- where nothing was needed yet, the trucks are known in every state
pub known_anew : (base : BaseLists) (v : Versions) (at : Option ℕ) (analyst : Analyst) (state : InForce) → at ≡ None → AreKnownAtVersion base v at analyst → AreKnown base state analyst
known_anew base v None analyst state none known = known state
known_anew base v (Some n) analyst state none known = absurd (cc)
