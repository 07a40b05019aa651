-- What became of permits, in words of the entries.
use Rattle.std.specs.Prelude.{◌≡◌, ℕ, true, false, Some}
use Rattle.permit_days.specs.Days.{is_before}
use Rattle.permit_book.specs.declared.permit.Status.{Status}
use Rattle.permit_book.specs.declared.permit.Status.TheVariants as status
use Rattle.trip_analysis.specs.declared.application.Application.{Application}
use Rattle.trip_analysis.specs.Findings.{is_number_among}
use Rattle.office_words.specs.declared.entry.Call.{Call}
use Rattle.office_words.specs.declared.entry.Call.TheVariants as call
use Rattle.office_words.specs.declared.entry.Reply.TheVariants as reply
use Rattle.office_core.specs.Offices.{entry}
use Rattle.office_core.specs.Happened.{Day, History, Numbers, Routes, Stands, application_in, day_after}

-- the entry behind these issues the permit of this number
abbrev pub IssuesAt : History → ℕ → History → Type 0
IssuesAt es n at =
    (by : ℕ) × (c : Call) × (v : ℕ) × (routes : Routes) × Stands es at (entry by c (reply.Issued n v routes))

-- the permit of this number was issued to this caller
abbrev pub WasIssuedTo : History → ℕ → ℕ → Type 0
WasIssuedTo es n by = (at : History) × (c : Call) × (v : ℕ) × (routes : Routes)
    × Stands es at (entry by c (reply.Issued n v routes))

-- the permit of this number was issued for this trip and these routes
abbrev pub WasIssuedFor : History → ℕ → Application → Routes → Type 0
WasIssuedFor es n trip routes = (at : History) × (by : ℕ) × (c : Call) × (v : ℕ)
    × (application_in c ≡ Some trip) × Stands es at (entry by c (reply.Issued n v routes))

-- the entry behind these is the posting of this version, and it recalls the permit
abbrev pub RecallsAs : History → ℕ → History → ℕ → Type 0
RecallsAs es n at v = (by : ℕ) × (c : Call) × (ns : Numbers) × (is_number_among n ns ≡ true)
    × Stands es at (entry by c (reply.Posted v ns))

-- the entry behind these is a posting that recalls it
abbrev pub RecallsAt : History → ℕ → History → Type 0
RecallsAt es n at = (v : ℕ) × RecallsAs es n at v

-- by the entry behind these it is given back
abbrev pub SurrendersAt : History → ℕ → History → Type 0
SurrendersAt es n at = (by : ℕ) × Stands es at (entry by (call.Surrender n) reply.Surrendered)

-- no entry recalls it, and by none it is given back
pub record IsNotEnded (es : History) (n : ℕ) : Type 0 where
  pub not_recalled : (at : History) → RecallsAt es n at → ⊥
  pub not_surrendered : (at : History) → SurrendersAt es n at → ⊥

-- a permit is in force: it was issued, it was neither recalled nor given back, and its last day is not before
-- the day
pub record IsInForce (day : Day) (es : History) (n : ℕ) : Type 0 where
  pub trip : Application
  pub routes : Routes
  pub issued : WasIssuedFor es n trip routes
  pub stands : IsNotEnded es n
  pub not_expired : is_before trip.last (day_after day es) ≡ false

-- the status of a permit for this trip, behind these entries, on this day: it is in force, or expired where its last day is
-- before the day, as long as no entry ended it; or the posting of a version recalled it, or it was given back
abbrev pub IsStatusOf : Day → History → ℕ → Application → Status → Type 0
IsStatusOf today es n trip status.InForce = IsNotEnded es n × (is_before trip.last today ≡ false)
IsStatusOf today es n trip status.Expired = IsNotEnded es n × (is_before trip.last today ≡ true)
IsStatusOf today es n trip (status.Recalled v) = (at : History) × RecallsAs es n at v
IsStatusOf today es n trip status.Surrendered = (at : History) × SurrendersAt es n at
