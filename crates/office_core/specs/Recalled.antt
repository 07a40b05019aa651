-- Which entries issued the permits that postings recall.
use Rattle.std.specs.Prelude.{◌≡◌, ℕ, ◌<◌, length, Some}
use Rattle.trip_analysis.specs.declared.application.Application.{Application}
use Rattle.trip_analysis.specs.Bases.{BaseLists}
use Rattle.office_words.specs.declared.entry.Call.{Call}
use Rattle.office_words.specs.declared.entry.Reply.TheVariants as reply
use Rattle.office_core.specs.Offices.{entry}
use Rattle.office_core.specs.Happened.{History, Routes, Stands, application_in}
use Rattle.office_core.specs.Became.{IssuesAt, RecallsAt}

-- just one entry issued the permit, before the posting, and it did so for a truck that is there
pub record WasIssuedOnce (base : BaseLists) (es front : History) (n : ℕ) : Type 0 where
  pub at : History
  pub by : ℕ
  pub c : Call
  pub v : ℕ
  pub routes : Routes
  pub trip : Application
  pub stands : Stands front at (entry by c (reply.Issued n v routes))
  pub asked : application_in c ≡ Some trip
  pub there : trip.truck < length base.fleet
  pub once : (other : History) → IssuesAt es n other → other ≡ at

-- so it is of each number that a posting recalls
abbrev pub RecalledWereIssued : BaseLists → History → Type 0
RecalledWereIssued base es = (front : History) (n : ℕ) → RecallsAt es n front → WasIssuedOnce base es front n
