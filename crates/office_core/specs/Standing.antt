-- What is so of permits once they are issued: their recall, their return, their end, and what a look at them tells.
use Rattle.std.specs.Prelude.{◌≡◌, ◌↔◌, ℕ, ◌+◌, true, Some}
use Rattle.std.specs.List.{concat}
use Rattle.restriction_log.specs.States.{InForce}
use Rattle.permit_book.specs.declared.permit.Status.{Status}
use Rattle.trip_analysis.specs.Bases.{BaseLists}
use Rattle.trip_analysis.specs.declared.application.Application.{Application}
use Rattle.trip_analysis.specs.Findings.{AreRising, is_number_among}
use Rattle.office_words.specs.declared.entry.Call.{Call}
use Rattle.office_words.specs.declared.entry.Call.TheVariants as call
use Rattle.office_words.specs.declared.entry.Reply.TheVariants as reply
use Rattle.office_core.specs.Offices.{entry}
use Rattle.office_core.specs.Clearances.{MeetsTruck}
use Rattle.office_core.specs.Happened.{Day, History, Numbers, Routes, Stands, application_in, day_after, seen_by, state_left_by, version_after}
use Rattle.office_core.specs.Became.{IsInForce, IsStatusOf, IssuesAt, RecallsAt, WasIssuedFor, WasIssuedTo}

-- some segment of one of the routes fails the truck
abbrev pub FailsOn : BaseLists → InForce → ℕ → Routes → Type 0
FailsOn base state truck routes = (s : ℕ) × (is_number_among s (concat routes) ≡ true) × (MeetsTruck base state truck s → ⊥)

-- a posting names the next version and, rising, exactly the permits in force that fail in the state it makes
pub record TruePosting (base : BaseLists) (day : Day) (front now : History) (v : ℕ) (ns : Numbers) : Type 0
  where
    pub version : v ≡ version_after front + 1
    pub counted : v ≡ version_after now
    pub rising : AreRising ns
    pub exact : (n : ℕ) → (is_number_among n ns ≡ true)
        ↔ ((p : IsInForce day front n) × FailsOn base (state_left_by base now) p.trip.truck p.routes)

-- just one entry issues the permit, before it is recalled, and just one recalls it
pub record IsRecalledOnce (es front : History) (n : ℕ) : Type 0 where
  pub at : History
  pub issued : IssuesAt front n at
  pub issued_once : (other : History) → IssuesAt es n other → other ≡ at
  pub recalled_once : (other : History) → RecallsAt es n other → other ≡ front

-- a permit is given back by the one to whom it was issued, while it is in force
pub record TrueSurrender (day : Day) (front : History) (by : ℕ) (c : Call) : Type 0 where
  pub number : ℕ
  pub asked : c ≡ call.Surrender number
  pub own : WasIssuedTo front number by
  pub in_force : IsInForce day front number

-- a permit that ended is never in force again, and its status stays what it was
pub record HasEnded (day : Day) (front now : History) (n : ℕ) : Type 0 where
  pub never : IsInForce day now n → ⊥
  pub status : (trip : Application) (routes : Routes) (s : Status) → WasIssuedFor front n trip routes
      → IsStatusOf (day_after day front) front n trip s → IsStatusOf (day_after day now) now n trip s

-- what a look at a permit tells is so: to whom an earlier entry issued it, for which trip and at which version, for which
-- version it was found, and its status now
pub record TrueShown (day : Day) (front : History) (c : Call) (n by truck : ℕ) (first last : Day) (v seen : ℕ) (s : Status)
    : Type 0
  where
    pub asked : c ≡ call.Show n
    pub at : History
    pub issue : Call
    pub routes : Routes
    pub issued : Stands front at (entry by issue (reply.Issued n v routes))
    pub trip : Application
    pub of_trip : application_in issue ≡ Some trip
    pub same_truck : truck ≡ trip.truck
    pub same_first : first ≡ trip.first
    pub same_last : last ≡ trip.last
    pub found : seen ≡ seen_by at issue
    pub status : IsStatusOf (day_after day front) front n trip s
