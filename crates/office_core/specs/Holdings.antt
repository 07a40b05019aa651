-- What an office holds behind a history, in words of its entries: the machine and the pages that speak of entries say the same.
use Rattle.std.specs.Prelude.{◌≡◌, ◌↔◌, ℕ, true, Some, length}
use Rattle.road_graph.specs.Roads.{IsRoads}
use Rattle.permit_book.specs.declared.permit.Mark.{Mark}
use Rattle.permit_book.specs.declared.permit.Mark.TheVariants as mark
use Rattle.permit_book.specs.declared.permit.Permit.{Permit}
use Rattle.permit_book.specs.Permits.{in_force, permit_of}
use Rattle.trip_analysis.specs.Bases.{AreTrains, BaseLists}
use Rattle.trip_analysis.specs.declared.application.Application.{Application}
use Rattle.office_words.specs.declared.entry.Call.{Call}
use Rattle.office_words.specs.declared.entry.Reply.TheVariants as reply
use Rattle.office_core.specs.Offices.{entry}
use Rattle.office_core.specs.Machine.{IsLegal, machine_of, state_in, trip_for, version_of}
use Rattle.office_core.specs.Happened.{Day, History, Routes, Stands, WasIssued, application_in, day_after, issued_in, seen_by, state_left_by, version_after}
use Rattle.office_core.specs.Became.{IsInForce, IsNotEnded, RecallsAs, SurrendersAt}

-- the mark of a permit says what became of it: nothing yet, or that the posting of a version recalled it, or
-- that it was given back
abbrev pub IsMarkOf : History → ℕ → Mark → Type 0
IsMarkOf es n mark.Live = IsNotEnded es n
IsMarkOf es n (mark.Recalled v) = (at : History) × RecallsAs es n at v
IsMarkOf es n mark.Surrendered = (at : History) × SurrendersAt es n at

-- the permit of a number as the office holds it behind these entries
abbrev pub permit_after : BaseLists → Day → History → ℕ → Permit
permit_after base day es n = permit_of (machine_of base day es).permits n

-- the permit is that of the entry that issued it, behind these, and its mark says what became of it
pub record IsAsIssued (at front : History) (by : ℕ) (c : Call) (n v : ℕ) (routes : Routes) (p : Permit) : Type 0
  where
    pub trip : Application
    pub asked : application_in c ≡ Some trip
    pub same : p ≡ record {
      number = n;
      trip = trip_for by trip routes;
      version = v;
      seen = seen_by at c;
      mark = p.mark;
    }
    pub mark : IsMarkOf front n p.mark

-- what the office holds behind a history is what its entries say
pub record HoldsWhatItSays (base : BaseLists) (day : Day) (es : History) : Type 0 where
  -- the version, what is posted on the roads, the day, and how many permits there are
  pub version : version_of (machine_of base day es) ≡ version_after es
  pub state : state_in base (machine_of base day es) ≡ state_left_by base es
  pub today : (machine_of base day es).day ≡ day_after day es
  pub many : length (machine_of base day es).permits ≡ issued_in es
  -- it holds each permit as its entry issued it, with a mark of what became of it
  pub held : (at : History) (by : ℕ) (c : Call) (n v : ℕ) (routes : Routes) → Stands es at (entry by c (reply.Issued n v routes))
      → IsAsIssued at es by c n v routes (permit_after base day es n)
  -- and a permit is in force as it is held exactly where it is in words of the entries
  pub in_force : (n : ℕ) → WasIssued es n
      → (in_force (machine_of base day es).day (permit_after base day es n) ≡ true) ↔ IsInForce day es n

-- so it is behind every legal history, over roads and trucks within their bounds
abbrev pub OfficesHoldWhatTheySay : Type 0
OfficesHoldWhatTheySay = (base : BaseLists) (day : Day) (es : History) → IsRoads base.roads → AreTrains base
    → IsLegal base day es → HoldsWhatItSays base day es
