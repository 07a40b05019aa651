-- What the next day of an office is.
use Rattle.std.specs.Prelude.{◌≡◌, ◌↔◌, ℕ, Bool, List, Contains, length, map}
use Rattle.road_graph.specs.Roads.{IsRoads}
use Rattle.restriction_log.specs.States.{base_of}
use Rattle.trip_analysis.specs.Bases.{AreTrains}
use Rattle.trip_analysis.specs.Findings.{AreRising}
use Rattle.office_core.specs.Became.{IsInForce}
use Rattle.office_core.specs.Happened.{Day, History, day_after, state_left_by}
use Rattle.office_core.specs.Machine.{IsLegal, machine_of}
use Rattle.day_text.specs.Days.{DayParts}
use Rattle.day_trial.specs.Serial.{IsSerial}
use Rattle.journal_whole.specs.Wholes.{IsWhole}
use Rattle.day_writer.specs.Writable.{IsWritable}
use Rattle.next_day.specs.Beginning.{beginning}
use Rattle.next_day.specs.NextDay.{next_day, trucks_kept}
use Rattle.next_day.specs.Standing.{standing_in}
use Rattle.next_day.specs.declared.standing.Standing.{Standing}

-- the permits that stand behind a history of a day file
abbrev pub standing_behind : DayParts → History → List Standing
standing_behind file es = standing_in (machine_of file.base file.day es) es

-- their numbers
abbrev pub numbers_standing : DayParts → History → List ℕ
numbers_standing file es = map (λ p. p.number) (standing_behind file es)

-- The permits that stand are just those in force, in words of the entries, by rising number.
pub record AreThoseInForce (day : Day) (es : History) (numbers : List ℕ) : Type 0 where
  pub rising : AreRising numbers
  pub exact : (n : ℕ) → Contains numbers n ↔ IsInForce day es n

-- so they are behind every legal history
abbrev pub StandingAreInForce : Type 0
StandingAreInForce = (file : DayParts) (es : History) → IsRoads file.base.roads → AreTrains file.base
    → IsLegal file.base file.day es → AreThoseInForce file.day es (numbers_standing file es)

-- The next day behind a legal history of all commands of a day file can be written, so it is a day file; it begins on the day that the history
-- left, and its roads are as they were in force.
pub record IsNextDay (only : Bool) (file : DayParts) (es : History) : Type 0 where
  pub writable : IsWritable (next_day only file es)
  pub today : (next_day only file es).day ≡ day_after file.day es
  pub roads : base_of (next_day only file es).base.roads ≡ state_left_by file.base es

abbrev pub NextDaysAreDays : Type 0
NextDaysAreDays = (only : Bool) (file : DayParts) (es : History) → IsWritable file → IsLegal file.base file.day es
    → IsWhole (length file.actors) file.commands es → IsNextDay only file es

-- the history with which the next day begins: the permits that stood are issued anew
abbrev pub beginning_behind : Bool → DayParts → History → History
beginning_behind only file es =
    let standing = standing_behind file es in
    beginning (trucks_kept only (length file.base.fleet) standing) (machine_of file.base file.day es).day standing

-- The next day begins with the permits that stood: in the one history in which its commands are carried out one after another, each
-- of them is issued anew.
pub record BeginsWithWhatStood (only : Bool) (file : DayParts) (es : History) : Type 0 where
  pub begins : IsSerial (next_day only file es) (beginning_behind only file es)
  pub alone : (other : History) → IsSerial (next_day only file es) other → other ≡ beginning_behind only file es

abbrev pub NextDaysBegin : Type 0
NextDaysBegin = (only : Bool) (file : DayParts) (es : History) → IsWritable file → IsLegal file.base file.day es
    → IsWhole (length file.actors) file.commands es → BeginsWithWhatStood only file es
