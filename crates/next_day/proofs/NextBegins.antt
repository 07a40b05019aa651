-- The next day behind a whole history of a day file begins with the permits that stood.
use Rattle.std.proofs.Common.{◌≡◌, true, length}
use Rattle.std.specs.Prelude.{All}
use Rattle.std.proofs.lemmas.List.Elements.{All-weaker}
use Rattle.permit_days.specs.Days.{is_day_text}
use Rattle.office_core.specs.Happened.{History}
use Rattle.office_core.specs.Machine.{IsLegal, machine_of}
use Rattle.day_text.specs.Days.{DayParts}
use Rattle.day_trial.specs.Serial.{SerialHistoriesAreOne}
use Rattle.journal_whole.specs.Asking.{WholeHistoriesAskWhatWasOrdered}
use Rattle.journal_whole.specs.Wholes.{IsWhole}
use Rattle.day_writer.specs.Writable.{IsWritable}
use Rattle.next_day.specs.Laws.{NextDaysAreDays, NextDaysBegin, standing_behind}
use Rattle.next_day.specs.Standing.{Standing}
use Rattle.next_day.proofs.Begins.{begins}
use Rattle.next_day.proofs.Facts.{IsSoundStanding, each_sound}
use Rattle.next_day.proofs.Ordered.{IsOfDays, all_of_days, standing_days, today_is_day}

module _ (ordered : WholeHistoriesAskWhatWasOrdered) (file : DayParts) (es : History)
    (writable : IsWritable file) (legal : IsLegal file.base file.day es) (whole : IsWhole (length file.actors) file.commands es)
  where
    -- the calls of the history speak of days
    of_days : All (λ e. IsOfDays e.call) es
    of_days = all_of_days file es writable.bounds (ordered (length file.actors) file.commands es whole)

    -- today is a day
    pub today_is : is_day_text (machine_of file.base file.day es).day ≡ true
    today_is = today_is_day file.base file.day es legal of_days writable.bounds.day

    -- and the days of each permit that stands are
    pub days_are : All (λ p. (is_day_text p.trip.first ≡ true) × (is_day_text p.trip.last ≡ true)) (standing_behind file es)
    days_are = All-weaker (IsSoundStanding file.base file.day es) (λ (p : Standing). (is_day_text p.trip.first ≡ true) × (is_day_text p.trip.last ≡ true))
        (λ p h. standing_days file.base file.day es p of_days h) (standing_behind file es)
        (each_sound file.base file.day es writable.bounds.roads writable.bounds.base.trains legal)

    pub firsts_are : All (λ p. is_day_text p.trip.first ≡ true) (standing_behind file es)
    firsts_are = All-weaker (λ (p : Standing). (is_day_text p.trip.first ≡ true) × (is_day_text p.trip.last ≡ true)) (λ (p : Standing). is_day_text p.trip.first ≡ true)
        (λ p h. h.0) (standing_behind file es) days_are

pub next_begins : SerialHistoriesAreOne → WholeHistoriesAskWhatWasOrdered → NextDaysAreDays → NextDaysBegin
next_begins one ordered days only file es writable legal whole =
    let next = (days only file es writable legal whole).writable.bounds in
    begins only file es writable.bounds.roads writable.bounds.base.trains legal (today_is ordered file es writable legal whole)
    (firsts_are ordered file es writable legal whole) one next.roads next.base.trains
