-- Permits in a list, where each has its place plus one as its number: what became of them, and which are in force.
use Rattle.std.specs.Prelude.{◌≡◌, ◌+◌, ◌-◌, ◌∷◌, [], List, ℕ, Bool, true, false, get_or, set, length, Option, Some, None, if◌then◌else◌, nat_le, ◌&&◌}
use Rattle.permit_days.specs.Days.{is_before}
use Rattle.permit_book.specs.declared.permit.Permit.{Permit}
use Rattle.permit_book.specs.declared.trip.Trip.{Trip}
use Rattle.permit_book.specs.declared.permit.Mark.{Mark}
use Rattle.permit_book.specs.declared.permit.Mark.TheVariants as mark
use Rattle.permit_book.specs.declared.permit.Status.{Status}
use Rattle.permit_book.specs.declared.permit.Status.TheVariants as status

-- the trip of a caller's truck along any of some routes, each a list of segments, from a first day to a last one
abbrev pub trip_of : ℕ → ℕ → List (List ℕ) → List ℕ → List ℕ → Trip
trip_of caller truck routes first last = record { caller = caller; truck = truck; routes = routes; first = first; last = last }

-- what stands where no permit does
abbrev pub no_permit : Permit
no_permit = record { number = 0; trip = trip_of 0 0 [] [] []; version = 0; seen = 0; mark = mark.Surrendered }

-- a permit as it is issued: live
abbrev pub new_permit : ℕ → Trip → ℕ → ℕ → Permit
new_permit number trip version seen = record {
  number = number;
  trip = trip;
  version = version;
  seen = seen;
  mark = mark.Live;
}

-- the next one after these permits
abbrev pub next_permit : List Permit → Trip → ℕ → ℕ → Permit
next_permit permits trip version seen = new_permit (length permits + 1) trip version seen

-- the permit of a number, counted from 1
abbrev pub permit_of : List Permit → ℕ → Permit
permit_of permits number = get_or permits (number - 1) no_permit

-- whether a permit has that number
abbrev pub is_issued : List Permit → ℕ → Bool
is_issued permits number = nat_le 1 number && nat_le number (length permits)

-- the permit of a number has another mark, and all else stays
abbrev pub marked : List Permit → ℕ → Mark → List Permit
marked permits number m = set permits (number - 1) (record (permit_of permits number) { mark = m })

-- whether nothing became of a permit but that it was issued
abbrev pub is_live : Mark → Bool
is_live mark.Live = true
is_live (mark.Recalled version) = false
is_live mark.Surrendered = false

-- what a permit with that mark and last day is on a day: a live one is expired where its last day is before that day
abbrev pub status_by : Mark → List ℕ → List ℕ → Status
status_by mark.Live last day = if is_before last day then status.Expired else status.InForce
status_by (mark.Recalled version) last day = status.Recalled version
status_by mark.Surrendered last day = status.Surrendered

-- what a permit is on a day
abbrev pub status_of : Permit → List ℕ → Status
status_of p day = status_by p.mark p.trip.last day

-- what the permit of a number is on a day, if there is one
abbrev pub status_in : List Permit → ℕ → List ℕ → Option Status
status_in permits number day = if is_issued permits number then Some (status_of (permit_of permits number) day) else None

-- whether a status is that of a permit in force
abbrev pub is_in_force : Status → Bool
is_in_force status.InForce = true
is_in_force (status.Recalled version) = false
is_in_force status.Surrendered = false
is_in_force status.Expired = false

-- whether a permit is in force on a day: it is live, and its last day is not before that day
abbrev pub in_force : List ℕ → Permit → Bool
in_force day p = is_in_force (status_of p day)

-- the number of each permit is its place, counted from `n`, plus one
abbrev pub AreNumbered : ℕ → List Permit → Type 0
AreNumbered n [] = Unit {0}
AreNumbered n (p ∷ ps) = (p.number ≡ n + 1) × AreNumbered (n + 1) ps
