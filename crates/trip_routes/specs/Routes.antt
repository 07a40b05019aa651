-- Routes as a list of lists of segments: how many there may be, and how they are cut from one list.
use Prim.Native.Nat.{suc, zero}
use Rattle.std.specs.Prelude.{◌≡◌, ◌≤◌, nat_le, ℕ, List, [], ◌∷◌, length, slice_range, get_or, Option, Some, None, if◌then◌else◌}
use Rattle.trip_routes.specs.declared.refusal.RoutesRefusal.{RoutesRefusal}
use Rattle.trip_routes.specs.declared.refusal.RoutesRefusal.TheVariants.{Full, NoMemory}

-- there are one to eight routes
pub record AreRoutes (routes : List (List ℕ)) : Type 0 where
  pub some : 1 ≤ length routes
  pub few : length routes ≤ 8

-- why a route is not added to these: there are eight
abbrev pub push_refusal : List (List ℕ) → Option RoutesRefusal
push_refusal routes = if nat_le 8 (length routes) then Some Full else None

-- the refusal is the cause that applies; that no memory was left comes only where none applies
abbrev pub IsPushCause : Option RoutesRefusal → RoutesRefusal → Type 0
IsPushCause cause NoMemory = cause ≡ None
IsPushCause cause refusal = cause ≡ Some refusal

-- the segments from place `start` on, cut behind each of these places
abbrev pub parted : ℕ → List ℕ → List ℕ → List (List ℕ)
parted start [] segments = []
parted start (end ∷ ends) segments = slice_range segments start end ∷ parted end ends segments

-- behind how many segments the part at a place begins
abbrev pub begin_of : ℕ → List ℕ → ℕ → ℕ
begin_of start ends zero = start
begin_of start ends (suc i) = get_or ends i 0

-- each place is not before the one in front of it, and the last is `last`
abbrev pub Rise : ℕ → List ℕ → ℕ → Type 0
Rise start [] last = start ≡ last
Rise start (end ∷ ends) last = (start ≤ end) × Rise end ends last

-- one to eight places, rising, of which the last is behind the last segment
pub record AreRouteEnds (ends segments : List ℕ) : Type 0 where
  pub some : 1 ≤ length ends
  pub few : length ends ≤ 8
  pub rise : Rise 0 ends (length segments)
