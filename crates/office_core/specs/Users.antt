-- Which permits use a segment, and the index of them.
use Rattle.std.specs.Prelude.{◌≡◌, ◌<◌, List, ℕ, Bool, true, ◌&&◌, length, filter, map, All}
use Rattle.std.specs.List.{concat}
use Rattle.permit_book.specs.declared.permit.Permit.{Permit}
use Rattle.permit_book.specs.Permits.{is_issued, is_live, permit_of}
use Rattle.recall_index.specs.Uses.{Lists, using_in}
use Rattle.trip_analysis.specs.Findings.{is_number_among}

-- whether a permit uses a segment: it is live, and one of its routes holds the segment
abbrev pub uses : ℕ → Permit → Bool
uses segment p = is_live p.mark && is_number_among segment (concat p.trip.routes)

-- the numbers of the permits that use a segment
abbrev pub users_of : ℕ → List Permit → List ℕ
users_of segment permits = map (λ p. p.number) (filter (uses segment) permits)

-- a permit of this number was issued, and it uses the segment
pub record IsUser (permits : List Permit) (segment n : ℕ) : Type 0 where
  pub issued : is_issued permits n ≡ true
  pub uses : uses segment (permit_of permits n) ≡ true

-- each segment of the permit's routes is one of so many
abbrev pub IsOnRoads : ℕ → Permit → Type 0
IsOnRoads segments p = All (λ s. s < segments) (concat p.trip.routes)

-- the index has at each segment the permits that use it
pub record IsIndexed (segments : ℕ) (permits : List Permit) (index : Lists) : Type 0 where
  pub many : length index ≡ segments
  pub users : (s : ℕ) → s < segments → using_in index s ≡ users_of s permits
  pub within : All (IsOnRoads segments) permits
