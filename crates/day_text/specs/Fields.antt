-- The forms of the fields of a record.
use Rattle.std.specs.Prelude.{ℕ, codes, ◌&&◌, nat_le, ◌==◌, if◌then◌else◌, List, [], ◌∷◌, length, Option, Some, None, Result, Ok, Err, option_map, option_and_then, unwrap_or}
use Rattle.std.specs.List.{list_all, slice_split}
use Rattle.std.specs.Char.{is_ascii_digit}
use Rattle.std.specs.Str.{bytes_eq}
use Rattle.std.specs.Str.Parse.{digits_value}
use Rattle.csv.specs.Records.{field_at}
use Rattle.names.specs.Names.{is_name}
use Rattle.axle_train.specs.declared.axle.Axle.{Axle}
use Rattle.road_graph.specs.Words.{what_of}
use Rattle.permit_days.specs.Days.{reading_of}
use Rattle.permit_days.specs.declared.refusal.DayRefusal.{DayRefusal}
use Rattle.permit_days.specs.declared.refusal.DayRefusal.TheVariants.{NoSuchDay, Shape}
use Rattle.day_text.specs.declared.posted.Posted.{Posted}
use Rattle.day_text.specs.declared.posted.Posted.TheVariants as posted

-- the field at a place, counted from 0; empty where there is none
abbrev pub field_of : List (List ℕ) → ℕ → List ℕ
field_of fields i = unwrap_or (field_at fields i) []

-- a name: 1 to 16 letters, digits, dashes and underscores of ASCII
abbrev pub name_field : List ℕ → Option (List ℕ)
name_field text = if is_name text then Some text else None

-- a number: one to nine decimal digits of ASCII, read in base ten; zeros in front are accepted
unfoldable pub number_field : List ℕ → Option ℕ
number_field text = if nat_le 1 (length text) && nat_le (length text) 9 && list_all is_ascii_digit text then Some (digits_value 10 text) else None

-- an axle by the parts of its text around colons, which are two numbers
abbrev pub axle_of_parts : List (List ℕ) → Option Axle
axle_of_parts [] = None
axle_of_parts (place ∷ []) = None
axle_of_parts (place ∷ weight ∷ []) = option_and_then (λ p. option_map (λ w. record { place = p; weight = w }) (number_field weight)) (number_field place)
axle_of_parts (place ∷ weight ∷ more ∷ parts) = None

-- an axle: PLACE:WEIGHT, so two numbers around the one colon
abbrev pub axle_of : List ℕ → Option Axle
axle_of text = axle_of_parts (slice_split (λ b. b == 58) text)

-- what is given for each of some things, where something is given for all of them
abbrev pub of_each : {A B : Type 0} → (A → Option B) → List A → Option (List B)
of_each f [] = Some []
of_each f (x ∷ xs) = option_and_then (λ y. option_map (λ ys. y ∷ ys) (of_each f xs)) (f x)

-- an axle field: one axle and more, with one space between them
abbrev pub axles_of : List ℕ → Option (List Axle)
axles_of text = of_each axle_of (slice_split (λ b. b == 32) text)

-- what a posting replaces: a limit of a segment, or the rating of a span
abbrev pub posted_of : List ℕ → Option Posted
posted_of text = if bytes_eq text (codes "rating") then Some posted.Rating else option_map posted.Limit (what_of text)

-- the day that was read, or none where the calendar lacks it
abbrev pub day_or_none : Result (List ℕ) DayRefusal → Option (Option (List ℕ))
day_or_none (Ok day) = Some (Some day)
day_or_none (Err NoSuchDay) = Some None
day_or_none (Err Shape) = None

-- a text of the form of a day: the day, or none where the calendar lacks it
abbrev pub day_field : List ℕ → Option (Option (List ℕ))
day_field text = day_or_none (reading_of text)

-- a route: one name and more, with one space between them
abbrev pub route_of : List ℕ → Option (List (List ℕ))
route_of text = of_each name_field (slice_split (λ b. b == 32) text)

-- at most eight routes
abbrev pub few_routes : List (List ℕ) → Option (List (List (List ℕ)))
few_routes parts = if nat_le (length parts) 8 then of_each route_of parts else None

-- a route field: nothing, or one to eight routes with one bar between them
abbrev pub routes_field : List ℕ → Option (List (List (List ℕ)))
routes_field text = if length text == 0 then Some [] else few_routes (slice_split (λ b. b == 124) text)
