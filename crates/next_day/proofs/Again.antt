-- A permit that can go on: an application for it once more can be asked on the next day, and finds its routes.
use Rattle.std.proofs.Common.{◌≡◌, ◌≤◌, ◌∷◌, [], ℕ, List, true, false, length, refl, ap, ◌∙◌, None, arith}
use Rattle.std.specs.Prelude.{All, nat_le}
use Rattle.std.specs.List.{concat}
use Rattle.std.proofs.lemmas.List.Elements.{All-weaker}
use Rattle.permit_days.specs.Days.{days_between, is_before, is_day_text}
use Rattle.restriction_log.specs.States.{AreOf, InForce, base_of}
use Rattle.route_search.specs.Walks.{IsWalk, every}
use Rattle.trip_routes.specs.Routes.{AreRoutes}
use Rattle.clearance_rules.specs.Loads.{is_legal}
use Rattle.clearance_rules.specs.Limits.{limit_of}
use Rattle.trip_analysis.specs.Applications.{Sound}
use Rattle.trip_analysis.specs.Bases.{BaseLists, truck_of}
use Rattle.trip_analysis.specs.Findings.{is_number_among}
use Rattle.trip_analysis.specs.Passing.{first_on, first_or, limit_for, needs_none}
use Rattle.trip_analysis.specs.declared.base.Truck.{Truck}
use Rattle.office_core.specs.Happened.{Day}
use Rattle.office_core.specs.Replies.{is_free, is_late}
use Rattle.day_writer.specs.Sheets.{base_in_force, roads_in_force}
use Rattle.next_day.specs.NextDay.{application_on, place_among}
use Rattle.next_day.specs.Standing.{Standing}
use Rattle.next_day.proofs.Days.{in_order, no_longer, not_late}
use Rattle.next_day.proofs.InForce.{base_is, same_limit, same_walk}
use Rattle.next_day.proofs.Trucks.{place_within, same_truck}

-- What a permit needs to go on: its application was sound, its routes are one to eight walks of it, with two or more the days
-- are within a year, its truck is not legal, its last day is not before the day, and none of its segments fails the truck.
pub record CanGoOn (base : BaseLists) (state : InForce) (today : Day) (p : Standing) : Type 0 where
  pub sound : Sound base p.trip
  pub few : AreRoutes p.routes
  pub walks : All (IsWalk base.roads.segments every p.trip.from p.trip.to) p.routes
  pub year : nat_le 2 (length p.routes) ≡ true → days_between p.trip.first p.trip.last ≤ 365
  pub needed : needs_none base p.trip.truck ≡ false
  pub not_expired : is_before p.trip.last today ≡ false
  pub meets : first_on base state p.trip.truck (concat p.routes) ≡ None

-- the truck of the permit goes on, and its first day is a day
pub record IsCarried (kept : List ℕ) (p : Standing) : Type 0 where
  pub truck : is_number_among p.trip.truck kept ≡ true
  pub first : is_day_text p.trip.first ≡ true

module _ (base : BaseLists) (state : InForce) (kept : List ℕ) (today : Day) (p : Standing) (on : is_number_among p.trip.truck kept ≡ true) where
  -- the truck is the same
  pub truck_again : truck_of (base_in_force base state kept) (place_among kept p.trip.truck) ≡ truck_of base p.trip.truck
  truck_again = same_truck kept p.trip.truck on base

  pub not_free : CanGoOn base state today p → is_free (base_in_force base state kept) (application_on kept today p) ≡ false
  not_free h = ap (λ (t : Truck). is_legal t.load) truck_again ∙ h.needed

  pub on_time : is_late today (application_on kept today p) ≡ false
  on_time = not_late today p.trip.first

  pub sound_again : CanGoOn base state today p → is_day_text today ≡ true → is_day_text p.trip.first ≡ true → Sound (base_in_force base state kept) (application_on kept today p)
  sound_again h today_is first_is = record {
    truck = place_within kept p.trip.truck on base;
    from = h.sound.from;
    to = h.sound.to;
    apart = h.sound.apart;
    routes = h.few;
    asked = All-weaker (IsWalk base.roads.segments every p.trip.from p.trip.to) (IsWalk (roads_in_force base.roads state).segments every p.trip.from p.trip.to)
        (λ path walk. same_walk base.roads state p.trip.from p.trip.to path walk) p.routes h.walks;
    days = in_order today p.trip.first p.trip.last h.sound.days h.not_expired;
    year = λ annual. omega (arith, no_longer today p.trip.first p.trip.last today_is first_is, h.year annual);
  }

  module _ (of_roads : AreOf base.roads state) where
    same_first : (segments : List ℕ)
        → first_on (base_in_force base state kept) (base_of (roads_in_force base.roads state)) (place_among kept p.trip.truck) segments ≡ first_on base state p.trip.truck segments
    same_first [] = refl
    same_first (s ∷ segments) =
        let next = base_in_force base state kept in
        let here : limit_for next (base_of next.roads) (place_among kept p.trip.truck) s ≡ limit_for base state p.trip.truck s =
        (λ i. limit_of next.roads (base_is base.roads state of_roads i) (truck_again i).load s) ∙ same_limit base.roads state (truck_of base p.trip.truck).load s in
        let rest = same_first segments in
        λ i. first_or (here i) s (rest i)

    -- none of its segments fails the truck on the next day
    pub meets_again : CanGoOn base state today p
        → first_on (base_in_force base state kept) (base_of (roads_in_force base.roads state)) (place_among kept p.trip.truck) (concat p.routes) ≡ None
    meets_again h = same_first (concat p.routes) ∙ h.meets
