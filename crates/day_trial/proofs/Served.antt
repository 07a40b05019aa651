-- A day file that was served, or was refused for its length.
use Rattle.std.proofs.Common.{◌≡◌, ◌∙◌, ◌<◌, ◌≤◌, ap, sym, refl, subst, ℕ, List, length, Result, Ok, Err, IfErr, arith}
use Rattle.std.specs.List.{All}
use Rattle.std.specs.Result.{IsErrAnd}
use Rattle.road_graph.specs.Roads.{IsRoads}
use Rattle.day_text.specs.declared.orders.Order.{Order}
use Rattle.day_text.specs.Days.{DayParts}
use Rattle.office_core.specs.Machine.{IsLegal}
use Rattle.office_core.specs.Offices.{Opened, newly_opened}
use Rattle.office_core.specs.Promises.{KeepsPromises}
use Rattle.day_trial.specs.declared.refusal.ServingRefusal.{ServingRefusal}
use Rattle.day_trial.specs.declared.refusal.ServingRefusal.TheVariants.{NoMemory, TooMany}
use Rattle.analyst_pool.specs.Laws.{FirstAttemptsDecide}
use Rattle.day_trial.specs.Rerouted.{IsRerouted, IsStoppedFull, IsTooLong, StopsWithin, most_made}
use Rattle.day_trial.specs.Rerouting.{AreLong, HasRerouted, HasStopped, IsServingCause, room_for}
use Rattle.day_trial.proofs.RerouteFew.{stopped_short}
use Rattle.day_trial.proofs.RerouteLengths.{whole_room}

-- each command of a file comes from one of its actors
pub callers_below : (orders told : List Order) (n caller : ℕ) → orders ≡ told → caller ≡ n → All (λ o. o.actor < n) told → All (λ o. o.actor < caller) orders
callers_below orders told n caller are is h =
    subst (λ (k : ℕ). All (λ o. o.actor < k) orders) (sym is) (subst (λ (l : List Order). All (λ o. o.actor < n) l) (sym are) h)

-- the cause of a refusal
pub where_refused : {A B : Type 0} (file : DayParts) (q : ServingRefusal) → (A → B → IsTooLong file) → (q ≡ TooMany → A) → (q ≡ TooMany → B) → IsServingCause file q
where_refused file TooMany on h k = on (h refl) (k refl)
where_refused file NoMemory on h k = tt

module _ (file : DayParts) (most : ℕ) (o : Opened) (caller : ℕ) (orders : List Order) (is : o ≡ newly_opened file.base file.day most) (actors : caller ≡ length file.actors) (are : orders ≡ file.commands) where
  -- an office of the file that was asked all its commands has served it
  pub served : (now : Opened) → HasRerouted o now caller orders → IsLegal now.base now.opening now.history → KeepsPromises now.base now.opening now.history → IsRerouted file now.history
  served now has legal promises =
      let h : HasRerouted (newly_opened file.base file.day most) now (length file.actors) file.commands =
      subst (λ (l : List Order). HasRerouted (newly_opened file.base file.day most) now (length file.actors) l) are
      (subst (λ (k : ℕ). HasRerouted (newly_opened file.base file.day most) now k orders) actors
      (subst (λ (x : Opened). HasRerouted x now caller orders) is has)) in
      record {
        legal = subst (λ (x : Opened). IsLegal x.base x.opening now.history) h.same legal;
        promises = subst (λ (x : Opened). KeepsPromises x.base x.opening now.history) h.same promises;
        commands = h.commands;
        memory = h.memory;
      }

  module _ (first : FirstAttemptsDecide) (roads : IsRoads file.base.roads) (room : most ≡ room_for (length file.commands)) (now : Opened) (legal : IsLegal now.base now.opening now.history) (promises : KeepsPromises now.base now.opening now.history) (few : length now.history ≤ 1000000) (has : HasStopped o now caller orders) where
    stops : HasStopped (newly_opened file.base file.day most) now (length file.actors) file.commands
    stops =
        subst (λ (l : List Order). HasStopped (newly_opened file.base file.day most) now (length file.actors) l) are
        (subst (λ (k : ℕ). HasStopped (newly_opened file.base file.day most) now k orders) actors
        (subst (λ (x : Opened). HasStopped x now caller orders) is has))

    legal_here : IsLegal file.base file.day now.history
    legal_here = subst (λ (x : Opened). IsLegal x.base x.opening now.history) stops.same legal

    promises_here : KeepsPromises file.base file.day now.history
    promises_here = subst (λ (x : Opened). KeepsPromises x.base x.opening now.history) stops.same promises

    -- it had the room that an office has at most, since it could not fill a smaller one
    room_is : most ≡ 1000000
    room_is =
        let short = stopped_short first file.base file.day (length file.actors) roads now.history legal_here promises_here most file.commands stops.commands in
        whole_room most (length now.history) (most_made (length file.commands)) now.most room (ap (λ (x : Opened). x.most) stops.same) stops.full short few

    stopped_full : IsStoppedFull file now.history
    stopped_full = record {
      legal = legal_here;
      promises = promises_here;
      commands = subst (λ (k : ℕ). StopsWithin file.day (length file.actors) k file.commands now.history) room_is stops.commands;
      memory = stops.memory;
      full = omega (arith, few, stops.full, ap (λ (x : Opened). x.most) stops.same, room_is);
    }

    -- a file whose commands make the history too long is too long
    pub too_long : AreLong o.base o.opening o.most caller orders → IsTooLong file
    too_long long =
        let all : AreLong file.base file.day most (length file.actors) file.commands =
        subst (λ (l : List Order). AreLong file.base file.day most (length file.actors) l) are
        (subst (λ (k : ℕ). AreLong file.base file.day most k orders) actors
        (subst (λ (x : Opened). AreLong x.base x.opening x.most caller orders) is long)) in
        record {
          history = now.history;
          stopped = stopped_full;
          each = λ whole h. subst (λ (k : ℕ). k < length whole) room_is (all whole h.legal h.commands h.memory);
        }

-- an office keeps the room with which it opened
pub keeps_room : (file : DayParts) (most : ℕ) (o : Opened) (caller : ℕ) (orders : List Order) → o ≡ newly_opened file.base file.day most → (now : Opened) → HasRerouted o now caller orders → (n : ℕ) → most ≡ room_for n → now.most ≡ room_for n
keeps_room file most o caller orders is now has n room = ap (λ (x : Opened). x.most) has.same ∙ (ap (λ (x : Opened). x.most) is ∙ room)

-- the roads that an office opened on
pub roads_of : (file : DayParts) (most : ℕ) (o : Opened) → o ≡ newly_opened file.base file.day most → IsRoads file.base.roads → IsRoads o.base.roads
roads_of file most o is roads = subst (λ (n : Opened). IsRoads n.base.roads) (sym is) roads

-- what is so is so where a file is too long
pub always : {T A : Type 0} (r : Result T ServingRefusal) → A → IfErr r (λ q. q ≡ TooMany → A)
always (Ok value) h = tt
always (Err q) h = λ _. h

-- what is so of a refusal is so of an answer that passes it on
pub passed_on : {T : Type 0} (P : ServingRefusal → Type 0) (r : Result T ServingRefusal) (q : ServingRefusal) → IsErrAnd r (λ x. x ≡ q) → P q → IfErr r P
passed_on P (Ok value) q given h = tt
passed_on P (Err x) q given h = subst P (sym given) h
