-- The permits that stand are those in force, by rising number.
use Rattle.std.proofs.Common.{◌≡◌, ◌<◌, ◌≤◌, ◌+◌, ◌∷◌, ◌++◌, [], ℕ, zero, suc, List, Option, Some, None, true, map, get_or, refl, ap, sym, subst, ◌∙◌, if◌then◌else◌, append_assoc, arith}
use Rattle.std.specs.Prelude.{All, Contains, slice_get}
use Rattle.std.specs.List.{cons_option}
use Rattle.std.proofs.lemmas.List.{map-append}
use Rattle.std.proofs.lemmas.List.Elements.{All-cons, All-contains, All-map, All-nil, All-weaker, Contains-append_right, filter_map-append}
use Rattle.std.proofs.lemmas.Option.{get_or_from_slice_get, same_Some, slice_get_within}
use Rattle.road_graph.specs.Roads.{IsRoads}
use Rattle.trip_analysis.specs.Bases.{AreTrains, BaseLists}
use Rattle.trip_analysis.specs.Findings.{AreRising}
use Rattle.trip_analysis.specs.declared.application.Application.{Application}
use Rattle.office_words.specs.declared.entry.Entry.{Entry}
use Rattle.office_words.specs.declared.entry.Reply.TheVariants as reply
use Rattle.office_core.specs.Became.{IsInForce}
use Rattle.office_core.specs.Happened.{Day, History, Stands, application_in, issued_in}
use Rattle.office_core.specs.Machine.{IsLegal, Machine, machine_of}
use Rattle.office_core.specs.Offices.{entry}
use Rattle.office_core.proofs.Counts.{issued-append, issued-cons}
use Rattle.office_core.proofs.Promises.{hold_what_they_say, keep_promises}
use Rattle.next_day.specs.Laws.{StandingAreInForce}
use Rattle.next_day.specs.Standing.{Standing, is_standing, standing_in, standing_of}
use Rattle.next_day.proofs.Facts.{IsSoundStanding, each_sound, issue_is, was_issued}

abbrev numbers_in : Machine → History → List ℕ
numbers_in m es = map (λ (p : Standing). p.number) (standing_in m es)

-- a number that is less than all behind it
rising_cons : (x : ℕ) (xs : List ℕ) → All (λ y. x < y) xs → AreRising xs → AreRising (x ∷ xs)
rising_cons x xs more rest = record { rising = by }
  where
    by : (j k a b : ℕ) → j < k → slice_get (x ∷ xs) j ≡ Some a → slice_get (x ∷ xs) k ≡ Some b → a < b
    by j zero a b less here there = absurd (omega (arith, less))
    by zero (suc k) a b less here there =
        let is : x ≡ a = same_Some x a here in
        let at : get_or xs k b ≡ b = get_or_from_slice_get xs k b b there in
        omega (arith, is, at, more k b (slice_get_within xs k b there))
    by (suc j) (suc k) a b less here there = rest.rising j k a b (omega (arith, less)) here there

none_rise : AreRising []
none_rise = record { rising = λ j k a b less here there. cc }

module _ (base : BaseLists) (day : Day) (es : History) (roads : IsRoads base.roads) (trains : AreTrains base) (legal : IsLegal base day es) where
  abbrev AreFrom : ℕ → List ℕ → Type 0
  AreFrom k numbers = AreRising numbers × All (λ n. k < n) numbers

  -- the numbers of the permits that later entries issued rise, and are more than how many were issued before
  rising_from : (m : Machine) (front rest : History) → es ≡ front ++ rest → AreFrom (issued_in front) (numbers_in m rest)
  rising_from m front [] is = (none_rise, All-nil (λ n. issued_in front < n))
  rising_from m front (e ∷ rest) is =
      by (standing_of m e.caller (application_in e.call) e.reply) refl (rising_from m (front ++ e ∷ []) rest (is ∙ sym (append_assoc front (e ∷ []) rest)))
    where
      longer : issued_in front ≤ issued_in (front ++ e ∷ [])
      longer = omega (arith, issued-append front (e ∷ []))

      by : (o : Option Standing) → standing_of m e.caller (application_in e.call) e.reply ≡ o → AreFrom (issued_in (front ++ e ∷ [])) (numbers_in m rest)
          → AreFrom (issued_in front) (map (λ (p : Standing). p.number) (cons_option o (standing_in m rest)))
      by None none (rise, above) = (rise, All-weaker (λ n. issued_in (front ++ e ∷ []) < n) (λ n. issued_in front < n) (λ n h. omega (arith, h, issued-append front (e ∷ []))) (numbers_in m rest) above)
      by (Some p) one (rise, above) =
          let h = issue_is m e.caller (application_in e.call) e.reply p one in
          let issue = entry p.holder e.call (reply.Issued p.number h.version p.routes) in
          let same : e ≡ issue = (λ i. entry (h.holder i) e.call (h.told i)) in
          let stands : Stands es front issue = subst (Stands es front) same (rest, is) in
          let number = ((keep_promises base day es roads trains legal).issued front p.holder e.call p.number h.version p.routes stands).number in
          let many : issued_in (front ++ e ∷ []) ≡ issued_in front + 1 = ap (λ (x : Entry). issued_in (front ++ x ∷ [])) same ∙ omega (arith, issued-append front (issue ∷ []), issued-cons issue []) in (
            rising_cons p.number (numbers_in m rest) (All-weaker (λ n. issued_in (front ++ e ∷ []) < n) (λ n. p.number < n) (λ n k. omega (arith, k, number, many)) (numbers_in m rest) above) rise,
            All-cons (λ n. issued_in front < n) p.number (numbers_in m rest) (omega (arith, number))
                (All-weaker (λ n. issued_in (front ++ e ∷ []) < n) (λ n. issued_in front < n) (λ n k. omega (arith, k, many)) (numbers_in m rest) above),
          )

  -- a permit in force stands
  stands_of : (n : ℕ) → IsInForce day es n → Contains (numbers_in (machine_of base day es) es) n
  stands_of n f =
      let m = machine_of base day es in
      let (place, by, c, v, of_trip, stands) = f.issued in
      let on : is_standing m n ≡ true = ((hold_what_they_say base day es roads trains legal).in_force n (was_issued base day es roads trains legal place by n v c f.routes stands)).1 f in
      let e = entry by c (reply.Issued n v f.routes) in
      let s : Standing = record { number = n; holder = by; trip = f.trip; routes = f.routes } in
      let one : standing_of m by (application_in c) (reply.Issued n v f.routes) ≡ Some s =
      ap (λ (o : Option Application). standing_of m by o (reply.Issued n v f.routes)) of_trip ∙ ap (λ b. if b then Some s else None) on in
      let parts : standing_in m es ≡ standing_in m place ++ s ∷ standing_in m stands.0 =
      ap (standing_in m) stands.1 ∙ (filter_map-append (λ (x : Entry). standing_of m x.caller (application_in x.call) x.reply) place (e ∷ stands.0)
      ∙ ap (λ o. standing_in m place ++ cons_option o (standing_in m stands.0)) one) in
      let numbers : numbers_in m es ≡ numbers_in m place ++ n ∷ numbers_in m stands.0 =
      ap (map (λ (p : Standing). p.number)) parts ∙ map-append (λ (p : Standing). p.number) (standing_in m place) (s ∷ standing_in m stands.0) in
      subst (λ l. Contains l n) (sym numbers) (Contains-append_right (numbers_in m place) (n ∷ numbers_in m stands.0) n (0, omega arith, refl))

  -- and a permit that stands is in force
  in_force_of : (n : ℕ) → Contains (numbers_in (machine_of base day es) es) n → IsInForce day es n
  in_force_of n there =
      let standing = standing_in (machine_of base day es) es in
      All-contains (IsInForce day es) (map (λ (p : Standing). p.number) standing) n
      (All-map (IsInForce day es) (λ (p : Standing). p.number) standing
      (All-weaker (IsSoundStanding base day es) (λ (p : Standing). IsInForce day es p.number) (λ p h. h.in_force) standing (each_sound base day es roads trains legal)))
      there

pub standing_in_force : StandingAreInForce
standing_in_force file es roads trains legal = record {
  rising = (rising_from file.base file.day es roads trains legal (machine_of file.base file.day es) [] es refl).0;
  exact = λ n. (in_force_of file.base file.day es roads trains legal n, stands_of file.base file.day es roads trains legal n);
}
