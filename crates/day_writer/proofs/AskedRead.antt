-- The routes that are asked for are read from their text.
use Rattle.std.proofs.Common.{◌≡◌, ◌≢◌, ◌<◌, ◌≤◌, ◌∷◌, ◌++◌, [], ℕ, List, Option, Some, None, false, eqb, get_or, length, map, option_map, refl, ap, arith, length-append}
use Rattle.std.specs.Prelude.{flat_map}
use Rattle.std.specs.List.{AllByRecursion}
use Rattle.std.proofs.lemmas.Bool.{le-leb, leb-true, ne_eqb}
use Rattle.std.specs.Cmp.{first_so}
use Rattle.std.proofs.lemmas.List.{length-map}
use Rattle.std.proofs.lemmas.List.Elements.{All-append, All-cons, All-from_recursion, recursion_from_All}
use Rattle.trip_analysis.specs.Walks.{IsWalk, every}
use Rattle.road_graph.specs.Roads.{no_segment, segment_names, number_of as number_named}
use Rattle.trip_analysis.specs.Applications.{AreAskedRoutes, IsAskedWalk}
use Rattle.trip_analysis.proofs.Joined.{walk_there}
use Rattle.trip_routes.specs.Routes.{AreRoutes}
use Rattle.day_text.specs.Commands.{asked_routes_of, numbers_of}
use Rattle.day_text.specs.Days.{DayParts}
use Rattle.day_text.specs.Fields.{name_field, route_of, routes_field}
use Rattle.day_text.specs.Named.{IsName}
use Rattle.day_writer.specs.Orders.{route_text, routes_text}
use Rattle.day_writer.specs.Texts.{joined}
use Rattle.day_writer.specs.Writable.{IsWritable}
use Rattle.day_writer.proofs.Leaves.{name_no_bar, name_no_space, name_ok, name_plain}
use Rattle.day_writer.proofs.Plain.{IsPlain}
use Rattle.day_writer.proofs.Splits.{Lacks, each_back, each_given, joined_plain, joined_split}
use Rattle.day_writer.proofs.SpansRead.{segment_found, segment_good}

-- what lacks a byte in each part lacks it where the parts are joined by another
more_lacks : {A : Type 0} (sign between : ℕ) (text : A → List ℕ) (xs : List A) → eqb between sign ≡ false → AllByRecursion (λ x. Lacks sign (text x)) xs → Lacks sign (flat_map (λ y. between ∷ text y) xs)
more_lacks sign between text [] other h = All-from_recursion (λ b. eqb b sign ≡ false) [] tt
more_lacks sign between text (x ∷ xs) other (h, hs) =
    All-cons (λ b. eqb b sign ≡ false) between (text x ++ flat_map (λ y. between ∷ text y) xs) other
    (All-append (λ b. eqb b sign ≡ false) (text x) (flat_map (λ y. between ∷ text y) xs) h (more_lacks sign between text xs other hs))

joined_lacks : {A : Type 0} (sign between : ℕ) (text : A → List ℕ) (xs : List A) → eqb between sign ≡ false → AllByRecursion (λ x. Lacks sign (text x)) xs → Lacks sign (joined between text xs)
joined_lacks sign between text [] other h = All-from_recursion (λ b. eqb b sign ≡ false) [] tt
joined_lacks sign between text (x ∷ xs) other (h, hs) = All-append (λ b. eqb b sign ≡ false) (text x) (flat_map (λ y. between ∷ text y) xs) h (more_lacks sign between text xs other hs)

-- what is so of each of some things is so of each of them that is more than it
weaker_each : {A : Type 0} (P Q : A → Type 0) → ((x : A) → P x → Q x) → (xs : List A) → AllByRecursion P xs → AllByRecursion Q xs
weaker_each P Q pq [] h = tt
weaker_each P Q pq (x ∷ xs) (h, hs) = (pq x h, weaker_each P Q pq xs hs)

-- a name is not empty
name_some : (name : List ℕ) → IsName name → 1 ≤ length name
name_some name h = leb-true 1 (length name) (first_so _ _ (first_so _ _ h))

module _ (file : DayParts) (h : IsWritable file) where
  -- a route of segments that are there, and of one at least
  pub record IsRoute (route : List ℕ) : Type 0 where
    pub some : 1 ≤ length route
    pub there : AllByRecursion (λ i. i < length file.base.roads.segments) route

  abbrev name_of : ℕ → List ℕ
  name_of i = (get_or file.base.roads.segments i no_segment).name

  abbrev known : List (List ℕ)
  known = segment_names file.base.roads.segments

  names_hold : (P : List ℕ → Type 0) → ((name : List ℕ) → IsName name → P name) → (route : List ℕ) → IsRoute route → AllByRecursion (λ i. P (name_of i)) route
  names_hold P p route r = weaker_each (λ i. i < length file.base.roads.segments) (λ i. P (name_of i)) (λ i low. p (name_of i) (segment_good file h i low)) route r.there

  lacks_space : (name : List ℕ) → IsName name → Lacks 32 name
  lacks_space name good = All-from_recursion (λ b. eqb b 32 ≡ false) name (name_no_space name good)

  lacks_bar : (name : List ℕ) → IsName name → Lacks 124 name
  lacks_bar name good = All-from_recursion (λ b. eqb b 124 ≡ false) name (name_no_bar name good)

  route_read : (route : List ℕ) → IsRoute route → route_of (route_text file.base.roads route) ≡ Some (map name_of route)
  route_read [] r = let some = r.some in absurd (omega arith)
  route_read (i ∷ route) r =
      rw (joined_split 32 refl name_of (i ∷ route) (names_hold (Lacks 32) lacks_space (i ∷ route) r) i route refl)
      (each_given name_field name_of name_of (i ∷ route) (names_hold (λ name. name_field name ≡ Some name) name_ok (i ∷ route) r))

  route_lacks_bar : (route : List ℕ) → IsRoute route → Lacks 124 (route_text file.base.roads route)
  route_lacks_bar route r = joined_lacks 124 32 name_of route refl (names_hold (Lacks 124) lacks_bar route r)

  route_plain : (route : List ℕ) → IsRoute route → IsPlain (route_text file.base.roads route)
  route_plain route r = joined_plain 32 name_of route refl (names_hold IsPlain name_plain route r)

  route_numbers : (route : List ℕ) → IsRoute route → numbers_of known (map name_of route) ≡ Some route
  route_numbers route r = each_back (λ name. number_named name known) name_of route
      (weaker_each (λ i. i < length file.base.roads.segments) (λ i. number_named (name_of i) known ≡ Some i) (λ i low. segment_found file h i low) route r.there)

  -- the names of routes
  abbrev names_of_routes : List (List ℕ) → List (List (List ℕ))
  names_of_routes routes = map (λ route. map name_of route) routes

  text_some : (route : List ℕ) (more : List (List ℕ)) → IsRoute route → 1 ≤ length (joined 124 (route_text file.base.roads) (route ∷ more))
  text_some [] more r = let some = r.some in absurd (omega arith)
  text_some (i ∷ route) more r =
      let first : 1 ≤ length (name_of i) = name_some (name_of i) (segment_good file h i r.there.0) in
      let inner = length-append (name_of i) (flat_map (λ y. 32 ∷ name_of y) route) in
      let outer = length-append (route_text file.base.roads (i ∷ route)) (flat_map (λ y. 124 ∷ route_text file.base.roads y) more) in
      omega arith

  some_read : (route : List ℕ) (more : List (List ℕ)) → length (route ∷ more) ≤ 8 → AllByRecursion IsRoute (route ∷ more) → routes_field (joined 124 (route_text file.base.roads) (route ∷ more)) ≡ Some (names_of_routes (route ∷ more))
  some_read route more few r =
      let routes : List (List ℕ) = route ∷ more in
      let text = joined 124 (route_text file.base.roads) routes in
      let full : eqb (length text) 0 ≡ false = (let some = text_some route more r.0 in ne_eqb (length text) 0 (λ e. absurd (omega arith))) in
      let parts = joined_split 124 refl (route_text file.base.roads) routes (weaker_each IsRoute (λ x. Lacks 124 (route_text file.base.roads x)) route_lacks_bar routes r) route more refl in
      let count : length (map (route_text file.base.roads) routes) ≤ 8 = omega (arith, length-map routes (route_text file.base.roads), few) in
      let each = each_given route_of (route_text file.base.roads) (λ x. map name_of x) routes (weaker_each IsRoute (λ x. route_of (route_text file.base.roads x) ≡ Some (map name_of x)) route_read routes r) in
      rw (full, parts, le-leb (length (map (route_text file.base.roads) routes)) 8 count) each

  some_asked : (route : List ℕ) (more : List (List ℕ)) → AllByRecursion IsRoute (route ∷ more) → asked_routes_of known (names_of_routes (route ∷ more)) ≡ Some (Some (route ∷ more))
  some_asked route more r =
      ap (option_map Some) (each_back (numbers_of known) (λ x. map name_of x) (route ∷ more) (weaker_each IsRoute (λ x. numbers_of known (map name_of x) ≡ Some x) route_numbers (route ∷ more) r))

  -- a walk between two nodes is a route
  walk_is_route : (from to : ℕ) → from ≢ to → (path : List ℕ) → IsWalk file.base.roads.segments every from to path → IsRoute path
  walk_is_route from to apart [] walk = absurd (apart walk)
  walk_is_route from to apart (i ∷ path) walk = record { some = omega arith; there = walk_there file.base.roads.segments every from to (i ∷ path) walk }

  -- what is read of the field of asked routes, and what that asks for
  pub record IsAskedRead (asked : Option (List (List ℕ))) : Type 0 where
    pub names : List (List (List ℕ))
    pub read : routes_field (routes_text file.base.roads asked) ≡ Some names
    pub asks : asked_routes_of known names ≡ Some asked
    pub plain : IsPlain (routes_text file.base.roads asked)

  asked_by : (from to : ℕ) → from ≢ to → (routes : List (List ℕ)) → AreRoutes routes → AllByRecursion (IsWalk file.base.roads.segments every from to) routes → IsAskedRead (Some routes)
  asked_by from to apart [] are walks = let some = are.some in absurd (omega arith)
  asked_by from to apart (route ∷ more) are walks =
      let r = weaker_each (IsWalk file.base.roads.segments every from to) IsRoute (walk_is_route from to apart) (route ∷ more) walks in
      record {
        names = names_of_routes (route ∷ more);
        read = some_read route more are.few r;
        asks = some_asked route more r;
        plain = joined_plain 124 (route_text file.base.roads) (route ∷ more) refl (weaker_each IsRoute (λ x. IsPlain (route_text file.base.roads x)) route_plain (route ∷ more) r);
      }

  pub asked_read : (from to : ℕ) → from ≢ to → (asked : Option (List (List ℕ))) → AreAskedRoutes asked → IsAskedWalk file.base.roads from to asked → IsAskedRead asked
  asked_read from to apart None are walks = record { names = []; read = refl; asks = refl; plain = refl }
  asked_read from to apart (Some routes) are walks =
      asked_by from to apart routes are (recursion_from_All (IsWalk file.base.roads.segments every from to) routes walks)
