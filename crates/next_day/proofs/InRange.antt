-- What is in force on a segment is in range, whatever was posted that the network takes.
use Rattle.std.proofs.Common.{◌≡◌, ◌∷◌, [], ℕ, suc, zero, true, List, Some, get_or, set, map, refl}
use Rattle.std.specs.Prelude.{fold, slice_get}
use Rattle.std.proofs.lemmas.Bool.{and_parts}
use Rattle.std.proofs.lemmas.List.Elements.{All-head, All-tail}
use Rattle.road_graph.specs.Ranges.{AreInRange, default_values, is_limit, with_value}
use Rattle.road_graph.specs.Roads.{IsRoads, Roads}
use Rattle.road_graph.specs.declared.values.Values.{Values}
use Rattle.road_graph.specs.declared.values.What.{What}
use Rattle.road_graph.specs.declared.values.What.TheVariants.{Closed, Height, Width, Length, Gross, Allowance, Tridem}
use Rattle.road_graph.specs.declared.segment.Segment.{Segment}
use Rattle.restriction_log.specs.Changes.{AreTaken, has_segment, replaced_by, takes, takes_replaced}
use Rattle.restriction_log.specs.States.{InForce, base_of, state_after, state_of, values_at, with_replaced}
use Rattle.restriction_log.specs.declared.change.Change.{Change}
use Rattle.restriction_log.specs.declared.change.Replaced.{Replaced}
use Rattle.restriction_log.specs.declared.change.Replaced.TheVariants as replaced

abbrev AllInRange : InForce → Type 0
AllInRange state = (i : ℕ) → AreInRange (values_at state.values i)

default_in_range : AreInRange default_values
default_in_range = record { height = refl; width = refl; length = refl; gross = refl; allowance = refl; tridem = refl }

with_in_range : (v : Values) (what : What) (n : ℕ) → AreInRange v → is_limit what n ≡ true → AreInRange (with_value v what n)
with_in_range v Closed n h is = record { height = h.height; width = h.width; length = h.length; gross = h.gross; allowance = h.allowance; tridem = h.tridem }
with_in_range v Height n h is = record { height = is; width = h.width; length = h.length; gross = h.gross; allowance = h.allowance; tridem = h.tridem }
with_in_range v Width n h is = record { height = h.height; width = is; length = h.length; gross = h.gross; allowance = h.allowance; tridem = h.tridem }
with_in_range v Length n h is = record { height = h.height; width = h.width; length = is; gross = h.gross; allowance = h.allowance; tridem = h.tridem }
with_in_range v Gross n h is = record { height = h.height; width = h.width; length = h.length; gross = is; allowance = h.allowance; tridem = h.tridem }
with_in_range v Allowance n h is = record { height = h.height; width = h.width; length = h.length; gross = h.gross; allowance = is; tridem = h.tridem }
with_in_range v Tridem n h is = record { height = h.height; width = h.width; length = h.length; gross = h.gross; allowance = h.allowance; tridem = is }

-- what holds of what is written and of each item holds of each item behind the write
set_keeps : {X : Type 0} (P : X → Type 0) (xs : List X) (i : ℕ) (a d : X) (j : ℕ) → P a → ((k : ℕ) → P (get_or xs k d)) → P (get_or (set xs i a) j d)
set_keeps P [] i a d j held all = all j
set_keeps P (x ∷ xs) zero a d zero held all = held
set_keeps P (x ∷ xs) zero a d (suc j) held all = all (suc j)
set_keeps P (x ∷ xs) (suc i) a d zero held all = all zero
set_keeps P (x ∷ xs) (suc i) a d (suc j) held all = set_keeps P xs i a d j held (λ k. all (suc k))

-- and of what is made of each item
map_keeps : {X Y : Type 0} (P : Y → Type 0) (f : X → Y) (xs : List X) (d : Y) (i : ℕ) → P d → ((k : ℕ) (x : X) → slice_get xs k ≡ Some x → P (f x)) → P (get_or (map f xs) i d)
map_keeps P f [] d i held all = held
map_keeps P f (x ∷ xs) d zero held all = all zero x refl
map_keeps P f (x ∷ xs) d (suc i) held all = map_keeps P f xs d i held (λ k. all (suc k))

base_in_range : (roads : Roads) → IsRoads roads → AllInRange (base_of roads)
base_in_range roads h i = map_keeps AreInRange (λ (s : Segment). s.base) roads.segments default_values i default_in_range (λ k s at. (h.each k s at).base)

replaced_in_range : (roads : Roads) (state : InForce) (r : Replaced) → takes_replaced roads r ≡ true → AllInRange state → AllInRange (with_replaced state r)
replaced_in_range roads state (replaced.Limit segment limit value) taken all i =
    set_keeps AreInRange state.values segment (with_value (values_at state.values segment) limit value) default_values i
    (with_in_range (values_at state.values segment) limit value (all segment) (and_parts (has_segment roads segment) (is_limit limit value) taken).1) all
replaced_in_range roads state (replaced.Rating span permille) taken all i = all i

after_in_range : (roads : Roads) (state : InForce) (changes : List Change) → AreTaken roads changes → AllInRange state → AllInRange (fold state_after state changes)
after_in_range roads state [] taken all = all
after_in_range roads state (c ∷ cs) taken all =
    after_in_range roads (state_after state c) cs (All-tail (λ (x : Change). takes roads x ≡ true) c cs taken)
    (replaced_in_range roads state (replaced_by c) (All-head (λ (x : Change). takes roads x ≡ true) c cs taken) all)

-- what is in force on each segment is in range
pub in_range : (roads : Roads) (changes : List Change) → IsRoads roads → AreTaken roads changes → (i : ℕ) → AreInRange (values_at (state_of roads changes).values i)
in_range roads changes h taken = after_in_range roads (base_of roads) changes taken (base_in_range roads h)
