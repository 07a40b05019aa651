-- The flags of the segments.
use Rattle.std.proofs.Common.{◌≡◌, ◌+◌, ◌<◌, ◌++◌, ◌∷◌, [], ℕ, List, Bool, false, length, map, ap, sym, ◌∙◌, arith}
use Rattle.std.specs.List.{range_with_len}
use Rattle.std.proofs.lemmas.List.FromFn.{get_or-map-range_with_len, length-map-range_with_len, map-range_with_len_more}
use Rattle.restriction_log.specs.States.{InForce}
use Rattle.route_search.specs.Walks.{flagged}
use Rattle.trip_analysis.specs.Bases.{BaseLists}
use Rattle.trip_analysis.specs.Passing.{flags_of, is_passable}

pub flags_more : (base : BaseLists) (state : InForce) (truck n : ℕ) (old new : List Bool) → old ≡ map (is_passable base state truck) (range_with_len 0 n) → new ≡ old ++ is_passable base state truck n ∷ [] → new ≡ map (is_passable base state truck) (range_with_len 0 (n + 1))
flags_more base state truck n old new is more = more ∙ (ap (λ (l : List Bool). l ++ is_passable base state truck n ∷ []) is ∙ sym (map-range_with_len_more (is_passable base state truck) 0 n n (omega arith)))

pub flags_many : (base : BaseLists) (state : InForce) (truck : ℕ) (flags : List Bool) → flags ≡ flags_of base state truck → length flags ≡ length base.roads.segments
flags_many base state truck flags is = ap length is ∙ length-map-range_with_len (is_passable base state truck) 0 (length base.roads.segments)

-- the flag of a segment says whether it may be passed
pub flag_is : (base : BaseLists) (state : InForce) (truck i : ℕ) → i < length base.roads.segments → flagged (flags_of base state truck) i ≡ is_passable base state truck i
flag_is base state truck i h = get_or-map-range_with_len (is_passable base state truck) 0 (length base.roads.segments) i i false h (omega arith)
