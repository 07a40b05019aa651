-- A list of segments that is cut into routes: the parts joined, one part more, and the part at a place.
use Prim.Native.Nat.{suc, zero}
use Rattle.std.proofs.Common.{◌≡◌, ◌≤◌, ◌<◌, ◌+◌, ◌-◌, ◌∷◌, ◌++◌, [], ℕ, List, length, take, drop, get_or, refl, ap, subst, sym, ◌∙◌, arith, length-append, length-drop}
use Rattle.std.specs.List.{concat, slice_range}
use Rattle.std.proofs.lemmas.List.{take_all, take-append-le, drop_all, drop-append-le}
use Rattle.std.proofs.lemmas.List.Folds.{drop_split}
use Rattle.trip_routes.specs.Routes.{AreRouteEnds, Rise, begin_of, parted}

parted_length : (start : ℕ) (ends segments : List ℕ) → length (parted start ends segments) ≡ length ends
parted_length start [] segments = refl
parted_length start (end ∷ ends) segments = ap suc (parted_length end ends segments)

-- a place is not behind the last
rise_below : (start : ℕ) (ends : List ℕ) (last : ℕ) → Rise start ends last → start ≤ last
rise_below start [] last same = omega (arith, same)
rise_below start (end ∷ ends) last h = let later = rise_below end ends last h.1 in omega (arith, later, h.0)

-- the parts joined are all that was cut
parted_joined : (start : ℕ) (ends segments : List ℕ) → Rise start ends (length segments) → concat (parted start ends segments) ≡ drop start segments
parted_joined start [] segments same = sym (drop_all start segments (omega (arith, same)))
parted_joined start (end ∷ ends) segments h =
    ap (λ l. slice_range segments start end ++ l) (parted_joined end ends segments h.1) ∙ sym (drop_split segments start end h.0)

pub cut_joined : (ends segments : List ℕ) → AreRouteEnds ends segments → concat (parted 0 ends segments) ≡ segments
cut_joined ends segments h = parted_joined 0 ends segments h.rise

-- a part of a list is a part of a longer one
range_more : (segments more : List ℕ) (start end : ℕ) → start ≤ end → end ≤ length segments
    → slice_range (segments ++ more) start end ≡ slice_range segments start end
range_more segments more start end from to =
    ap (take (end - start)) (drop-append-le start segments more (omega (arith, from, to)))
    ∙ take-append-le (end - start) (drop start segments) more (let long = length-drop start segments in omega (arith, long, from, to))

-- what is behind a list is a part of its own
range_behind : (segments more : List ℕ) → slice_range (segments ++ more) (length segments) (length segments + length more) ≡ more
range_behind segments more =
    ap (take (length segments + length more - length segments))
    (drop-append-le (length segments) segments more (omega arith) ∙ ap (λ l. l ++ more) (drop_all (length segments) segments (omega arith)))
    ∙ take_all (length segments + length more - length segments) more (omega arith)

-- one list more behind the others is one part more
parted_more : (start : ℕ) (ends segments more : List ℕ) → Rise start ends (length segments)
    → parted start (ends ++ (length segments + length more) ∷ []) (segments ++ more) ≡ parted start ends segments ++ more ∷ []
parted_more start [] segments more same =
    ap (λ at. slice_range (segments ++ more) at (length segments + length more) ∷ []) same ∙ ap (λ l. l ∷ []) (range_behind segments more)
parted_more start (end ∷ ends) segments more h =
    ap (λ l. l ∷ parted end (ends ++ (length segments + length more) ∷ []) (segments ++ more))
    (range_more segments more start end h.0 (rise_below end ends (length segments) h.1))
    ∙ ap (λ l. slice_range segments start end ∷ l) (parted_more end ends segments more h.1)

rise_more : (start : ℕ) (ends : List ℕ) (last next : ℕ) → Rise start ends last → last ≤ next → Rise start (ends ++ next ∷ []) next
rise_more start [] last next same behind = (omega (arith, same, behind), refl)
rise_more start (end ∷ ends) last next h behind = (h.0, rise_more end ends last next h.1 behind)

-- the routes with one more behind them
pub cut_more : (ends segments more : List ℕ) (next : ℕ) → AreRouteEnds ends segments → next ≡ length segments + length more
    → parted 0 (ends ++ next ∷ []) (segments ++ more) ≡ parted 0 ends segments ++ more ∷ []
cut_more ends segments more next h is =
    ap (λ n. parted 0 (ends ++ n ∷ []) (segments ++ more)) is ∙ parted_more 0 ends segments more h.rise

pub is_cut_more : (ends segments more : List ℕ) (next : ℕ) → AreRouteEnds ends segments → length ends < 8 → next ≡ length segments + length more
    → AreRouteEnds (ends ++ next ∷ []) (segments ++ more)
is_cut_more ends segments more next h room is =
    let long = length-append ends (next ∷ []) in
    let behind : next ≡ length (segments ++ more) = omega (arith, is, length-append segments more) in
    record {
      some = omega (arith, long);
      few = omega (arith, long, room);
      rise = subst (Rise 0 (ends ++ next ∷ [])) behind (rise_more 0 ends (length segments) next h.rise (omega (arith, is)));
    }

-- as many routes as there are ends
pub cut_length : (ends segments : List ℕ) → length (parted 0 ends segments) ≡ length ends
cut_length ends segments = parted_length 0 ends segments

-- the part at a place reaches from where it begins to where it ends
part_at : (start : ℕ) (ends segments : List ℕ) (i : ℕ) → i < length ends
    → get_or (parted start ends segments) i [] ≡ slice_range segments (begin_of start ends i) (get_or ends i 0)
part_at start [] segments i within = absurd (omega (arith, within))
part_at start (end ∷ ends) segments zero within = refl
part_at start (end ∷ ends) segments (suc zero) within = part_at end ends segments 0 (omega (arith, within))
part_at start (end ∷ ends) segments (suc (suc i)) within = part_at end ends segments (suc i) (omega (arith, within))

-- a part begins where it ends or before, and ends within the list
part_within : (start : ℕ) (ends : List ℕ) (last i : ℕ) → Rise start ends last → i < length ends
    → (begin_of start ends i ≤ get_or ends i 0) × (get_or ends i 0 ≤ last)
part_within start [] last i h within = absurd (omega (arith, within))
part_within start (end ∷ ends) last zero h within = (h.0, rise_below end ends last h.1)
part_within start (end ∷ ends) last (suc zero) h within = part_within end ends last 0 h.1 (omega (arith, within))
part_within start (end ∷ ends) last (suc (suc i)) h within = part_within end ends last (suc i) h.1 (omega (arith, within))

pub cut_within : (ends segments : List ℕ) (i : ℕ) → AreRouteEnds ends segments → i < length ends
    → (begin_of 0 ends i ≤ get_or ends i 0) × (get_or ends i 0 ≤ length segments)
cut_within ends segments i h within = part_within 0 ends (length segments) i h.rise within

-- there are fewer ends than eight, where there are fewer routes
pub room_left : (ends segments : List ℕ) (routes : List (List ℕ)) (count : ℕ) → parted 0 ends segments ≡ routes → count ≡ length routes → count < 8
    → length ends < 8
room_left ends segments routes count seen is few =
    let many = cut_length ends segments in
    let same = ap (λ (l : List (List ℕ)). length l) seen in
    omega (arith, many, same, is, few)
