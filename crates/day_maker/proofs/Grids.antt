-- Names of the grid in a list that grows from place to place, row by row.
use Rattle.std.proofs.Common.{◌≡◌, ◌≢◌, ◌∙◌, ◌<◌, ◌≤◌, ◌+◌, ◌⊎◌, ◌∷◌, ◌++◌, [], ℕ, List, false, refl, sym, subst, arith, inl, inr}
use Rattle.std.specs.List.{AllByRecursion}
use Rattle.std.proofs.lemmas.Bool.{cases_lt}
use Rattle.road_graph.specs.Roads.{has_name}
use Rattle.day_maker.specs.Made.{cell}
use Rattle.day_maker.proofs.Leaves.{cell_injective}
use Rattle.day_writer.proofs.Named.{IsThere, not_there, there_now, there_still}

pub all_map : {A : Type 0} (P Q : A → Type 0) → ((x : A) → P x → Q x) → (xs : List A) → AllByRecursion P xs → AllByRecursion Q xs
all_map P Q f [] h = tt
all_map P Q f (x ∷ xs) (h, hs) = (f x h, all_map P Q f xs hs)

pub all_last : {A : Type 0} (P : A → Type 0) (xs : List A) (x : A) → AllByRecursion P xs → P x → AllByRecursion P (xs ++ x ∷ [])
all_last P [] x h k = (k, tt)
all_last P (y ∷ ys) x (h, hs) k = (h, all_last P ys x hs k)

-- the order of the places
abbrev pub IsBefore : ℕ → ℕ → ℕ → ℕ → Type 0
IsBefore i j r c = (i < r) ⊎ ((i ≡ r) × (j < c))

abbrev pub IsIn : ℕ → List ℕ → Type 0
IsIn l [] = ⊥
IsIn l (d ∷ ds) = (l ≡ d) ⊎ IsIn l ds

-- made at an earlier place, or at this one under a letter that is done
abbrev pub IsMade : ℕ → ℕ → ℕ → ℕ → ℕ → List ℕ → Type 0
IsMade l i j r c done = IsBefore i j r c ⊎ ((i ≡ r) × (j ≡ c) × IsIn l done)

pub record IsMadeName (z r c : ℕ) (done : List ℕ) (name : List ℕ) : Type 0 where
  pub letter : ℕ
  pub row : ℕ
  pub column : ℕ
  pub is : name ≡ cell letter row column
  pub low : row ≤ z
  pub left : column ≤ z
  pub made : IsMade letter row column r c done

-- all names of one letter up to a last column that are made are there, and no others than made ones
pub record Grid (letter width z r c : ℕ) (done : List ℕ) (names : List (List ℕ)) : Type 0 where
  pub known : (i j : ℕ) → j < width → IsMade letter i j r c done → IsThere (cell letter i j) names
  pub made : AllByRecursion (IsMadeName z r c done) names

-- a name that was not made yet is not there
made_other : (z l r c : ℕ) (done name : List ℕ) → z ≤ 40 → r ≤ z → c ≤ z → ¬ (IsIn l done) → IsMadeName z r c done name → cell l r c ≢ name
made_other z l r c done name small hr hc free m e =
    let same = cell_injective m.letter m.row m.column l r c (omega (arith, m.low)) (omega (arith, m.left)) (omega arith) (omega arith) (sym (e ∙ m.is)) in
    absurd (by m.made same.0 same.1 same.2)
  where
    by : IsMade m.letter m.row m.column r c done → m.letter ≡ l → m.row ≡ r → m.column ≡ c → ⊥
    by (inl (inl h)) q p p' = omega arith
    by (inl (inr h)) q p p' = omega arith
    by (inr (_, _, k)) q p p' = free (subst (λ n. IsIn n done) q k)

pub grid_fresh : {letter width : ℕ} (z l r c : ℕ) (done : List ℕ) (names : List (List ℕ)) → z ≤ 40 → r ≤ z → c ≤ z → ¬ (IsIn l done) → Grid letter width z r c done names → has_name (cell l r c) names ≡ false
grid_fresh z l r c done names small hr hc free at = not_there (cell l r c) names (all_map (IsMadeName z r c done) (λ n. cell l r c ≢ n) (λ n m. made_other z l r c done n small hr hc free m) names at.made)

-- a name is added
pub grid_more : (letter width z l r c : ℕ) (done : List ℕ) (names : List (List ℕ)) → r ≤ z → c ≤ z → Grid letter width z r c done names → Grid letter width z r c (l ∷ done) (names ++ cell l r c ∷ [])
grid_more letter width z l r c done names hr hc at = record {
  known = λ i j hj m. known i j hj m;
  made = all_last (IsMadeName z r c (l ∷ done)) names (cell l r c) (all_map (IsMadeName z r c done) (IsMadeName z r c (l ∷ done)) (λ n m. record { letter = m.letter; row = m.row; column = m.column; is = m.is; low = m.low; left = m.left; made = more m.letter m.row m.column m.made }) names at.made) (record { letter = l; row = r; column = c; is = refl; low = hr; left = hc; made = inr (refl, refl, inl refl) });
}
  where
    more : (k i j : ℕ) → IsMade k i j r c done → IsMade k i j r c (l ∷ done)
    more k i j (inl h) = inl h
    more k i j (inr (h, g, m)) = inr (h, g, inr m)

    known : (i j : ℕ) → j < width → IsMade letter i j r c (l ∷ done) → IsThere (cell letter i j) (names ++ cell l r c ∷ [])
    known i j hj (inl h) = there_still (cell letter i j) names _ (at.known i j hj (inl h))
    known i j hj (inr (h, k, inr m)) = there_still (cell letter i j) names _ (at.known i j hj (inr (h, k, m)))
    known i j hj (inr (h, k, inl m)) = rw (h, k, m) (there_now (cell l r c) names)

-- letters that are passed over
pub grid_wider : (letter width z r c : ℕ) (done more : List ℕ) (names : List (List ℕ)) → (IsIn letter more → c < width → IsIn letter done) → ((l : ℕ) → IsIn l done → IsIn l more) → Grid letter width z r c done names → Grid letter width z r c more names
grid_wider letter width z r c done more names back ahead at = record {
  known = λ i j hj m. at.known i j hj (was i j hj m);
  made = all_map (IsMadeName z r c done) (IsMadeName z r c more) (λ n m. record { letter = m.letter; row = m.row; column = m.column; is = m.is; low = m.low; left = m.left; made = still m.letter m.row m.column m.made }) names at.made;
}
  where
    was : (i j : ℕ) → j < width → IsMade letter i j r c more → IsMade letter i j r c done
    was i j hj (inl h) = inl h
    was i j hj (inr (h, k, m)) = inr (h, k, back m (omega arith))

    still : (l i j : ℕ) → IsMade l i j r c done → IsMade l i j r c more
    still l i j (inl h) = inl h
    still l i j (inr (h, k, m)) = inr (h, k, ahead l m)

next_place : (i j r c : ℕ) → IsBefore i j r (c + 1) → IsBefore i j r c ⊎ ((i ≡ r) × (j ≡ c))
next_place i j r c (inl h) = inl (inl h)
next_place i j r c (inr (h, k)) = elim (cases_lt j c) [ inl l ↦ inl (inr (h, l)) | inr l ↦ inr (h, omega arith) ]

pub place_passed : (l i j r c : ℕ) (done : List ℕ) → IsMade l i j r c done → IsMade l i j r (c + 1) []
place_passed l i j r c done (inl (inl h)) = inl (inl h)
place_passed l i j r c done (inl (inr (h, k))) = inl (inr (h, omega arith))
place_passed l i j r c done (inr (h, k, m)) = inl (inr (h, omega arith))

-- the next place
pub grid_column : (letter width z r c : ℕ) (done : List ℕ) (names : List (List ℕ)) → (c < width → IsIn letter done) → Grid letter width z r c done names → Grid letter width z r (c + 1) [] names
grid_column letter width z r c done names has at = record {
  known = λ i j hj m. at.known i j hj (back i j hj m);
  made = all_map (IsMadeName z r c done) (IsMadeName z r (c + 1) []) (λ n m. record { letter = m.letter; row = m.row; column = m.column; is = m.is; low = m.low; left = m.left; made = place_passed m.letter m.row m.column r c done m.made }) names at.made;
}
  where
    back : (i j : ℕ) → j < width → IsMade letter i j r (c + 1) [] → IsMade letter i j r c done
    back i j hj (inl b) = elim (next_place i j r c b) [ inl o ↦ inl o | inr n ↦ inr (n.0, n.1, has (omega arith)) ]
    back i j hj (inr (h, k, m)) = absurd m

pub row_passed : (l i j r c : ℕ) → IsMade l i j r c [] → IsMade l i j (r + 1) 0 []
row_passed l i j r c (inl (inl h)) = inl (inl (omega arith))
row_passed l i j r c (inl (inr (h, k))) = inl (inl (omega arith))
row_passed l i j r c (inr (h, k, m)) = absurd m

-- the next row
pub grid_row : (letter width z r c : ℕ) (names : List (List ℕ)) → width ≤ c → Grid letter width z r c [] names → Grid letter width z (r + 1) 0 [] names
grid_row letter width z r c names wide at = record {
  known = λ i j hj m. at.known i j hj (back i j hj m);
  made = all_map (IsMadeName z r c []) (IsMadeName z (r + 1) 0 []) (λ n m. record { letter = m.letter; row = m.row; column = m.column; is = m.is; low = m.low; left = m.left; made = row_passed m.letter m.row m.column r c m.made }) names at.made;
}
  where
    back : (i j : ℕ) → j < width → IsMade letter i j (r + 1) 0 [] → IsMade letter i j r c []
    back i j hj (inl (inl h)) = elim (cases_lt i r) [ inl l ↦ inl (inl l) | inr l ↦ inl (inr (omega arith, omega arith)) ]
    back i j hj (inl (inr (h, k))) = absurd (omega arith)
    back i j hj (inr (h, k, m)) = absurd m

-- nothing yet
pub grid_none : (letter width z : ℕ) → Grid letter width z 0 0 [] []
grid_none letter width z = record { known = λ i j hj m. absurd (none i j m); made = tt }
  where
    none : (i j : ℕ) → IsMade letter i j 0 0 [] → ⊥
    none i j (inl (inl h)) = omega arith
    none i j (inl (inr (h, k))) = omega arith
    none i j (inr (h, k, m)) = m
