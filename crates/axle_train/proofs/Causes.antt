-- What a refusal says of the list: the rule that is broken, the least axle that breaks it, and that no rule before it is.
use Rattle.std.proofs.Common.{◌≡◌, ℕ, zero, suc, ◌+◌, ◌-◌, ◌<◌, ◌≤◌, ◌⊎◌, ◌&&◌, List, [], ◌∷◌, length, Bool, true, false, cond, leb, ltb, eqb, Option, Some, None, sum_by, arith, refl, inl, inr, subst}
use Rattle.std.proofs.lemmas.Bool.Decides.{nat_tests}
use Rattle.axle_train.specs.declared.axle.Axle.{Axle}
use Rattle.axle_train.specs.declared.refusal.TrainRefusal.{TrainRefusal}
use Rattle.axle_train.specs.declared.refusal.TrainRefusal.TheVariants.{TooFew, TooMany, PlaceOrder, Weight, Gross, TooLong}
use Rattle.axle_train.specs.Bounds.{RisesFrom, BeginsAtZero, IsTrain}
use Rattle.axle_train.specs.Trains.{axle_at}
use Rattle.axle_train.specs.Refusals.{IsOutOfOrder, IsOutOfRange, NoneBreaks, IsLeastBreach, HasTrainLength, IsRefused, rise_fault, place_fault, weight_fault, total_fault, weight_refusal, place_refusal, refusal_of}
use Rattle.axle_train.proofs.Places.{place_rises, axle_fits}
use Rattle.axle_train.proofs.Accepted.{weight_at, begins, rises_all, at_most, at_least, in_range, is_zero}

-- a choice that gives something gave the first thing, or what the rest gives
first_or_rest : {X : Type 0} (b : Bool) (x e : X) (r : Option X) → cond b (Some x) r ≡ Some e → ((b ≡ true) × (x ≡ e)) ⊎ ((b ≡ false) × (r ≡ Some e))
first_or_rest true x e r h = inl (refl, cc)
first_or_rest false x e r h = inr (refl, h)

-- the same, where the rest comes first
rest_or_last : {X : Type 0} (b : Bool) (x e : X) (r : Option X) → cond b r (Some x) ≡ Some e → ((b ≡ true) × (r ≡ Some e)) ⊎ ((b ≡ false) × (x ≡ e))
rest_or_last true x e r h = inl (refl, h)
rest_or_last false x e r h = inr (refl, cc)

above : (m n : ℕ) → ltb m n ≡ true → m < n
above m n h = grind (arith, nat_tests)

not_above : (m n : ℕ) → leb m n ≡ false → n < m
not_above m n h = grind (arith, nat_tests)

not_zero : (n : ℕ) → eqb n 0 ≡ false → 0 < n
not_zero n h = grind (arith, nat_tests)

out_of_range : (w : ℕ) → (leb 1 w && leb w 200000) ≡ false → (w < 1) ⊎ (200000 < w)
out_of_range w h = grind (arith, nat_tests)

-- the first axle breaks the rule
breaks_first : (Breaks : ℕ → Type 0) (a : Axle) (rest : List Axle) → Breaks 0 → IsLeastBreach Breaks (a ∷ rest) 0
breaks_first Breaks a rest h = record {
  within = omega arith;
  breaks = h;
  least = λ i k. absurd (omega (arith, k));
}

-- the first axle keeps the rule, and the least axle of the rest that breaks it is one further on
breaks_later : (Later Breaks : ℕ → Type 0) (a : Axle) (rest : List Axle) (at : ℕ) → ((i : ℕ) → Later i → Breaks (suc i)) → ((i : ℕ) → Breaks (suc i) → Later i) → ¬ Breaks 0 → IsLeastBreach Later rest at → IsLeastBreach Breaks (a ∷ rest) (suc at)
breaks_later Later Breaks a rest at to from kept later = record {
  within = omega (arith, later.within);
  breaks = to at later.breaks;
  least = least_of at kept (λ i k breach. later.least i k (from i breach));
}
  where
    least_of : (at : ℕ) → ¬ Breaks 0 → ((i : ℕ) → i < at → ¬ Breaks (suc i)) → (i : ℕ) → i < suc at → ¬ Breaks i
    least_of at kept rest zero k = kept
    least_of at kept rest (suc i) k = rest i (omega (arith, k))

-- axle i is not above the one before it, and the first one is below `least`
abbrev IsLow : ℕ → List Axle → ℕ → Type 0
IsLow least axles zero = (axle_at axles 0).place < least
IsLow least axles (suc i) = (axle_at axles (suc i)).place ≤ (axle_at axles i).place

-- an axle of the rest, where the least place that may follow the first axle is known
low_later : (a : Axle) (rest : List Axle) (least i : ℕ) → IsLow (a.place + 1) rest i → IsLow least (a ∷ rest) (suc i)
low_later a rest least zero h = omega (arith, h)
low_later a rest least (suc i) h = h

low_before : (a : Axle) (rest : List Axle) (least i : ℕ) → IsLow least (a ∷ rest) (suc i) → IsLow (a.place + 1) rest i
low_before a rest least zero h = omega (arith, h)
low_before a rest least (suc i) h = h

rise_breach : (axles : List Axle) (least n at : ℕ) → rise_fault least n axles ≡ Some at → (k : ℕ) × (at ≡ n + k) × IsLeastBreach (IsLow least axles) axles k
rise_breach [] least n at h = cc
rise_breach (a ∷ rest) least n at h =
    elim (rest_or_last (leb least a.place) n at (rise_fault (a.place + 1) (n + 1) rest) h) [
      | inl more ↦ (let (k, here, breach) = rise_breach rest (a.place + 1) (n + 1) at more.1 in
          let kept = at_least least a.place more.0 in
          (suc k, omega (arith, here), breaks_later (IsLow (a.place + 1) rest) (IsLow least (a ∷ rest)) a rest k (low_later a rest least) (low_before a rest least) (λ low. omega (arith, low, kept)) breach))
      | inr now ↦ (0, omega (arith, now.1), breaks_first (IsLow least (a ∷ rest)) a rest (not_above least a.place now.0))
    ]

out_later : (a : Axle) (rest : List Axle) (i : ℕ) → a.place ≡ 0 → IsLow 1 rest i → IsOutOfOrder (a ∷ rest) (suc i)
out_later a rest zero z h = omega (arith, h)
out_later a rest (suc i) z h = h

out_before : (a : Axle) (rest : List Axle) (i : ℕ) → a.place ≡ 0 → IsOutOfOrder (a ∷ rest) (suc i) → IsLow 1 rest i
out_before a rest zero z h = omega (arith, h, z)
out_before a rest (suc i) z h = h

-- the least axle that is out of order
pub place_breach : (axles : List Axle) (at : ℕ) → place_fault axles ≡ Some at → IsLeastBreach (IsOutOfOrder axles) axles at
place_breach [] at h = cc
place_breach (a ∷ rest) at h =
    elim (rest_or_last (eqb a.place 0) 0 at (rise_fault 1 1 rest) h) [
      | inl more ↦ (let (k, here, breach) = rise_breach rest 1 1 at more.1 in
          let zero_place = is_zero a.place more.0 in
          let same : suc k ≡ at = omega (arith, here) in
          subst (IsLeastBreach (IsOutOfOrder (a ∷ rest)) (a ∷ rest)) same
          (breaks_later (IsLow 1 rest) (IsOutOfOrder (a ∷ rest)) a rest k (λ i. out_later a rest i zero_place) (λ i. out_before a rest i zero_place) (λ low. omega (arith, low, zero_place)) breach))
      | inr now ↦ subst (IsLeastBreach (IsOutOfOrder (a ∷ rest)) (a ∷ rest)) now.1 (breaks_first (IsOutOfOrder (a ∷ rest)) a rest (not_zero a.place now.0))
    ]

keeps_range : (w : ℕ) → (1 ≤ w) × (w ≤ 200000) → ¬ ((w < 1) ⊎ (200000 < w))
keeps_range w fits (inl light) = omega (arith, light, fits.0)
keeps_range w fits (inr heavy) = omega (arith, heavy, fits.1)

-- the least axle whose weight is out of range
pub weight_breach : (axles : List Axle) (n at : ℕ) → weight_fault n axles ≡ Some at → (k : ℕ) × (at ≡ n + k) × IsLeastBreach (IsOutOfRange axles) axles k
weight_breach [] n at h = cc
weight_breach (a ∷ rest) n at h =
    elim (rest_or_last (leb 1 a.weight && leb a.weight 200000) n at (weight_fault (n + 1) rest) h) [
      | inl more ↦ (let (k, here, breach) = weight_breach rest (n + 1) at more.1 in
          (suc k, omega (arith, here), breaks_later (IsOutOfRange rest) (IsOutOfRange (a ∷ rest)) a rest k (λ i out. out) (λ i out. out) (keeps_range a.weight (in_range a.weight more.0)) breach))
      | inr now ↦ (0, omega (arith, now.1), breaks_first (IsOutOfRange (a ∷ rest)) a rest (out_of_range a.weight now.0))
    ]

-- no axle is out of order
pub none_out_of_order : (axles : List Axle) → BeginsAtZero axles → RisesFrom 0 axles → NoneBreaks (IsOutOfOrder axles) axles
none_out_of_order [] first rising i k = absurd (omega (arith, k))
none_out_of_order (a ∷ rest) first rising zero k = λ h. omega (arith, h, first)
none_out_of_order (a ∷ rest) first rising (suc i) k = λ h. omega (arith, h, place_rises (a ∷ rest) 0 i (suc i) rising (omega arith) k)

-- no weight is out of range
pub none_out_of_range : (axles : List Axle) → weight_fault 0 axles ≡ None → NoneBreaks (IsOutOfRange axles) axles
none_out_of_range axles h i k = keeps_range (axle_at axles i).weight (weight_at axles 0 i h k)

total_refused : (axles : List Axle) (e : TrainRefusal) → HasTrainLength axles → NoneBreaks (IsOutOfOrder axles) axles → NoneBreaks (IsOutOfRange axles) axles → total_fault axles ≡ Some e → IsRefused axles e
total_refused axles e many order range h =
    elim (first_or_rest (ltb 2000000 (sum_by (λ (a : Axle). a.weight) axles)) Gross e _ h) [
      | inl heavy ↦ subst (IsRefused axles) heavy.1 (many, order, range, above 2000000 (sum_by (λ (a : Axle). a.weight) axles) heavy.0)
      | inr rest ↦ elim (first_or_rest (ltb 3000 (axle_at axles (length axles - 1)).place) TooLong e None rest.1) [
        | inl long ↦ subst (IsRefused axles) long.1 (many, order, range, at_most 2000000 (sum_by (λ (a : Axle). a.weight) axles) rest.0, above 3000 (axle_at axles (length axles - 1)).place long.0)
        | inr none ↦ absurd cc
      ]
    ]

weight_refused : (axles : List Axle) (fault : Option ℕ) (e : TrainRefusal) → HasTrainLength axles → NoneBreaks (IsOutOfOrder axles) axles → weight_fault 0 axles ≡ fault → weight_refusal fault (total_fault axles) ≡ Some e → IsRefused axles e
weight_refused axles None e many order fault h = total_refused axles e many order (none_out_of_range axles fault) h
weight_refused axles (Some at) e many order fault h =
    let (k, here, breach) = weight_breach axles 0 at fault in
    let same : k ≡ at = omega (arith, here) in
    let said : Weight at ≡ e = cc in
    subst (IsRefused axles) said (many, order, subst (IsLeastBreach (IsOutOfRange axles) axles) same breach)

place_refused : (axles : List Axle) (fault : Option ℕ) (e : TrainRefusal) → HasTrainLength axles → place_fault axles ≡ fault → place_refusal fault (weight_refusal (weight_fault 0 axles) (total_fault axles)) ≡ Some e → IsRefused axles e
place_refused axles None e many fault h = weight_refused axles (weight_fault 0 axles) e many (none_out_of_order axles (begins axles fault) (rises_all axles fault)) refl h
place_refused axles (Some at) e many fault h =
    let said : PlaceOrder at ≡ e = cc in
    subst (IsRefused axles) said (many, place_breach axles at fault)

-- the computed refusal is the one in words
pub is_refused : (axles : List Axle) (e : TrainRefusal) → refusal_of axles ≡ Some e → IsRefused axles e
is_refused axles e h =
    elim (first_or_rest (ltb (length axles) 2) TooFew e _ h) [
      | inl few ↦ subst (IsRefused axles) few.1 (above (length axles) 2 few.0)
      | inr rest ↦ elim (first_or_rest (ltb 32 (length axles)) TooMany e _ rest.1) [
        | inl many ↦ subst (IsRefused axles) many.1 (above 32 (length axles) many.0)
        | inr fits ↦ place_refused axles (place_fault axles) e (at_most (length axles) 2 rest.0, at_most 32 (length axles) fits.0) refl fits.1
      ]
    ]

-- a train is not refused
pub train_not_refused : (axles : List Axle) (e : TrainRefusal) → IsTrain axles → IsRefused axles e → ⊥
train_not_refused axles TooFew train h = omega (arith, h, train.many)
train_not_refused axles TooMany train h = omega (arith, h, train.few)
train_not_refused axles (PlaceOrder at) train h = none_out_of_order axles train.first train.rising at h.1.within h.1.breaks
train_not_refused axles (Weight at) train h = (let fits = axle_fits axles at train.each h.2.within in keeps_range (axle_at axles at).weight (fits.1, fits.2) h.2.breaks)
train_not_refused axles Gross train h = omega (arith, h.3, train.gross)
train_not_refused axles TooLong train h = omega (arith, h.4, (axle_fits axles (length axles - 1) train.each (omega (arith, train.many))).0)
