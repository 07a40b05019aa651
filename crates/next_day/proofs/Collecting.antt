-- The lists of what goes on grow entry by entry, truck by truck and permit by permit.
use Rattle.std.proofs.Common.{◌≡◌, ◌<◌, ◌≤◌, ◌+◌, ◌∷◌, ◌++◌, [], ℕ, suc, zero, Bool, true, false, cond, List, Option, Some, None, get_or, length, map, take, refl, ap, sym, ◌∙◌, arith, append-nil}
use Rattle.std.specs.Prelude.{filter, not, ◌||◌, ◌==◌}
use Rattle.std.specs.List.{cons_option, list_any, range_with_len}
use Rattle.std.proofs.lemmas.List.{map_push, take_all, take_more}
use Rattle.std.proofs.lemmas.List.Elements.{filter-append, filter_map-append}
use Rattle.trip_analysis.specs.Findings.{is_number_among}
use Rattle.office_words.specs.declared.entry.Entry.{Entry}
use Rattle.office_core.specs.Happened.{Day, application_in}
use Rattle.office_core.specs.Machine.{Machine}
use Rattle.day_text.specs.declared.orders.Order.{Order}
use Rattle.next_day.specs.NextDay.{order_for, trucks_kept, trucks_of}
use Rattle.next_day.specs.Standing.{Standing, standing_in, standing_of}

module _ (m : Machine) (es : List Entry) (i : ℕ) (e : Entry) (within : i < length es) (is : e ≡ get_or es i e) where
  taken : take (i + 1) es ≡ take i es ++ e ∷ []
  taken = take_more es i e within ∙ ap (λ (x : Entry). take i es ++ x ∷ []) (sym is)

  grown : standing_in m (take (i + 1) es) ≡ standing_in m (take i es) ++ cons_option (standing_of m e.caller (application_in e.call) e.reply) []
  grown = ap (standing_in m) taken ∙ filter_map-append (λ (x : Entry). standing_of m x.caller (application_in x.call) x.reply) (take i es) (e ∷ [])

  -- an entry that adds none
  pub none_more : (found : List Standing) → found ≡ standing_in m (take i es) → None ≡ standing_of m e.caller (application_in e.call) e.reply → found ≡ standing_in m (take (i + 1) es)
  none_more found so none =
      so ∙ (sym (append-nil (standing_in m (take i es))) ∙ (ap (λ (o : Option Standing). standing_in m (take i es) ++ cons_option o []) none ∙ sym grown))

  -- and one that adds a permit
  pub one_more : (found new : List Standing) (p : Standing) → found ≡ standing_in m (take i es) → Some p ≡ standing_of m e.caller (application_in e.call) e.reply → new ≡ found ++ p ∷ []
      → new ≡ standing_in m (take (i + 1) es)
  one_more found new p so one pushed =
      pushed ∙ (ap (λ (l : List Standing). l ++ p ∷ []) so ∙ (ap (λ (o : Option Standing). standing_in m (take i es) ++ cons_option o []) one ∙ sym grown))

pub all_found : (m : Machine) (es : List Entry) (i : ℕ) (found : List Standing) → length es ≤ i → found ≡ standing_in m (take i es) → found ≡ standing_in m es
all_found m es i found far so = so ∙ ap (standing_in m) (take_all i es far)

range_more : (a n : ℕ) → range_with_len a (suc n) ≡ range_with_len a n ++ (a + n) ∷ []
range_more a zero = let here : a ≡ a + zero = omega arith in ap (λ (k : ℕ). k ∷ []) here
range_more a (suc n) =
    let there : (a + 1) + n ≡ a + suc n = omega arith in
    ap (λ (l : List ℕ). a ∷ l) (range_more (a + 1) n ∙ ap (λ (k : ℕ). range_with_len (a + 1) n ++ k ∷ []) there)

numbers_more : (t : ℕ) → range_with_len 0 (t + 1) ≡ range_with_len 0 t ++ t ∷ []
numbers_more t =
    let next : t + 1 ≡ suc t = omega arith in
    let last : 0 + t ≡ t = omega arith in
    ap (range_with_len 0) next ∙ (range_more 0 t ∙ ap (λ (k : ℕ). range_with_len 0 t ++ k ∷ []) last)

-- a truck is among those of the permits where one of them is for it
pub among_held : (truck : ℕ) (standing : List Standing) → is_number_among truck (trucks_of standing) ≡ list_any (λ p. p.trip.truck == truck) standing
among_held truck [] = refl
among_held truck (p ∷ standing) = ap (λ b. (p.trip.truck == truck) || b) (among_held truck standing)

module _ (only : Bool) (standing : List Standing) where
  kept_grown : (t : ℕ) → trucks_kept only (t + 1) standing ≡ trucks_kept only t standing ++ cond (not only || is_number_among t (trucks_of standing)) (t ∷ []) []
  kept_grown t =
      ap (filter (λ (n : ℕ). not only || is_number_among n (trucks_of standing))) (numbers_more t)
      ∙ filter-append (λ (n : ℕ). not only || is_number_among n (trucks_of standing)) (range_with_len 0 t) (t ∷ [])

  pub kept_more : (t : ℕ) (kept new : List ℕ) → kept ≡ trucks_kept only t standing → (not only || is_number_among t (trucks_of standing)) ≡ true → new ≡ kept ++ t ∷ [] → new ≡ trucks_kept only (t + 1) standing
  kept_more t kept new so goes pushed =
      pushed ∙ (ap (λ (l : List ℕ). l ++ t ∷ []) so ∙ (ap (λ (b : Bool). trucks_kept only t standing ++ cond b (t ∷ []) []) (sym goes) ∙ sym (kept_grown t)))

  pub kept_same : (t : ℕ) (kept : List ℕ) → kept ≡ trucks_kept only t standing → (not only || is_number_among t (trucks_of standing)) ≡ false → kept ≡ trucks_kept only (t + 1) standing
  kept_same t kept so stays =
      so ∙ (sym (append-nil (trucks_kept only t standing)) ∙ (ap (λ (b : Bool). trucks_kept only t standing ++ cond b (t ∷ []) []) (sym stays) ∙ sym (kept_grown t)))

pub order_more : (kept : List ℕ) (today : Day) (standing : List Standing) (i : ℕ) (p : Standing) (orders new : List Order) (o : Order) → i < length standing → p ≡ get_or standing i p
    → orders ≡ map (order_for kept today) (take i standing) → o ≡ order_for kept today p → new ≡ orders ++ o ∷ [] → new ≡ map (order_for kept today) (take (i + 1) standing)
order_more kept today standing i p orders new o within is so made pushed =
    let more : take (i + 1) standing ≡ take i standing ++ p ∷ [] = take_more standing i p within ∙ ap (λ (x : Standing). take i standing ++ x ∷ []) (sym is) in
    pushed ∙ (ap (λ (l : List Order). l ++ o ∷ []) so ∙ (ap (λ (x : Order). map (order_for kept today) (take i standing) ++ x ∷ []) made
    ∙ (sym (map_push (order_for kept today) (take i standing) p) ∙ ap (map (order_for kept today)) (sym more))))
