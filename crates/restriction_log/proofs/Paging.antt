-- Where an item of a list stands in its parts, and how a list is cut into parts.
use Rattle.std.proofs.Common.{◌≡◌, ◌+◌, ◌-◌, ◌*◌, ◌<◌, ◌≤◌, ◌∙◌, ◌∷◌, ◌++◌, [], ℕ, List, inl, inr, length, get_or, set, map, min, take, ap, sym, refl, subst, zero, suc, arith, mul-add, mul-one, mul-le-mul_left}
use Rattle.std.specs.List.{AllZip}
use Rattle.std.proofs.lemmas.Bool.{cases_lt}
use Rattle.std.proofs.lemmas.Grind.{flat_map-append}
use Rattle.std.proofs.lemmas.List.{append-nil, append_assoc, length-append, length-set, map-append, map-set, nil_from_length, set-append_left, set-append_right, take-append-le, take_all, take_more}
use Rattle.std.proofs.lemmas.List.Concat.{get_or-flat_map}
use Rattle.restriction_log.specs.Pages.{AreParts, items_in_parts}

-- lists that are the same by f, place by place
pub same_by : {X Y : Type 0} (f : X → Y) (xs ys : List X) → AllZip (λ x y. f y ≡ f x) xs ys → map f ys ≡ map f xs
same_by f [] [] all = refl
same_by f [] (y ∷ ys) all = absurd all
same_by f (x ∷ xs) [] all = absurd all
same_by f (x ∷ xs) (y ∷ ys) all = ap (λ z. z ∷ map f ys) all.0 ∙ ap (λ l. f x ∷ l) (same_by f xs ys all.1)

-- and with one of them replaced
pub set_shared : {X Y : Type 0} (f : X → Y) (xs ys zs : List X) (i : ℕ) (y : X) → AllZip (λ x y. f y ≡ f x) xs ys → zs ≡ set ys i y
    → map f zs ≡ set (map f xs) i (f y)
set_shared f xs ys zs i y all is = ap (map f) is ∙ (map-set f ys i y ∙ ap (λ l. set l i (f y)) (same_by f xs ys all))

-- with one more behind them
pub map_pushed : {X Y : Type 0} (f : X → Y) (old new : List X) (x : X) → new ≡ old ++ x ∷ [] → map f new ≡ map f old ++ f x ∷ []
map_pushed f old new x is = ap (map f) is ∙ map-append f old (x ∷ [])

module _ {T : Type 0} where
  joined_push : (parts : List (List T)) (part : List T) → items_in_parts (parts ++ part ∷ []) ≡ items_in_parts parts ++ part
  joined_push parts part = flat_map-append (λ p. p) parts (part ∷ []) ∙ ap (λ l. items_in_parts parts ++ l) (append-nil part)

  length-joined_push : (parts : List (List T)) (part : List T) → length (items_in_parts (parts ++ part ∷ [])) ≡ length (items_in_parts parts) + length part
  length-joined_push parts part = ap length (joined_push parts part) ∙ length-append (items_in_parts parts) part

  -- an item of a part is replaced
  joined_set : (parts : List (List T)) (k j : ℕ) (e part : List T) (y : T) → k < length parts → j < length (get_or parts k e)
      → part ≡ set (get_or parts k e) j y → items_in_parts (set parts k part) ≡ set (items_in_parts parts) (length (items_in_parts (take k parts)) + j) y
  joined_set [] k j e part y within inside same = absurd (omega (arith, within))
  joined_set (p ∷ ps) zero j e part y within inside same =
      let place : 0 + j ≡ j = omega arith in
      ap (λ l. l ++ items_in_parts ps) same ∙ (sym (set-append_left p (items_in_parts ps) j y inside) ∙ ap (λ i. set (p ++ items_in_parts ps) i y) (sym place))
  joined_set (p ∷ ps) (suc k) j e part y within inside same =
      let long = length-append p (items_in_parts (take k ps)) in
      let place : length (p ++ items_in_parts (take k ps)) + j - length p ≡ length (items_in_parts (take k ps)) + j = omega (arith, long) in
      let right = set-append_right p (items_in_parts ps) (length p) (length (p ++ items_in_parts (take k ps)) + j) y refl (omega (arith, long)) in
      ap (λ l. p ++ l) (joined_set ps k j e part y (omega (arith, within)) inside same ∙ ap (λ i. set (items_in_parts ps) i y) (sym place)) ∙ sym right

  -- a part is replaced by one that is as long
  length-joined_set : (parts : List (List T)) (k m : ℕ) (e part : List T) → k < length parts → length part ≡ length (get_or parts k e)
      → length (items_in_parts (take m (set parts k part))) ≡ length (items_in_parts (take m parts))
  length-joined_set [] k m e part within same = absurd (omega (arith, within))
  length-joined_set (p ∷ ps) zero zero e part within same = refl
  length-joined_set (p ∷ ps) zero (suc m) e part within same =
      omega (arith, same, length-append p (items_in_parts (take m ps)), length-append part (items_in_parts (take m ps)))
  length-joined_set (p ∷ ps) (suc k) zero e part within same = refl
  length-joined_set (p ∷ ps) (suc k) (suc m) e part within same =
      let rest = length-joined_set ps k m e part (omega (arith, within)) same in
      omega (arith, rest, length-append p (items_in_parts (take m ps)), length-append p (items_in_parts (take m (set ps k part))))

  -- parts of n items: item i is item j of part k, where i is n * k + j and j is below n
  module _ (n : ℕ) (parts : List (List T)) (are : AreParts n parts) (i k j : ℕ) (place : n * k + j ≡ i) (low : j < n) (within : i < length (items_in_parts parts)) where
    pub part_within : k < length parts
    part_within = elim (cases_lt k (length parts)) [
      | inl below ↦ below
      | inr above ↦ absurd (omega (arith, ap (λ l. length (items_in_parts l)) (take_all k parts above), are k, place, within))
    ]

    part_begins : length (items_in_parts (take k parts)) ≡ n * k
    part_begins = omega (arith, are k, place, within)

    pub item_within : (e : List T) → j < length (get_or parts k e)
    item_within e =
        let more = ap (λ l. length (items_in_parts l)) (take_more parts k e part_within) ∙ length-joined_push (take k parts) (get_or parts k e) in
        omega (arith, more, are (k + 1), mul-add n k 1, mul-one n, part_begins, place, low, within)

    -- what is read
    pub item_at : (e : List T) (d : T) → get_or (items_in_parts parts) i d ≡ get_or (get_or parts k e) j d
    item_at e d =
        let at : length (items_in_parts (take k parts)) + j ≡ i = omega (arith, part_begins, place) in
        ap (λ m. get_or (items_in_parts parts) m d) (sym at) ∙ get_or-flat_map (λ p. p) parts k j e d part_within (item_within e)

    -- what is written
    pub item_set : (e part : List T) (y : T) → part ≡ set (get_or parts k e) j y → items_in_parts (set parts k part) ≡ set (items_in_parts parts) i y
    item_set e part y same =
        let at : length (items_in_parts (take k parts)) + j ≡ i = omega (arith, part_begins, place) in
        joined_set parts k j e part y part_within (item_within e) same ∙ ap (λ m. set (items_in_parts parts) m y) at

    -- and they are still parts of n items
    pub still_parts : (e part : List T) (y : T) → part ≡ set (get_or parts k e) j y → AreParts n (set parts k part)
    still_parts e part y same m =
        let long : length part ≡ length (get_or parts k e) = ap length same ∙ length-set (get_or parts k e) j y in
        let all : length (items_in_parts (set parts k part)) ≡ length (items_in_parts parts) = ap length (item_set e part y same) ∙ length-set (items_in_parts parts) i y in
        length-joined_set parts k m e part part_within long ∙ (are m ∙ ap (min (n * m)) (sym all))

  -- one part more
  parts_push : (n : ℕ) (parts : List (List T)) (part : List T) → AreParts n parts → length (items_in_parts parts) ≡ n * length parts → length part ≤ n
      → AreParts n (parts ++ part ∷ [])
  parts_push n parts part are full fits k =
      let more = length-joined_push parts part in elim (cases_lt (length parts) k) [
        | inr early ↦ (
            let before = ap (λ l. length (items_in_parts l)) (take-append-le k parts (part ∷ []) early) in
            let below : n * k ≤ n * length parts = mul-le-mul_left n early in
            omega (arith, before, are k, below, full, more)
            )
        | inl past ↦ (
            let late : length parts + 1 ≤ k = omega (arith, past) in
            let whole = ap (λ l. length (items_in_parts l)) (take_all k (parts ++ part ∷ []) (omega (arith, late, length-append parts (part ∷ [])))) in
            let above : n * (length parts + 1) ≤ n * k = mul-le-mul_left n late in
            omega (arith, whole, above, mul-add n (length parts) 1, mul-one n, full, fits, more)
            )
      ]

  -- the parts so far and the rest are these items, and while there is a rest each part is full
  pub record IsCut (n : ℕ) (items : List T) (made : List (List T)) (rest : List T) : Type 0 where
    pub all : items_in_parts made ++ rest ≡ items
    pub parts : AreParts n made
    pub full : 0 < length rest → length (items_in_parts made) ≡ n * length made

  pub cut_none : (n : ℕ) (items : List T) → IsCut n items [] items
  cut_none n items = record {
    all = refl;
    parts = λ k. omega (arith, ap (λ (l : List (List T)). length (items_in_parts l)) (take_all k [] (omega arith)));
    full = λ some. omega arith;
  }

  -- one part more, which has what is cut off the rest
  pub cut_more : (n : ℕ) (items : List T) (parts more : List (List T)) (rest chunk part left : List T) → IsCut n items parts rest → 0 < length rest
      → rest ≡ chunk ++ left → length chunk ≡ min n (length rest) → part ≡ chunk → more ≡ parts ++ part ∷ [] → IsCut n items more left
  cut_more n items parts more rest chunk part left is some cut size same pushed =
      let full = is.full some in
      let lengths : length rest ≡ length part + length left = ap length cut ∙ (length-append chunk left ∙ ap (λ m. m + length left) (ap length (sym same))) in
      let long : length (parts ++ part ∷ []) ≡ length parts + 1 = length-append parts (part ∷ []) in
      let behind : items_in_parts parts ++ (part ++ left) ≡ items = ap (λ l. items_in_parts parts ++ (l ++ left)) same ∙ (ap (λ l. items_in_parts parts ++ l) (sym cut) ∙ is.all) in
      subst (λ l. IsCut n items l left) (sym pushed) (record {
        all = ap (λ l. l ++ left) (joined_push parts part) ∙ (append_assoc (items_in_parts parts) part left ∙ behind);
        parts = parts_push n parts part is.parts full (omega (arith, size, ap length same));
        full = λ more. length-joined_push parts part
            ∙ omega (arith, full, long, more, lengths, size, ap length same, ap (λ m. n * m) long, mul-add n (length parts) 1, mul-one n);
      })

  -- no rest
  pub cut_all : (n : ℕ) (items : List T) (parts : List (List T)) (rest : List T) → IsCut n items parts rest → length rest ≡ 0 → items_in_parts parts ≡ items
  cut_all n items parts rest is none = sym (append-nil (items_in_parts parts)) ∙ (ap (λ l. items_in_parts parts ++ l) (sym (nil_from_length rest none)) ∙ is.all)
