-- Fronts of whole histories, and commands that are finished.
use Rattle.std.proofs.Common.{◌≡◌, ◌<◌, ◌≤◌, ◌+◌, ◌++◌, ◌∷◌, [], List, ℕ, eqb, filter, map, take, drop, ap, sym, subst, refl, ◌∙◌, append_assoc, append-nil, take-append-drop, arith, inl, inr, ◌⊎◌}
use Rattle.std.proofs.lemmas.Bool.{cases_lt}
use Rattle.std.proofs.lemmas.List.{map-append, take-take}
use Rattle.std.proofs.lemmas.List.Elements.{filter-append}
use Rattle.office_words.specs.declared.entry.Command.{Command}
use Rattle.office_words.specs.declared.entry.Entry.{Entry}
use Rattle.office_core.specs.Machine.{entries_by}
use Rattle.analyst_pool.specs.Unfolds.{AreFinished}
use Rattle.day_text.specs.Scripts.{script_of}
use Rattle.day_text.specs.declared.orders.Order.{Order}
use Rattle.journal_whole.specs.declared.wholeness.Wholeness.TheVariants.{Lacks, Strays, Whole}
use Rattle.journal_whole.specs.Wholes.{HasFinished, IsFirstLacking, IsFirstStray, IsFront, IsWhole, WholenessIsOne}

pub script_append : (i : ℕ) (xs ys : List Order) → script_of i (xs ++ ys) ≡ script_of i xs ++ script_of i ys
script_append i xs ys =
    ap (map (λ (o : Order). o.command)) (filter-append (λ (o : Order). eqb o.actor i) xs ys)
    ∙ map-append (λ (o : Order). o.command) (filter (λ o. eqb o.actor i) xs) (filter (λ o. eqb o.actor i) ys)

-- a script is that of some orders, and that of those behind them
pub script_parts : (i n : ℕ) (orders : List Order) → script_of i orders ≡ script_of i (take n orders) ++ script_of i (drop n orders)
script_parts i n orders = ap (script_of i) (sym (take-append-drop n orders)) ∙ script_append i (take n orders) (drop n orders)

-- finished commands are so many of them, and those behind them
finished_parts : (caller : ℕ) (cs ds : List Command) (es : List Entry) → AreFinished caller (cs ++ ds) es
    → (front : List Entry) × (back : List Entry) × AreFinished caller cs front × AreFinished caller ds back × (es ≡ front ++ back)
finished_parts caller [] ds es h = ([], es, refl, h, refl)
finished_parts caller (c ∷ cs) ds es (front, back, one, rest, is) = let parts = finished_parts caller cs ds back rest in
    (front ++ parts.0, parts.1, (front, parts.0, one, parts.2, refl), parts.3, is ∙ (ap (λ l. front ++ l) parts.4 ∙ sym (append_assoc front parts.0 parts.1)))

-- the entries of an actor begin with those of its finished commands
abbrev pub HasDone : ℕ → List Order → List Entry → Type 0
HasDone actor orders es = (front : List Entry) × (back : List Entry) × AreFinished actor (script_of actor orders) front × (es ≡ front ++ back)

pub done_less : (actor n : ℕ) (orders : List Order) (es : List Entry) → HasDone actor orders es → HasDone actor (take n orders) es
done_less actor n orders es (front, back, finished, is) =
    let parts = finished_parts actor (script_of actor (take n orders)) (script_of actor (drop n orders)) front
    (subst (λ (cs : List Command). AreFinished actor cs front) (script_parts actor n orders) finished) in
    (parts.0, parts.1 ++ back, parts.2, is ∙ (ap (λ l. l ++ back) parts.4 ∙ append_assoc parts.0 parts.1 back))

module _ (actors : ℕ) (orders : List Order) (es : List Entry) where
  -- the front of a front is a front
  front_less : (n : ℕ) → IsFront actors orders es → IsFront actors orders (take n es)
  front_less n (more, whole) =
      (drop n es ++ more, subst (IsWhole actors orders) (ap (λ l. l ++ more) (sym (take-append-drop n es)) ∙ append_assoc (take n es) (drop n es) more) whole)

  whole_front : IsWhole actors orders es → IsFront actors orders es
  whole_front whole = ([], subst (IsWhole actors orders) (sym (append-nil es)) whole)

  has_less : (n : ℕ) → HasFinished actors orders es → HasFinished actors (take n orders) es
  has_less n h actor near = done_less actor n orders (entries_by actor es) (h actor near)

  whole_has : IsWhole actors orders es → HasFinished actors orders es
  whole_has whole actor near = (entries_by actor es, [], whole.commands actor near, sym (append-nil (entries_by actor es)))

-- of two numbers with such a fact, of which none is below the other, there is one
one_place : (P : ℕ → Type 0) → ((m n : ℕ) → P m → P n → m < n → ⊥) → (m n : ℕ) → P m → P n → m ≡ n
one_place P less m n one other = by (cases_lt m n) (cases_lt n m)
  where
    by : (m < n) ⊎ (n ≤ m) → (n < m) ⊎ (m ≤ n) → m ≡ n
    by (inl lt) other_way = absurd (less m n one other lt)
    by (inr le) (inl gt) = absurd (less n m other one gt)
    by (inr le) (inr ge) = omega (arith, le, ge)

module _ (actors : ℕ) (orders : List Order) (es : List Entry) where
  no_stray_before : (m n : ℕ) → IsFirstStray actors orders es m → IsFirstStray actors orders es n → m < n → ⊥
  no_stray_before m n one other lt =
      one.strays (subst (IsFront actors orders) (take-take (m + 1) n es (omega (arith, lt))) (front_less actors orders (take n es) (m + 1) other.before))

  none_lacks_before : (m n : ℕ) → IsFirstLacking actors orders es m → IsFirstLacking actors orders es n → m < n → ⊥
  none_lacks_before m n one other lt =
      one.lacks (subst (λ (os : List Order). HasFinished actors os es) (take-take (m + 1) n orders (omega (arith, lt))) (has_less actors (take n orders) es (m + 1) other.before))

pub wholeness_one : WholenessIsOne
wholeness_one actors orders es Whole Whole v w = refl
wholeness_one actors orders es Whole (Strays n) v w = absurd (w.strays (front_less actors orders es (n + 1) (whole_front actors orders es v)))
wholeness_one actors orders es Whole (Lacks k) v w = absurd (w.lacks (has_less actors orders es (k + 1) (whole_has actors orders es v)))
wholeness_one actors orders es (Strays m) Whole v w = absurd (v.strays (front_less actors orders es (m + 1) (whole_front actors orders es w)))
wholeness_one actors orders es (Strays m) (Strays n) v w = ap Strays (one_place (IsFirstStray actors orders es) (no_stray_before actors orders es) m n v w)
wholeness_one actors orders es (Strays m) (Lacks k) v w = absurd (v.strays (front_less actors orders es (m + 1) w.front))
wholeness_one actors orders es (Lacks j) Whole v w = absurd (v.lacks (has_less actors orders es (j + 1) (whole_has actors orders es w)))
wholeness_one actors orders es (Lacks j) (Strays n) v w = absurd (w.strays (front_less actors orders es (n + 1) v.front))
wholeness_one actors orders es (Lacks j) (Lacks k) v w = ap Lacks (one_place (IsFirstLacking actors orders es) (none_lacks_before actors orders es) j k v w)
