-- What the rule says once all passes were joined.
use Rattle.std.proofs.Common.{◌≤◌, ◌≡◌, ℕ, ◌+◌, ◌<◌, ◌≢◌, true, false, List, Option, Some, length, get_or, sym, ap, ◌∙◌, subst, arith}
use mathlib.Core.Option.{some}
use mathlib.Core.Logic.{dite}
use native.Mathlib.Decide.{ℕ_discrete, dec_le}
use lib.ListN.{get_elem?}
use Rattle.atomic_table.specs.Table.{State, Me}
use Rattle.office_turn.specs.declared.view.View.{View}
use Rattle.office_turn.specs.declared.view.Receipt.{Receipt}
use Rattle.office_turn.specs.Rule.{Turned}
use Rattle.office_turn.specs.Story.{StartsWith, entries_of}
use Rattle.office_turn.proofs.Cases.{bool_cases, some_not_none}
use Rattle.office_turn.proofs.Places.{one_at, some_at, within, read_at}
use Rattle.office_turn.proofs.Seats.{two_live}
use Rattle.office_turn.proofs.Entries.{heard_of}
use Rattle.std.specs.Prelude.{All, Any}
use Rattle.std.proofs.lemmas.List.{get_or_default}
use Rattle.atomic_table.specs.declared.shared.Seat.{Seat}
use Rattle.atomic_table.proofs.Lists.{at_index}
use Rattle.office_turn.specs.Told.{HasReceipt, Rooted, rooted}

-- the item at a place within the list
item_at : {A : Type 0} (l : List A) (k : ℕ) (d : A) → k < length l → get_elem? l k ≡ some (get_or l k d)
item_at l k d near = at_index l k (get_or l k d) near (get_or_default l k d (get_or l k d) near)

all_of : {A : Type 0} (P : A → Type 0) (l : List A) → ((k : ℕ) (a : A) → get_elem? l k ≡ some a → P a) → All P l
all_of P l each k d near = each k (get_or l k d) (item_at l k d near)

any_of : {A : Type 0} (P : A → Type 0) (l : List A) (k : ℕ) (a : A) → get_elem? l k ≡ some a → P a → Any P l
any_of P l k a there p = (k, a, within l k a there, read_at l k a a there, p)

-- the value at the end, beside the root that closes: the receipts account for every entry
pub record Accounts {V E T : Type 0} (caller : E → ℕ) (story : V → List E) (terms : V → T) (root : Rooted E T) (x : V) : Type 0 where
  pub terms_stay : Some (terms x) ≡ root.lock.terms
  pub seen : StartsWith (story x) root.seen
  pub own : All (λ r. entries_of caller r.number (story x) ≡ r.own) root.receipts
  pub room : length (story x) ≤ root.lock.most
  pub callers : All (λ e. caller e < root.admitted) (story x)
  pub others : All (λ e. HasReceipt root.receipts (caller e)) (story x)
  pub worn : All (λ r. r.worn ≡ true → length (story x) ≡ root.lock.most) root.receipts

pub accounts_of : {V E T : Type 0} (caller : E → ℕ) (story : V → List E) (terms : V → T) (root root₂ : Rooted E T) (x y : V) → root ≡ root₂ → x ≡ y → Accounts caller story terms root x → Accounts caller story terms root₂ y
accounts_of {V} {E} {T} caller story terms root root₂ x y same is a = subst (λ (z : Rooted E T × V). Accounts caller story terms z.0 z.1) (λ i. (same i, is i)) a

module _ {V E T : Type 0} (caller : E → ℕ) (story : V → List E) (terms : V → T) (first : T) (most : ℕ) where
  abbrev Known : Type 0
  Known = View E T

  abbrev Whole : Type 0
  Whole = State (Option V) Known

  abbrev Mine : Type 0
  Mine = Me (Option V) Known

  abbrev Rule : Whole → Type 0
  Rule = Turned caller story terms first most

  pub closes : (s : Whole) (r : Rule s) (seat : Seat (Option V) Known) → get_elem? s.views seat.id ≡ some seat.me.0 → seat.me.0.is_spent ≡ false → seat.me.0.is_root ≡ true → length seat.me.0.receipts ≡ seat.me.0.admitted
      → (x : V) × (get_elem? s.homes 0 ≡ some (some (Some x))) × Accounts caller story terms (rooted seat) x
  closes s r seat at live root all_in = let v : Known = seat.me.0 in let id : ℕ = seat.id in let f = r.fits id v at live in let is_root = f.root root in
      let alone : (j : ℕ) (u : Known) → get_elem? s.views j ≡ some u → j ≢ id → u.is_spent ≡ false → ⊥ = λ j u there far alive. absurd (omega (arith, two_live s.views j id u v far there at alive live, r.numbers.places, r.numbers.tally, ap {B = ℕ} length is_root.3, is_root.2, all_in)) in
      let home : r.moment.home ≡ true = bool_cases r.moment.home (λ e. e) (λ away. let o = r.out away in let g = r.fits o.0 o.1 o.2 o.4 in absurd (alone o.0 o.1 o.2
      (λ e. some_not_none r.moment.serving (sym (g.looked o.3).0 ∙ (ap (λ (z : Known). z.ticket) (sym (one_at s.views id o.0 v o.1 at o.2 (sym e))) ∙ is_root.1))) o.4)) in
      let t = r.at_home home in let x : V = t.0 in
      let served : r.moment.serving ≡ r.moment.next = dite (ℕ_discrete r.moment.serving r.moment.next) (λ e. e) (λ ne. let low = r.tickets.ordered in let h = r.tickets.waiting r.moment.serving (omega arith) (omega arith) in
      absurd (bool_cases h.1.is_spent (λ e. some_not_none r.moment.serving (sym h.3 ∙ (r.numbers.blank h.0 h.1 h.2 e).0))
      (λ e. alone h.0 h.1 h.2 (λ same. some_not_none r.moment.serving (sym h.3 ∙ (ap (λ (z : Known). z.ticket) (sym (one_at s.views id h.0 v h.1 at h.2 (sym same))) ∙ is_root.1))) e))) in
      let same_receipts : (i : ℕ) (y : Receipt E) → get_elem? v.receipts i ≡ some y → get_elem? r.moment.receipts i ≡ some y = λ i y there. ap (λ l. get_elem? l i) (sym is_root.3) ∙ there in
      let low : (k : ℕ) (e : E) → get_elem? (story x) k ≡ some e → caller e < r.moment.admitted = λ k e there.
      dite (dec_le r.moment.admitted (caller e)) (λ far. absurd (heard_of caller r.moment.history k e (ap (λ l. get_elem? l k) (sym t.3) ∙ there) (r.unheard (caller e) far))) (λ near. omega arith) in (
        x,
        t.1,
        record {
          terms_stay = ap (λ (y : T). Some y) (t.2 ∙ sym r.terms_are) ∙ sym f.terms;
          seen = (f.seen.0, t.3 ∙ f.seen.1);
          own = all_of (λ y. entries_of caller y.number (story x) ≡ y.own) v.receipts (λ i y there. ap (entries_of caller y.number) t.3 ∙ sym (r.receipts i y (same_receipts i y there)).own);
          room = omega (arith, ap {B = ℕ} length t.3, r.count, r.tickets.ordered, r.bounded, f.most, r.most_is);
          callers = all_of (λ e. caller e < v.admitted) (story x) (λ k e there. omega (arith, low k e there, is_root.2));
          others = all_of (λ e. HasReceipt v.receipts (caller e)) (story x) (λ k e there.
              let u = some_at s.views (caller e + 1) (omega (arith, r.numbers.places, low k e there)) in
              let gone : u.0.is_spent ≡ true = bool_cases u.0.is_spent (λ e. e) (λ alive. absurd (alone (caller e + 1) u.0 u.1 (λ same. absurd (omega (arith, is_root.0))) alive)) in
              let h = r.numbers.heard (caller e + 1) u.0 u.1 gone in any_of (λ y. caller e ≡ y.number) v.receipts h.0 h.1 (ap (λ l. get_elem? l h.0) is_root.3 ∙ h.2) (omega (arith, h.3)));
          worn = all_of (λ y. y.worn ≡ true → length (story x) ≡ v.most) v.receipts (λ i y there is_worn. ap {B = ℕ} length t.3 ∙ (r.count ∙ (served ∙ ((r.receipts i y (same_receipts i y there)).worn is_worn ∙ sym f.most))));
        },
      )
