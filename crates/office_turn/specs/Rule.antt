-- The rule of the lock's table, which every step keeps.
use Rattle.std.specs.Prelude.{◌≡◌, ℕ, ◌+◌, ◌<◌, ◌≤◌, Bool, true, false, List, [], ◌∷◌, Option, Some, None, length}
use mathlib.Core.Option.{some}
use lib.ListN.{get_elem?}
use Rattle.atomic_table.specs.Table.{State}
use Rattle.office_turn.specs.declared.view.View.{View}
use Rattle.office_turn.specs.declared.view.Receipt.{Receipt}
use Rattle.office_turn.specs.Story.{entries_of, StartsWith}

-- what the whole lock has at one moment: both words, the story so far, the root's count and receipts, and whether the value is at home
pub record Moment (E T : Type 0) : Type 0 where
  pub next : ℕ
  pub serving : ℕ
  pub history : List E
  pub admitted : ℕ
  pub receipts : List (Receipt E)
  pub home : Bool
  pub terms : T
  pub most : ℕ

module _ {E T : Type 0} (caller : E → ℕ) (m : Moment E T) where
  -- what a view says at the place j, where it is not spent. The root is at the place 0, and the pass n at the place n + 1, so numbers differ.
  pub record Fits (j : ℕ) (v : View E T) : Type 0 where
    -- all views have the same terms and the same most
    pub terms : v.terms ≡ Some m.terms
    pub most : v.most ≡ m.most
    -- what was seen is the front of the history
    pub seen : StartsWith m.history v.seen
    pub passed_over : StartsWith m.history v.passed_over
    -- the root has no ticket, and it has the count of passes admitted and the list of receipts
    pub root : v.is_root ≡ true → (j ≡ 0) × (v.ticket ≡ None) × (v.admitted ≡ m.admitted) × (v.receipts ≡ m.receipts)
    pub number : v.is_root ≡ false → j ≡ v.number + 1
    -- the own entries are those of the number in the history
    pub own : v.is_root ≡ false → v.own ≡ entries_of caller v.number m.history
    -- who has looked has the ticket now served and has seen the whole history, and the slot is out
    pub looked : v.looked ≡ true → (v.ticket ≡ Some m.serving) × (v.seen ≡ m.history) × (m.home ≡ false)
    -- a mark says that all tickets have been drawn
    pub worn : v.worn ≡ true → m.next ≡ m.most

  -- what a receipt says
  pub record FitsReceipt (r : Receipt E) : Type 0 where
    pub number : r.number < m.admitted
    pub own : r.own ≡ entries_of caller r.number m.history
    pub worn : r.worn ≡ true → m.next ≡ m.most

-- a view that is spent has no ticket and has not looked
abbrev pub IsBlank : {E T : Type 0} → View E T → Type 0
IsBlank v = (v.ticket ≡ None) × (v.looked ≡ false)

abbrev pub one_if : Bool → ℕ
one_if true = 1
one_if false = 0

-- how many views are spent
abbrev pub spent_count : {E T : Type 0} → List (View E T) → ℕ
spent_count [] = 0
spent_count (v ∷ vs) = one_if v.is_spent + spent_count vs

-- one: now serving is at most next ticket, each ticket from the one to the other is in exactly one view, and no view has another
pub record Tickets {E T : Type 0} (serving next : ℕ) (views : List (View E T)) : Type 0 where
  pub ordered : serving ≤ next
  pub drawn : (j : ℕ) (v : View E T) (k : ℕ) → get_elem? views j ≡ some v → v.ticket ≡ Some k → (serving ≤ k) × (k < next)
  pub once : (i j : ℕ) (v w : View E T) (k : ℕ) → get_elem? views i ≡ some v → get_elem? views j ≡ some w → v.ticket ≡ Some k → w.ticket ≡ Some k → i ≡ j
  pub waiting : (k : ℕ) → serving ≤ k → k < next → (j : ℕ) × (v : View E T) × (get_elem? views j ≡ some v) × (v.ticket ≡ Some k)

-- six: each number below the count of passes admitted is that of one view that is not spent, or of one receipt, and there are as many receipts as spent views
pub record HaveNumbers {E T : Type 0} (admitted : ℕ) (receipts : List (Receipt E)) (views : List (View E T)) : Type 0 where
  pub places : length views ≡ admitted + 1
  pub blank : (j : ℕ) (v : View E T) → get_elem? views j ≡ some v → v.is_spent ≡ true → IsBlank v
  pub gone : (i : ℕ) (r : Receipt E) → get_elem? receipts i ≡ some r → (v : View E T) × (get_elem? views (r.number + 1) ≡ some v) × (v.is_spent ≡ true)
  pub heard : (j : ℕ) (v : View E T) → get_elem? views j ≡ some v → v.is_spent ≡ true → (i : ℕ) × (r : Receipt E) × (get_elem? receipts i ≡ some r) × (j ≡ r.number + 1)
  pub tally : length receipts ≡ spent_count views

-- the rule: the table is as it is at some moment
pub record Turned {V E T : Type 0} (caller : E → ℕ) (story : V → List E) (terms : V → T) (first : T) (most : ℕ) (s : State (Option V) (View E T)) : Type 0 where
  pub moment : Moment E T
  -- the words behind the first two, of which nothing is said
  pub bells : List ℕ
  pub words : s.words ≡ moment.next ∷ moment.serving ∷ bells
  pub slots : length s.homes ≡ 1
  pub terms_are : moment.terms ≡ first
  pub most_is : moment.most ≡ most
  -- one, with next ticket at most `most`
  pub bounded : moment.next ≤ most
  pub tickets : Tickets moment.serving moment.next s.views
  -- two: at home the slot has a value with the terms of the start, whose story is the history. The history has as many entries as now serving.
  pub count : length moment.history ≡ moment.serving
  pub at_home : moment.home ≡ true → (x : V) × (get_elem? s.homes 0 ≡ some (some (Some x))) × (terms x ≡ first) × (story x ≡ moment.history)
  -- three: otherwise it is out with one who has looked. That there is no other follows from `once` and `Fits.looked`.
  pub out : moment.home ≡ false → (j : ℕ) × (v : View E T) × (get_elem? s.views j ≡ some v) × (v.looked ≡ true) × (v.is_spent ≡ false)
  -- four and five: what the views and the receipts say. Numbers from the count of passes admitted on have no entries.
  pub fits : (j : ℕ) (v : View E T) → get_elem? s.views j ≡ some v → v.is_spent ≡ false → Fits caller moment j v
  pub receipts : (i : ℕ) (r : Receipt E) → get_elem? moment.receipts i ≡ some r → FitsReceipt caller moment r
  pub unheard : (n : ℕ) → moment.admitted ≤ n → entries_of caller n moment.history ≡ []
  -- six
  pub numbers : HaveNumbers moment.admitted moment.receipts s.views

-- the view of the first seat, which is the root's
abbrev pub opening_view : {E T : Type 0} → T → ℕ → View E T
opening_view terms most = record { is_root = true; is_spent = false; number = 0; ticket = None; looked = false; worn = false; seen = []; own = []; admitted = 0; receipts = []; passed_over = []; most = most; terms = Some terms }
