-- What each step does to the view of the seat that makes it, and what it tells: of the step, the seat before, the number found and the seat after.
use Rattle.std.specs.Prelude.{◌≡◌, ◌≢◌, ℕ, ◌+◌, ◌<◌, ◌≤◌, true, false, List, [], ◌∷◌, ◌++◌, Option, Some, None, length, drop}
use Rattle.atomic_table.specs.Table.{Me, Step, rest}
use Rattle.office_turn.specs.declared.view.View.{View}
use Rattle.office_turn.specs.declared.view.Receipt.{Receipt}
use Rattle.office_turn.specs.Story.{entries_of, StartsWith, longer_of, shorter_of}

module _ {E T : Type 0} where
  abbrev pub with_ticket : View E T → ℕ → View E T
  with_ticket v ticket = record v { ticket = Some ticket }

  abbrev pub with_worn : View E T → View E T
  with_worn v = record v { worn = true }

  -- the seat has found its ticket served, and the value's story
  abbrev pub with_story : View E T → List E → View E T
  with_story v story = record v { looked = true; seen = story }

  -- the story goes on from what the seat has seen, and what is new in it is the seat's own
  abbrev pub after_passing : View E T → List E → View E T
  after_passing v story = record v { ticket = None; looked = false; seen = story; own = v.own ++ drop (length v.seen) story }

  -- the root, which has one more admitted
  abbrev pub after_admitting : View E T → View E T
  after_admitting v = record v { admitted = v.admitted + 1 }

  -- the new pass: its number is the count admitted before, and it has seen what the root has seen
  abbrev pub newcomer : View E T → View E T
  newcomer v = record { is_root = false; is_spent = false; number = v.admitted; ticket = None; looked = false; worn = false; seen = v.seen; own = []; admitted = 0; receipts = []; passed_over = []; most = v.most; terms = v.terms }

  abbrev pub receipt_of : View E T → Receipt E
  receipt_of v = record { number = v.number; own = v.own; worn = v.worn }

  -- the root, which has one receipt more and the longer of what the two have seen
  abbrev pub after_receiving : View E T → View E T → View E T
  after_receiving v w = record v { seen = longer_of v.seen w.seen; passed_over = shorter_of v.seen w.seen; receipts = v.receipts ++ receipt_of w ∷ [] }

  abbrev pub spent : View E T
  spent = record { is_root = false; is_spent = true; number = 0; ticket = None; looked = false; worn = false; seen = []; own = []; admitted = 0; receipts = []; passed_over = []; most = 0; terms = None }

  -- where all tickets have been drawn, the seat is marked. Where not, it was not marked before.
  abbrev pub marked_worn : {S : Type 0} → Step S → Me S (View E T) → ℕ → Me S (View E T) → Type 0
  marked_worn st m found n = (found ≡ m.0.most → n ≡ (with_worn m.0, m.1)) × (found ≢ m.0.most → (found < m.0.most) × (m.0.worn ≡ false) × (n ≡ m))

  -- where the next ticket is still the one that was looked at, the seat has it
  abbrev pub drew : {S : Type 0} → Step S → Me S (View E T) → ℕ → Me S (View E T) → Type 0
  drew st m found n = (found ≡ st.first → n ≡ (with_ticket m.0 found, m.1)) × (found ≢ st.first → n ≡ m)

  -- the seat stays as it was
  abbrev pub stayed : {S : Type 0} → Step S → Me S (View E T) → ℕ → Me S (View E T) → Type 0
  stayed st m found n = n ≡ m

  -- there are no more receipts than passes admitted, and the shorter list is the front of the longer
  abbrev pub tallied : {S : Type 0} → Step S → Me S (View E T) → ℕ → Me S (View E T) → Type 0
  tallied st m found n = (n ≡ m) × (length m.0.receipts ≤ m.0.admitted) × (length m.0.passed_over ≤ length m.0.seen → StartsWith m.0.seen m.0.passed_over)

module _ {V E T : Type 0} (caller : E → ℕ) (story : V → List E) (terms : V → T) where
  -- the value that the seat with the ticket k finds: its story goes on from what the seat has seen and has as many entries as tickets were served, the seat's own entries are those of its number, and the terms are those of the start
  pub record IsValueFound (m : Me (Option V) (View E T)) (k : ℕ) (x : V) : Type 0 where
    pub extends : StartsWith (story x) m.0.seen
    pub served : length (story x) ≡ k
    pub room : k < m.0.most
    pub own : entries_of caller m.0.number (story x) ≡ m.0.own
    pub terms_stay : Some (terms x) ≡ m.0.terms

  -- where the ticket now served is the seat's, it has taken the slot. Where not, the seat's is a later one.
  abbrev pub looked : Step (Option V) → Me (Option V) (View E T) → ℕ → Me (Option V) (View E T) → Type 0
  looked st m found n = (k : ℕ) → m.0.ticket ≡ Some k → (found ≡ k → (x : V) × (n ≡ (with_story m.0 (story x), (0, Some x) ∷ m.1)) × IsValueFound m k x) × (found ≢ k → (found < k) × (n ≡ m))

module _ {V E T : Type 0} (caller : E → ℕ) (story : V → List E) where
  -- a ticket below the most was served, the slot is given back, and the seat has seen the value's story, in which the entries of its number are its own
  abbrev pub passed : Step (Option V) → Me (Option V) (View E T) → ℕ → Me (Option V) (View E T) → Type 0
  passed st m found n = (x : V) → m.1 ≡ (0, Some x) ∷ rest m.1 → (found < m.0.most) × (n ≡ (after_passing m.0 (story x), rest m.1)) × (entries_of caller m.0.number (story x) ≡ (after_passing m.0 (story x)).own)
