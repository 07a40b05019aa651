-- What objects write of the recalls that they are told, for those who read it.
use Rattle.std.specs.Prelude.{◌≡◌, ℕ, List, [], ◌∷◌, ◌++◌, codes, drop, length, take, Option, Some, slice_get}
use Rattle.std.specs.List.{flat_map, slice_range}
use Rattle.std.specs.Fmt.{decimal}
use Rattle.std.specs.Io.KnownBytes.{Appends}
use Rattle.notice_desk.specs.declared.notice.Recall.{Recall}
use Rattle.notice_desk.specs.Notices.{recalls_for}
use Rattle.notice_desk.specs.Standings.{At, Standing}

-- the line of a recall: `recall PERMIT VERSION` and a line feed, both numbers in decimal
unfoldable pub recall_line : Recall → List ℕ
recall_line recall = codes "recall " ++ (decimal recall.permit ++ (32 ∷ (decimal recall.version ++ (10 ∷ []))))

-- the lines of some recalls, in order
abbrev pub recall_lines : List Recall → List ℕ
recall_lines recalls = flat_map recall_line recalls

-- a text grew by a front of these bytes
abbrev pub AppendsFront : Option (List ℕ) → Option (List ℕ) → List ℕ → Type 0
AppendsFront old new bytes = (count : ℕ) × Appends old new (take count bytes)

-- the texts of all objects, where they tell them, in the order of their subscribers
abbrev pub Texts : Type 0
Texts = List (Option (List ℕ))

-- the lines that a subscriber lacks: of the recalls that are its own, from its old place on
abbrev pub lines_for : List Recall → Standing → List ℕ
lines_for recalls s = recall_lines (recalls_for s.whom (drop s.passed recalls))

-- The text of each of these subscribers grew by just the lines that it lacked, and the texts behind theirs are as they were.
abbrev pub EachWrote : List Standing → List Recall → Texts → Texts → Type 0
EachWrote [] recalls texts now = now ≡ texts
EachWrote (s ∷ ss) recalls (text ∷ texts) (grown ∷ now) = Appends text grown (lines_for recalls s) × EachWrote ss recalls texts now
EachWrote (s ∷ ss) recalls texts now = ⊥

-- The text of the subscriber whose object failed grew by the lines of what it was told, and by a front of the line of the
-- recall at which the object failed.
pub record WroteUntil (recalls : List Recall) (before after : Standing) (old new : Option (List ℕ)) : Type 0 where
  pub failed : Recall
  pub at : slice_get recalls after.passed ≡ Some failed
  pub count : ℕ
  pub wrote : Appends old new
      (recall_lines (recalls_for before.whom (slice_range recalls before.passed after.passed)) ++ take count (recall_line failed))

-- What was written where a delivery stopped at the subscriber of this place: those before it as where it is done, that one
-- until its object failed, and those after it nothing.
pub record WroteUntilAt (place : ℕ) (before : List Standing) (recalls : List Recall) (after : List Standing)
    (texts now : Texts) : Type 0 where
  pub front : Texts
  pub grown : Texts
  pub old : Option (List ℕ)
  pub new : Option (List ℕ)
  pub back : Texts
  pub were : texts ≡ front ++ old ∷ back
  pub are : now ≡ grown ++ new ∷ back
  pub is_at : length front ≡ place
  pub done : EachWrote (take place before) recalls front grown
  pub last : At before place (λ found. At after place (λ left. WroteUntil recalls found left old new))
