-- Which permits are left.
use Rattle.std.proofs.Common.{◌≡◌, ◌∙◌, ap, refl, sym, suc, ℕ, ◌<◌, ◌≤◌, List, [], ◌∷◌, ◌++◌, length, get_or, take, arith}
use Rattle.std.proofs.lemmas.List.{append-nil, length-append}
use Rattle.std.proofs.Math.Seq.{get_or-append_seam, take-length}
use Rattle.office_core.specs.Happened.{History, Numbers}
use Rattle.office_core.specs.Offices.{Opened}
use Rattle.reroute_desk.specs.Issues.{recalled_in}
use Rattle.reroute_desk.specs.declared.handled.Handled.{Handled}
use Rattle.reroute_desk.specs.Desks.{AreFirst, Desk, HasHandledAll, IsNext, olds_of}
use Rattle.reroute_desk.specs.Notes.{AreNotes, Noted}

olds_many : (items : List Handled) → length (olds_of items) ≡ length items
olds_many [] = refl
olds_many (h ∷ items) = ap suc (olds_many items)

-- the number behind some others
-- the first that is left stands behind as many as were handled
pub next_left : (desk : Desk) (o : Opened) (recalled : Numbers) (at : ℕ) → (left : Numbers) × AreFirst desk.handled o.history left → recalled ≡ recalled_in o.history → length desk.handled ≡ at → at < length recalled → IsNext desk o (get_or recalled at 0)
next_left desk o recalled at ([], first) same many less = absurd (omega (arith, less, many, olds_many desk.handled, ap length (same ∙ (first ∙ append-nil (olds_of desk.handled)))))
next_left desk o recalled at (x ∷ rest, first) same many less =
    let here : get_or recalled at 0 ≡ x =
    ap (λ (l : List ℕ). get_or l at 0) (same ∙ first)
    ∙ (ap (λ (k : ℕ). get_or (olds_of desk.handled ++ x ∷ rest) k 0) (sym (olds_many desk.handled ∙ many))
    ∙ get_or-append_seam (olds_of desk.handled) x rest 0) in
    (rest, first ∙ ap (λ (n : ℕ). olds_of desk.handled ++ n ∷ rest) (sym here))

-- none is left behind as many as were recalled
pub all_handled : (desk : Desk) (o : Opened) (recalled : Numbers) → (left : Numbers) × AreFirst desk.handled o.history left → recalled ≡ recalled_in o.history → length recalled ≤ length desk.handled → HasHandledAll desk o
all_handled desk o recalled ([], first) same less = sym (first ∙ append-nil (olds_of desk.handled))
all_handled desk o recalled (x ∷ rest, first) same less = absurd (omega (arith, less, olds_many desk.handled, ap length (same ∙ first), length-append (olds_of desk.handled) (x ∷ rest)))

-- notes of a whole history
pub read_whole : (notes : Noted) (es : History) → AreNotes notes es → notes.read ≡ length es → notes.recalled ≡ recalled_in es
read_whole notes es are whole = are.recalled ∙ ap recalled_in (ap (λ (k : ℕ). take k es) whole ∙ take-length es)
