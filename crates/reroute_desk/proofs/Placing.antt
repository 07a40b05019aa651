-- The entries of a caller, and the permits that were applied for again, where one comes behind the others.
use Rattle.std.proofs.Common.{◌≡◌, ◌∙◌, ap, sym, ℕ, List, [], ◌∷◌, ◌++◌, Bool, true, false, cond, filter, append_assoc, Option, None, Some, is_some}
use Rattle.std.proofs.lemmas.List.{append-nil}
use Rattle.std.proofs.lemmas.List.Elements.{filter-append}
use Rattle.office_words.specs.declared.entry.Entry.{Entry}
use Rattle.office_words.specs.declared.entry.Reply.{Reply}
use Rattle.office_core.specs.Happened.{Day, History}
use Rattle.reroute_desk.specs.declared.handled.Handled.{Handled}
use Rattle.reroute_desk.specs.Desks.{AskAgain, AsksAgain, Placed, answered_by, is_answered, kept_reply, placed_behind, renewals}

abbrev at_end : History → Entry → Placed
at_end front e = record { front = front; entry = e }

placed_more : (front es : History) (e : Entry) → placed_behind front (es ++ e ∷ []) ≡ placed_behind front es ++ at_end (front ++ es) e ∷ []
placed_more front [] e = ap (λ l. at_end l e ∷ []) (sym (append-nil front))
placed_more front (f ∷ fs) e =
    ap (λ l. at_end front f ∷ l) (placed_more (front ++ f ∷ []) fs e
    ∙ ap (λ l. placed_behind (front ++ f ∷ []) fs ++ at_end l e ∷ []) (append_assoc front (f ∷ []) fs))

-- a filter of a list with one element more
pub filter_in : {A : Type 0} (p : A → Bool) (xs : List A) (x : A) → p x ≡ true → filter p (xs ++ x ∷ []) ≡ filter p xs ++ x ∷ []
filter_in p xs x e = filter-append p xs (x ∷ []) ∙ ap (λ (b : Bool). filter p xs ++ cond b (x ∷ []) []) e

pub filter_out : {A : Type 0} (p : A → Bool) (xs : List A) (x : A) → p x ≡ false → filter p (xs ++ x ∷ []) ≡ filter p xs
filter_out p xs x e = filter-append p xs (x ∷ []) ∙ (ap (λ (b : Bool). filter p xs ++ cond b (x ∷ []) []) e ∙ append-nil (filter p xs))

-- an entry of the caller comes behind its others, and an entry of others does not
pub answered_own : (caller : ℕ) (es : History) (e : Entry) → is_answered caller e ≡ true → answered_by caller (es ++ e ∷ []) ≡ answered_by caller es ++ at_end es e ∷ []
answered_own caller es e own =
    ap (filter (λ p. is_answered caller p.entry)) (placed_more [] es e)
    ∙ filter_in (λ p. is_answered caller p.entry) (placed_behind [] es) (at_end es e) own

pub answered_other : (caller : ℕ) (es : History) (e : Entry) → is_answered caller e ≡ false → answered_by caller (es ++ e ∷ []) ≡ answered_by caller es
answered_other caller es e other =
    ap (filter (λ p. is_answered caller p.entry)) (placed_more [] es e)
    ∙ filter_out (λ p. is_answered caller p.entry) (placed_behind [] es) (at_end es e) other

-- a permit that was applied for again comes behind the others, and one that was not does not
pub renewals_own : (items : List Handled) (h : Handled) (r : Reply) → kept_reply h.what ≡ Some r → renewals (items ++ h ∷ []) ≡ renewals items ++ h ∷ []
renewals_own items h r kept = filter_in (λ h. is_some (kept_reply h.what)) items h (ap (λ (o : Option Reply). is_some o) kept)

pub renewals_other : (items : List Handled) (h : Handled) → kept_reply h.what ≡ None → renewals (items ++ h ∷ []) ≡ renewals items
renewals_other items h none = filter_out (λ h. is_some (kept_reply h.what)) items h (ap (λ (o : Option Reply). is_some o) none)

-- one more of each
pub ask_more : (opening : Day) (caller : ℕ) (hs : List Handled) (ps : List Placed) (h : Handled) (p : Placed) → AskAgain opening caller hs ps → AsksAgain opening caller h p → AskAgain opening caller (hs ++ h ∷ []) (ps ++ p ∷ [])
ask_more opening caller [] [] h p all one = (one, tt)
ask_more opening caller [] (q ∷ ps) h p all one = absurd all
ask_more opening caller (g ∷ hs) [] h p all one = absurd all
ask_more opening caller (g ∷ hs) (q ∷ ps) h p all one = (all.0, ask_more opening caller hs ps h p all.1 one)
