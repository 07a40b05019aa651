-- A desk keeps up with its office.
use Rattle.std.proofs.Common.{◌≡◌, ◌≢◌, ◌∙◌, ap, sym, refl, subst, ℕ, List, [], ◌∷◌, ◌++◌, Bool, true, false, cond, filter, take, append_assoc, ◌==◌, ◌&&◌, not, arith, ◌⊎◌, inl, inr}
use Rattle.std.proofs.lemmas.Bool.{cases_Bool, eqb-true}
use Rattle.std.proofs.lemmas.Grind.{flat_map-append}
use Rattle.std.proofs.lemmas.List.{append-nil, length-append, take-append-le}
use Rattle.office_words.specs.declared.entry.Entry.{Entry}
use Rattle.office_core.specs.Happened.{History, Numbers}
use Rattle.office_core.specs.Machine.{entries_by}
use Rattle.reroute_desk.specs.Issues.{told_of_issued, recalled_in, recalled_numbers}
use Rattle.reroute_desk.specs.declared.handled.Handled.{Handled}
use Rattle.reroute_desk.specs.Desks.{AreFirst, AskAgain, Placed, is_answered, is_lack, olds_of, placed_behind, renewals}
use Rattle.reroute_desk.specs.Laws.{CallsOfOthersKeepUp, NewDesksKeepUp}
use Rattle.reroute_desk.specs.Notes.{AreNotes, Noted}
use Rattle.reroute_desk.specs.Replacements.{unasked}
use Rattle.reroute_desk.proofs.Placing.{answered_other}

-- what a history recalls with more entries behind it
pub recalled_more : (es more : History) → recalled_in (es ++ more) ≡ recalled_in es ++ recalled_in more
recalled_more es more = flat_map-append (λ e. recalled_numbers e.reply) es more

pub recalled_one : (es : History) (e : Entry) → recalled_in (es ++ e ∷ []) ≡ recalled_in es ++ recalled_numbers e.reply
recalled_one es e = recalled_more es (e ∷ []) ∙ ap (λ l. recalled_in es ++ l) (append-nil (recalled_numbers e.reply))

-- notes of a history are notes of each that goes on from it
pub noted_more : (notes : Noted) (es more : History) → AreNotes notes es → AreNotes notes (es ++ more)
noted_more notes es more are =
    let same : take notes.read (es ++ more) ≡ take notes.read es = take-append-le notes.read es more are.within in
    record {
      within = omega (arith, are.within, length-append es more);
      recalled = are.recalled ∙ ap recalled_in (sym same);
      trips = λ n. are.trips n ∙ ap (λ (l : History). told_of_issued unasked l n) (sym same);
    }

-- what is handled is a front of what is recalled then
pub first_more : (items : List Handled) (es : History) (e : Entry) (left : Numbers) → AreFirst items es left → AreFirst items (es ++ e ∷ []) (left ++ recalled_numbers e.reply)
first_more items es e left first =
    recalled_one es e ∙ (ap (λ l. l ++ recalled_numbers e.reply) first ∙ append_assoc (olds_of items) left (recalled_numbers e.reply))

-- no entry is the caller's own
none_own : (caller : ℕ) (front es : History) → entries_by caller es ≡ [] → filter (λ p. is_answered caller p.entry) (placed_behind front es) ≡ []
none_own caller front [] none = refl
none_own caller front (e ∷ es) none = by (λ own. none_own caller (front ++ e ∷ []) es own) (e.caller == caller) refl none
  where
    by : (entries_by caller es ≡ [] → filter (λ p. is_answered caller p.entry) (placed_behind (front ++ e ∷ []) es) ≡ []) → (b : Bool) → (e.caller == caller) ≡ b → cond b (e ∷ entries_by caller es) (entries_by caller es) ≡ [] → filter (λ p. is_answered caller p.entry) (placed_behind front (e ∷ es)) ≡ []
    by rest true is own = absurd cc
    by rest false is own =
        ap (λ (b : Bool). cond (b && not (is_lack e.reply)) (record { front = front; entry = e } ∷ filter (λ p. is_answered caller p.entry) (placed_behind (front ++ e ∷ []) es)) (filter (λ p. is_answered caller p.entry) (placed_behind (front ++ e ∷ []) es))) is
        ∙ rest own

pub new_keeps : NewDesksKeepUp
new_keeps caller o few none = record {
  caller = few;
  first = (recalled_in o.history, refl);
  asked = subst (λ (ps : List Placed). AskAgain o.opening caller [] ps) (sym (none_own caller [] o.history none)) tt;
  noted = record { within = omega arith; recalled = refl; trips = λ n. refl };
}

-- an entry of another caller is none of the caller's
not_own : (caller : ℕ) (e : Entry) → e.caller ≢ caller → is_answered caller e ≡ false
not_own caller e other = by (cases_Bool (e.caller == caller))
  where
    by : ((e.caller == caller) ≡ true) ⊎ ((e.caller == caller) ≡ false) → is_answered caller e ≡ false
    by (inl same) = absurd (other (eqb-true e.caller caller same))
    by (inr differs) = ap (λ (b : Bool). b && not (is_lack e.reply)) differs

pub other_keeps : CallsOfOthersKeepUp
other_keeps desk o e other keeps = record {
  caller = keeps.caller;
  first = (keeps.first.0 ++ recalled_numbers e.reply, first_more desk.handled o.history e keeps.first.0 keeps.first.1);
  asked = subst (λ (ps : List Placed). AskAgain o.opening desk.caller (renewals desk.handled) ps) (sym (answered_other desk.caller o.history e (not_own desk.caller e other))) keeps.asked;
  noted = noted_more desk.notes o.history (e ∷ []) keeps.noted;
}
