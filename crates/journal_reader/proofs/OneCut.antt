-- Bytes are cut in one way alone.
use Rattle.std.proofs.Common.{◌≡◌, ◌∷◌, ◌++◌, ◌⊎◌, [], ℕ, true, List, refl, ap, subst, sym, ◌∙◌, inl, inr}
use Rattle.std.specs.List.{AllByRecursion}
use Rattle.std.proofs.lemmas.Bool.{true≢false}
use Rattle.std.proofs.lemmas.List.{append-nil, append_assoc, append_cancel_right}
use Rattle.journal_reader.proofs.Whole.{first_lines, no_feed}
use Rattle.journal_reader.specs.Cuts.{CutsAreOne, IsOther, begins_end}
use Rattle.journal_text.specs.Journals.{ended}
use Rattle.journal_reader.specs.Journals.{IsLine, lines_text}

-- what the lines in front leave: the line that begins with `end ` and what follows, or a line that has no line feed
abbrev Left : List ℕ → List ℕ → List ℕ → Type 0
Left last rest text = ((begins_end last ≡ true) × (text ≡ ended last ++ rest)) ⊎ ((rest ≡ []) × (text ≡ last))

-- the first line left begins with `end `, or there is none, so another line does not stand there
no_other : (last rest text line more : List ℕ) → IsLine last → Left last rest text → IsOther line → text ≡ ended line ++ more → ⊥
no_other last rest text line more clean (inl (end, is)) other same =
    true≢false (sym end ∙ (ap begins_end (first_lines last line rest more clean other.0 (sym is ∙ same)).0 ∙ other.1))
no_other last rest text line more clean (inr (none, is)) other same = no_feed line more (subst IsLine (sym is ∙ same) clean)

line_in_front : (line : List ℕ) (lines : List (List ℕ)) (text : List ℕ) → lines_text (line ∷ lines) ++ text ≡ ended line ++ (lines_text lines ++ text)
line_in_front line lines text = append_assoc (ended line) (lines_text lines) text

same_rest : (last last' rest rest' text : List ℕ) → IsLine last → IsLine last' → Left last rest text → Left last' rest' text → rest ≡ rest'
same_rest last last' rest rest' text clean clean' (inl (end, is)) (inl (end', is')) = (first_lines last last' rest rest' clean clean' (sym is ∙ is')).1
same_rest last last' rest rest' text clean clean' (inl (end, is)) (inr (none, is')) = absurd (no_feed last rest (subst IsLine (sym is' ∙ is) clean'))
same_rest last last' rest rest' text clean clean' (inr (none, is)) (inl (end, is')) = absurd (no_feed last' rest' (subst IsLine (sym is ∙ is') clean))
same_rest last last' rest rest' text clean clean' (inr (none, is)) (inr (none', is')) = none ∙ sym none'

one_rest : (before before' : List (List ℕ)) (last last' rest rest' text text' : List ℕ) → AllByRecursion IsOther before → AllByRecursion IsOther before'
    → IsLine last → IsLine last' → Left last rest text → Left last' rest' text' → lines_text before ++ text ≡ lines_text before' ++ text' → rest ≡ rest'
one_rest [] [] last last' rest rest' text text' all all' clean clean' left left' e =
    same_rest last last' rest rest' text clean clean' left (subst (Left last' rest') (sym e) left')
one_rest [] (l ∷ before') last last' rest rest' text text' all all' clean clean' left left' e =
    absurd (no_other last rest text l (lines_text before' ++ text') clean left all'.0 (e ∙ line_in_front l before' text'))
one_rest (l ∷ before) [] last last' rest rest' text text' all all' clean clean' left left' e =
    absurd (no_other last' rest' text' l (lines_text before ++ text) clean' left' all.0 (sym e ∙ line_in_front l before text))
one_rest (l ∷ before) (m ∷ before') last last' rest rest' text text' all all' clean clean' left left' e =
    let behind = first_lines l m (lines_text before ++ text) (lines_text before' ++ text') all.0.0 all'.0.0
    (sym (line_in_front l before text) ∙ (e ∙ line_in_front m before' text')) in
    one_rest before before' last last' rest rest' text text' all.1 all'.1 clean clean' left left' behind.1

-- the whole, behind the lines in front
record Behind (bytes rest last : List ℕ) (before : List (List ℕ)) : Type 0 where
  pub text : List ℕ
  pub left : Left last rest text
  pub whole : bytes ≡ lines_text before ++ text

behind_of : (bytes front rest last : List ℕ) (before : List (List ℕ)) → bytes ≡ front ++ rest
    → ((begins_end last ≡ true) × (front ≡ lines_text before ++ ended last)) ⊎ ((rest ≡ []) × (front ≡ lines_text before ++ last))
    → Behind bytes rest last before
behind_of bytes front rest last before whole (inl (end, is)) = record {
  text = ended last ++ rest;
  left = inl (end, refl);
  whole = whole ∙ (ap (λ l. l ++ rest) is ∙ append_assoc (lines_text before) (ended last) rest);
}
behind_of bytes front rest last before whole (inr (none, is)) = record {
  text = last;
  left = inr (none, refl);
  whole = whole ∙ (ap (λ l. front ++ l) none ∙ (append-nil front ∙ is));
}

pub one_cut : CutsAreOne
one_cut bytes front rest other more c d =
    let b = behind_of bytes front rest c.last c.before c.whole c.end in
    let b' = behind_of bytes other more d.last d.before d.whole d.end in
    let same = one_rest c.before d.before c.last d.last rest more b.text b'.text c.others d.others c.line d.line b.left b'.left (sym b.whole ∙ b'.whole) in
    (append_cancel_right front other rest (sym c.whole ∙ (d.whole ∙ ap (λ l. other ++ l) (sym same))), same)
