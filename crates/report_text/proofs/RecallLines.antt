-- Lines that are added to a text.
use Rattle.std.proofs.Common.{◌≡◌, ◌∙◌, ◌≤◌, ◌∷◌, ◌++◌, [], ℕ, List, ap, append_assoc, drop, length, refl, sym}
use Rattle.std.proofs.lemmas.List.{append-nil, drop_all}
use Rattle.office_words.specs.declared.entry.Entry.{Entry}
use Rattle.report_text.specs.RecallLines.{permit_lines, replies_to}

pub replaced_adds : (old a b c d e new one two three four routes word : List ℕ)
    → a ≡ old ++ one → b ≡ a ++ two → c ≡ b ++ three → d ≡ c ++ word → e ≡ d ++ routes → new ≡ e ++ (10 ∷ [])
    → new ≡ old ++ (one ++ (two ++ (three ++ (word ++ (routes ++ (10 ∷ []))))))
replaced_adds old a b c d e new one two three four routes word h i j k l m = rw (m, l, k, j, i, h) (simp append_assoc)

pub refused_adds : (old a b c d new one two limit : List ℕ)
    → a ≡ old ++ one → b ≡ a ++ two → c ≡ b ++ (32 ∷ []) → d ≡ c ++ limit → new ≡ d ++ (10 ∷ [])
    → new ≡ old ++ (one ++ (two ++ (32 ∷ (limit ++ (10 ∷ [])))))
refused_adds old a b c d new one two limit h i j k l = rw (l, k, j, i, h) (simp append_assoc)

-- where no entry is left, all is told
pub all_told : (text old lines : List ℕ) (left : List ℕ) (caller at : ℕ) (es : List Entry)
    → text ++ permit_lines left (replies_to caller (drop at es)) ≡ old ++ lines → length es ≤ at → text ≡ old ++ lines
all_told text old lines left caller at es h end =
    sym (append-nil text) ∙ (ap (λ t. text ++ t) (sym (none left)) ∙ (ap (λ (l : List Entry). text ++ permit_lines left (replies_to caller l)) (sym (drop_all at es end)) ∙ h))
  where
    none : (permits : List ℕ) → permit_lines permits [] ≡ []
    none [] = refl
    none (permit ∷ permits) = refl
