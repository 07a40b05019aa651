-- Lines that are added to a text.
use Rattle.std.proofs.Common.{◌≡◌, ◌∙◌, ◌<◌, ◌+◌, ◌∷◌, ◌++◌, [], ℕ, suc, List, add-one, ap, append_assoc, drop, drop-cons, get_or, length, sym}
use Rattle.report_text.specs.Summaries.{last_version_from, version_behind}
use Rattle.office_words.specs.declared.entry.Entry.{Entry}

pub line_adds : (old a b c new word digits : List ℕ) → a ≡ old ++ word → b ≡ a ++ (32 ∷ []) → c ≡ b ++ digits → new ≡ c ++ (10 ∷ []) → new ≡ old ++ (word ++ (32 ∷ (digits ++ (10 ∷ []))))
line_adds old a b c new word digits h i j k = rw (k, j, i, h) (simp append_assoc)

pub seven_add : (p0 p1 p2 p3 p4 p5 p6 p7 a b c d e f g : List ℕ) → p0 ≡ [] → p1 ≡ p0 ++ a → p2 ≡ p1 ++ b → p3 ≡ p2 ++ c → p4 ≡ p3 ++ d → p5 ≡ p4 ++ e → p6 ≡ p5 ++ f → p7 ≡ p6 ++ g
    → p7 ≡ a ++ (b ++ (c ++ (d ++ (e ++ (f ++ g)))))
seven_add p0 p1 p2 p3 p4 p5 p6 p7 a b c d e f g h i j k l m n o = rw (o, n, m, l, k, j, i, h) (simp append_assoc)
