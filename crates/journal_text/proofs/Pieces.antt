-- A text that grows word by word.
use Rattle.std.proofs.Common.{◌≡◌, ◌∙◌, ◌<◌, ◌≤◌, ◌+◌, ◌∷◌, ◌++◌, [], ℕ, zero, suc, List, sym, ap, arith, append_assoc, length, get_or, take}
use Rattle.std.specs.Prelude.{codes, flat_map}
use Rattle.std.proofs.lemmas.List.{append-nil, take_more}
use Rattle.journal_text.specs.Words.{Adds, Words, index, joined, list_text, routes_text, spaced}

pub adds_word : (old middle new text : List ℕ) → middle ≡ old ++ (32 ∷ []) → new ≡ middle ++ text → Adds old new (λ ws. text ∷ ws)
unfolding spaced
adds_word old middle new text h k ws = rw (k, h) (simp append_assoc)

-- a text that is added behind a space is a word
pub adds_spaced : (old new text : List ℕ) → new ≡ old ++ (32 ∷ text) → Adds old new (λ ws. text ∷ ws)
unfolding spaced
adds_spaced old new text h ws = rw h (simp append_assoc)

-- a word, and another one that is added behind a space
pub adds_named_word : (old a new first text : List ℕ) → Adds old a (λ ws. first ∷ ws) → new ≡ a ++ (32 ∷ text) → Adds old new (λ ws. first ∷ text ∷ ws)
adds_named_word old a new first text h i ws = h (text ∷ ws) ∙ adds_spaced a new text i ws

-- a text of two parts with a byte between them, behind a space
pub pair_adds : (old a new one two : List ℕ) (sep : ℕ) → a ≡ old ++ (32 ∷ one) → new ≡ a ++ (sep ∷ two) → new ≡ old ++ (32 ∷ one ++ (sep ∷ two))
pair_adds old a new one two sep h i = rw (i, h) (simp append_assoc)

-- a list, behind a byte: its first number, and each other one behind a comma
pub list_adds : (text : ℕ → List ℕ) (old a new numbers rest : List ℕ) (before first : ℕ) → numbers ≡ first ∷ rest → a ≡ old ++ (before ∷ text first) → new ≡ a ++ flat_map (λ n. 44 ∷ text n) rest → new ≡ old ++ (before ∷ list_text text numbers)
list_adds text old a new numbers rest before first is one more = rw (more, one, is) (simp append_assoc)

-- one text more behind a separator
joined_last : {A : Type 0} (sep : ℕ) (text : A → List ℕ) (x : A) (xs : List A) (last : A) → joined sep text ((x ∷ xs) ++ (last ∷ [])) ≡ joined sep text (x ∷ xs) ++ (sep ∷ text last)
joined_last sep text x xs last = ap (λ t. text x ++ t) (rest xs) ∙ sym (append_assoc (text x) (flat_map (λ y. sep ∷ text y) xs) (sep ∷ text last))
  where
    rest : (ys : List _) → flat_map (λ y. sep ∷ text y) (ys ++ (last ∷ [])) ≡ flat_map (λ y. sep ∷ text y) ys ++ (sep ∷ text last)
    rest [] = append-nil (sep ∷ text last)
    rest (y ∷ ys) = ap (λ t. (sep ∷ text y) ++ t) (rest ys) ∙ sym (append_assoc (sep ∷ text y) (flat_map (λ z. sep ∷ text z) ys) (sep ∷ text last))

joined_more : {A : Type 0} (sep : ℕ) (text : A → List ℕ) (xs : List A) (i : ℕ) (d : A) → 1 ≤ i → i < length xs → joined sep text (take (i + 1) xs) ≡ joined sep text (take i xs) ++ (sep ∷ text (get_or xs i d))
joined_more sep text [] i d some low = absurd (omega arith)
joined_more sep text (x ∷ xs) zero d some low = absurd (omega arith)
joined_more sep text (x ∷ xs) (suc i) d some low = ap (joined sep text) (take_more (x ∷ xs) (suc i) d low) ∙ joined_last sep text x (take i xs) (get_or xs i d)

-- the first route, behind a space
pub first_route : (old new : List ℕ) (routes : List (List ℕ)) → 0 < length routes → new ≡ old ++ (32 ∷ list_text index (get_or routes 0 [])) → new ≡ old ++ (32 ∷ routes_text (take 1 routes))
first_route old new [] some h = absurd (omega arith)
first_route old new (route ∷ routes) some h = h ∙ ap (λ t. old ++ (32 ∷ t)) (sym (append-nil (list_text index route)))

-- one route more, behind a slash
pub one_more_route : (old out new : List ℕ) (routes : List (List ℕ)) (i : ℕ) → 1 ≤ i → i < length routes → out ≡ old ++ (32 ∷ routes_text (take i routes)) → new ≡ out ++ (47 ∷ list_text index (get_or routes i []))
    → new ≡ old ++ (32 ∷ routes_text (take (i + 1) routes))
one_more_route old out new routes i some low h k =
    k ∙ (ap (λ t. t ++ (47 ∷ list_text index (get_or routes i []))) h
    ∙ (append_assoc old (32 ∷ routes_text (take i routes)) (47 ∷ list_text index (get_or routes i []))
    ∙ ap (λ t. old ++ (32 ∷ t)) (sym (joined_more 47 (list_text index) routes i [] some low))))

-- a line, from its first word on
pub line_adds : (old a b c d new caller : List ℕ) (call reply : Words → Words) → a ≡ old ++ caller → Adds a b call → Adds b c (λ ws. codes "=" ∷ ws) → Adds c d reply → new ≡ d ++ (10 ∷ []) → new ≡ old ++ ((caller ++ spaced (call (codes "=" ∷ reply []))) ++ (10 ∷ []))
unfolding spaced
line_adds old a b c d new caller call reply h i j k l =
    let text : a ++ spaced (call (codes "=" ∷ reply [])) ≡ d ++ [] = i _ ∙ (j _ ∙ k []) in
    let whole : d ≡ old ++ (caller ++ spaced (call (codes "=" ∷ reply []))) = sym (append-nil d) ∙ (sym text ∙ (ap (λ t. t ++ spaced (call (codes "=" ∷ reply []))) h ∙ append_assoc old caller _)) in
    l ∙ (ap (λ t. t ++ (10 ∷ [])) whole ∙ append_assoc old _ (10 ∷ []))

pub journal_adds : (z a b c d new head lines number : List ℕ) → z ≡ head → a ≡ z ++ (10 ∷ []) → b ≡ a ++ lines → c ≡ b ++ codes "end " → d ≡ c ++ number → new ≡ d ++ (10 ∷ []) → new ≡ (head ++ (10 ∷ [])) ++ (lines ++ ((codes "end " ++ number) ++ (10 ∷ [])))
journal_adds z a b c d new head lines number g h i j k l = rw (l, k, j, i, h, g) (simp append_assoc)
