-- Texts that are joined with a byte between them are split there again.
use Rattle.std.proofs.Common.{◌≡◌, ◌∙◌, ◌∷◌, [], ℕ, List, Some, Option, true, false, eqb, map, refl, ap, All}
use Rattle.std.specs.Prelude.{flat_map}
use Rattle.std.specs.List.{AllByRecursion, slice_split}
use Rattle.std.proofs.lemmas.List.{append-nil}
use Rattle.std.proofs.lemmas.List.Splits.{slice_split_at, slice_split_none}
use Rattle.day_text.specs.Fields.{of_each}
use Rattle.day_writer.specs.Texts.{joined}
use Rattle.day_writer.proofs.Plain.{IsPlain, all_append, is_plain}

-- a text that lacks a byte
abbrev pub Lacks : ℕ → List ℕ → Type 0
Lacks sign text = All (λ b. eqb b sign ≡ false) text

module _ {A : Type 0} (sign : ℕ) (same : eqb sign sign ≡ true) (text : A → List ℕ) where
  split_joined : (x : A) (xs : List A) → Lacks sign (text x) → AllByRecursion (λ y. Lacks sign (text y)) xs → slice_split (λ b. eqb b sign) (joined sign text (x ∷ xs)) ≡ map text (x ∷ xs)
  split_joined x [] h hs = rw (append-nil (text x)) (slice_split_none (λ b. eqb b sign) (text x) h)
  split_joined x (y ∷ xs) h (k, ks) =
      slice_split_at (λ b. eqb b sign) (text x) sign (joined sign text (y ∷ xs)) h same ∙ ap (λ (t : List (List ℕ)). text x ∷ t) (split_joined y xs k ks)

  -- the parts of a text that was joined
  pub joined_split : (xs : List A) → AllByRecursion (λ y. Lacks sign (text y)) xs → (x : A) (rest : List A) → xs ≡ x ∷ rest → slice_split (λ b. eqb b sign) (joined sign text xs) ≡ map text xs
  joined_split [] h x rest e = absurd (cc e)
  joined_split (y ∷ ys) h x rest e = split_joined y ys h.0 h.1

more_plain : {A : Type 0} (sign : ℕ) (text : A → List ℕ) (xs : List A) → is_plain sign ≡ true → AllByRecursion (λ x. IsPlain (text x)) xs → IsPlain (flat_map (λ y. sign ∷ text y) xs)
more_plain sign text [] s h = refl
more_plain sign text (x ∷ xs) s (h, hs) = rw s (all_append is_plain (text x) (flat_map (λ y. sign ∷ text y) xs) h (more_plain sign text xs s hs))

-- texts of ASCII that are joined
pub joined_plain : {A : Type 0} (sign : ℕ) (text : A → List ℕ) (xs : List A) → is_plain sign ≡ true → AllByRecursion (λ x. IsPlain (text x)) xs → IsPlain (joined sign text xs)
joined_plain sign text [] s h = refl
joined_plain sign text (x ∷ xs) s (h, hs) = all_append is_plain (text x) (flat_map (λ y. sign ∷ text y) xs) h (more_plain sign text xs s hs)

-- what is given for each of some texts
pub each_given : {A B C : Type 0} (read : B → Option C) (text : A → B) (value : A → C) (xs : List A) → AllByRecursion (λ x. read (text x) ≡ Some (value x)) xs → of_each read (map text xs) ≡ Some (map value xs)
each_given read text value [] h = refl
each_given read text value (x ∷ xs) (h, hs) = rw (h, each_given read text value xs hs) refl

-- each of some things, where each is read back from its text
pub each_back : {A B : Type 0} (read : B → Option A) (text : A → B) (xs : List A) → AllByRecursion (λ x. read (text x) ≡ Some x) xs → of_each read (map text xs) ≡ Some xs
each_back read text [] h = refl
each_back read text (x ∷ xs) (h, hs) = rw (h, each_back read text xs hs) refl
