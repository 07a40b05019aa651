-- The text of axles.
use Rattle.std.proofs.Common.{◌≡◌, ◌∷◌, ◌++◌, ℕ, List, append_assoc}
use Rattle.std.specs.Prelude.{flat_map}
use Rattle.axle_train.specs.declared.axle.Axle.{Axle}
use Rattle.day_writer.specs.Texts.{axle_text, axles_text}

-- the axles behind the first
pub axles_add : (old a new : List ℕ) (axles more : List Axle) (first : Axle) → axles ≡ first ∷ more → a ≡ old ++ axle_text first → new ≡ a ++ flat_map (λ b. 32 ∷ axle_text b) more → new ≡ old ++ axles_text axles
axles_add old a new axles more first is h i = rw (is, i, h) (append_assoc old (axle_text first) (flat_map (λ b. 32 ∷ axle_text b) more))
