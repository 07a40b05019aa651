-- What is made on a page, piece by piece.
use Rattle.std.proofs.Common.{◌≡◌, ◌∙◌, ◌<◌, ◌≤◌, ◌+◌, ◌-◌, ◌*◌, ◌%◌, ◌∷◌, ◌++◌, [], ℕ, suc, List, refl, ap, sym, arith, append_assoc}
use Rattle.std.proofs.lemmas.Grind.{flat_map-append}
use Rattle.std.proofs.lemmas.List.{append-nil}
use Rattle.axle_train.specs.declared.axle.Axle.{Axle}
use Rattle.day_maker.specs.Making.{Maker, ◌>>◌, ◌>>=◌, draw, drawn, each, nothing}
use Rattle.day_maker.specs.Made.{more_axles}
use Rattle.day_maker.specs.Texts.{PageParts, page_after}
use Rattle.day_writer.specs.Texts.{line}

-- nothing more
pub after_nothing : (p : PageParts) → page_after nothing p ≡ p
after_nothing p = let with_text : List ℕ → PageParts = λ t. record { text = t; number = p.number } in ap with_text (append-nil p.text)

-- one thing and then another
pub after_then : (m k : Maker) (p q r : PageParts) → q ≡ page_after m p → r ≡ page_after k q → r ≡ page_after (m >> k) p
after_then m k p q r h i =
    let with_text : List ℕ → PageParts = λ t. record { text = t; number = (k (m p.number).next).next } in
    rw (i, h) (ap with_text (append_assoc p.text _ _ ∙ ap (λ (t : List ℕ). p.text ++ t) (sym (flat_map-append line (m p.number).rows (k (m p.number).next).rows))))

-- a draw, and what is made with the number
pub draw_then : (m : ℕ) (f : ℕ → Maker) (n : ℕ) (old next new : PageParts) → n ≡ drawn old.number % m → next ≡ record old { number = drawn old.number } → new ≡ page_after (f n) next → new ≡ page_after (draw m >>= f) old
draw_then m f n old next new h i j = j ∙ rw (i, h) refl

-- one thing more of those that are numbered up to an end
pub each_more : (f : ℕ → Maker) (page next all : PageParts) (i end : ℕ) → i < end → page_after (each i (end - i) f) page ≡ all → next ≡ page_after (f i) page → page_after (each (i + 1) (end - (i + 1)) f) next ≡ all
unfolding each
each_more f page next all i end h same is =
    let e : end - i ≡ suc (end - (i + 1)) = omega arith in
    after_then (f i) (each (i + 1) (end - (i + 1)) f) page next (page_after (each (i + 1) (end - (i + 1)) f) next) is refl ∙ (rw e at same)

-- and none is left
pub each_end : (f : ℕ → Maker) (page all : PageParts) (i end : ℕ) → end ≤ i → page_after (each i (end - i) f) page ≡ all → page ≡ all
unfolding each
each_end f page all i end h same = let e : end - i ≡ 0 = omega arith in sym (after_nothing page) ∙ (rw e at same)

-- one axle more of those that are left
pub axles_next : (i more x : ℕ) → i < more
    → more_axles (more - i) (180 + 54 * i) x ≡ (record { place = 180 + 54 * i; weight = 16000 + 500 * (drawn x % 20) } ∷ (more_axles (more - (i + 1)) (180 + 54 * (i + 1)) (drawn x)).0, (more_axles (more - (i + 1)) (180 + 54 * (i + 1)) (drawn x)).1)
axles_next i more x h =
    let e : more - i ≡ suc (more - (i + 1)) = omega arith in
    let place : 180 + 54 * (i + 1) ≡ 180 + 54 * i + 54 = omega arith in
    rw (e, place) refl

pub axles_step : (i more : ℕ) (page next : PageParts) (r : ℕ) (xs ys all : List Axle) → i < more → r ≡ drawn page.number % 20 → next ≡ record page { number = drawn page.number } → ys ≡ xs ++ (record { place = 180 + 54 * i; weight = 16000 + 500 * r } ∷ [])
    → xs ++ (more_axles (more - i) (180 + 54 * i) page.number).0 ≡ all
    → ys ++ (more_axles (more - (i + 1)) (180 + 54 * (i + 1)) next.number).0 ≡ all
axles_step i more page next r xs ys all h e n is same =
    let whole = rw (axles_next i more page.number h) at same in
    rw (is, e, n) (append_assoc xs _ _ ∙ whole)

pub axles_number : (i more last : ℕ) (page next : PageParts) → i < more → next ≡ record page { number = drawn page.number }
    → (more_axles (more - i) (180 + 54 * i) page.number).1 ≡ last
    → (more_axles (more - (i + 1)) (180 + 54 * (i + 1)) next.number).1 ≡ last
axles_number i more last page next h n same =
    let whole = rw (axles_next i more page.number h) at same in
    rw n whole
