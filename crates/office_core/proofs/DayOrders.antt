-- Days in their order.
use Rattle.std.proofs.Common.{◌≡◌, ℕ, List, true, false, ap, sym, ◌∙◌, refl}
use Rattle.std.specs.declared.cmp.Ordering.{Ordering}
use Rattle.std.specs.declared.cmp.Ordering.TheVariants.{Less, Equal, Greater}
use Rattle.std.specs.Ordering.{is_lt, nat_cmp, ordering_reverse}
use Rattle.std.specs.Cmp.Lexicographic.{nat_list_cmp_total, slice_cmp}
use Rattle.std.proofs.lemmas.Bool.{false≢true}
use Rattle.permit_days.specs.Days.{is_before}

-- a day that is not before one which is not before a third is not before that
pub not_before : (a b c : List ℕ) → is_before a b ≡ false → is_before b c ≡ false → is_before a c ≡ false
not_before a b c f g = by (slice_cmp nat_cmp a c) refl
  where
    by_middle : slice_cmp nat_cmp a c ≡ Less → (o : Ordering) → slice_cmp nat_cmp c b ≡ o → ⊥
    by_middle e Less k = false≢true (sym f ∙ ap is_lt (nat_list_cmp_total.trans a c b e k))
    by_middle e Equal k =
        let same : slice_cmp nat_cmp c a ≡ slice_cmp nat_cmp b a = nat_list_cmp_total.congr c b a k in
        let is : slice_cmp nat_cmp a b ≡ Less = nat_list_cmp_total.antisymm a b ∙ (ap ordering_reverse (sym same) ∙ (sym (nat_list_cmp_total.antisymm a c) ∙ e)) in
        false≢true (sym f ∙ ap is_lt is)
    by_middle e Greater k = false≢true (sym g ∙ ap is_lt (nat_list_cmp_total.antisymm b c ∙ ap ordering_reverse k))

    by : (o : Ordering) → slice_cmp nat_cmp a c ≡ o → is_lt o ≡ false
    by Equal e = refl
    by Greater e = refl
    by Less e = absurd (by_middle e (slice_cmp nat_cmp c b) refl)

-- a day that is before one which a third is not before is before that
pub before_on : (a b c : List ℕ) → is_before a b ≡ true → is_before c b ≡ false → is_before a c ≡ true
before_on a b c f g = by_less (slice_cmp nat_cmp a b) refl
  where
    after_less : slice_cmp nat_cmp a b ≡ Less → (o : Ordering) → slice_cmp nat_cmp c b ≡ o → slice_cmp nat_cmp a c ≡ Less
    after_less e Less k = absurd (false≢true (sym g ∙ ap is_lt k))
    after_less e Equal k =
        let same : slice_cmp nat_cmp c a ≡ slice_cmp nat_cmp b a = nat_list_cmp_total.congr c b a k in
        nat_list_cmp_total.antisymm a c ∙ (ap ordering_reverse same ∙ (sym (nat_list_cmp_total.antisymm a b) ∙ e))
    after_less e Greater k = nat_list_cmp_total.trans a b c e (nat_list_cmp_total.antisymm b c ∙ ap ordering_reverse k)

    by_less : (o : Ordering) → slice_cmp nat_cmp a b ≡ o → is_before a c ≡ true
    by_less Less e = ap is_lt (after_less e (slice_cmp nat_cmp c b) refl)
    by_less Equal e = absurd (false≢true (sym (ap is_lt e) ∙ f))
    by_less Greater e = absurd (false≢true (sym (ap is_lt e) ∙ f))
