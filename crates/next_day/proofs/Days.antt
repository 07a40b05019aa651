-- The days of an application once more: from the later of its first day and today on.
use Rattle.std.proofs.Common.{◌≡◌, ◌≤◌, ◌<ℤ◌, ◌≤ℤ◌, ◌-ℤ◌, ℤ, pos, negsuc, Bool, true, false, refl, ap, sym, ◌∙◌, if◌then◌else◌, arith}
use Rattle.std.specs.declared.cmp.Ordering.{Ordering}
use Rattle.std.specs.declared.cmp.Ordering.TheVariants.{Less, Equal, Greater}
use Rattle.std.specs.Ordering.{is_lt, nat_cmp, ordering_reverse}
use Rattle.std.specs.Cmp.Lexicographic.{nat_list_cmp_total, slice_cmp}
use Rattle.std.proofs.lemmas.Int.{ints}
use Rattle.permit_days.specs.Days.{day_number_of, days_between, is_before, is_day_text, or_zero}
use Rattle.permit_days.proofs.Numbers.{lower_number}
use Rattle.permit_days.proofs.Orders.{earlier, shape_of}
use Rattle.office_core.specs.Happened.{Day}
use Rattle.reroute_desk.specs.Replacements.{first_from}

-- no day is before itself
not_self : (a : Day) → is_before a a ≡ false
not_self a = by (slice_cmp nat_cmp a a) refl
  where
    by : (o : Ordering) → slice_cmp nat_cmp a a ≡ o → is_lt (slice_cmp nat_cmp a a) ≡ false
    by Less e = let twice : Less ≡ Greater = sym e ∙ (nat_list_cmp_total.antisymm a a ∙ ap ordering_reverse e) in cc
    by Equal e = ap is_lt e
    by Greater e = ap is_lt e

less_of : (o : Ordering) → is_lt o ≡ true → o ≡ Less
less_of Less e = refl
less_of Equal e = cc
less_of Greater e = cc

-- the first day once more is not before today
pub not_late : (today first : Day) → is_before (first_from today first) today ≡ false
not_late today first = by (is_before first today) refl
  where
    by : (b : Bool) → is_before first today ≡ b → is_before (if b then today else first) today ≡ false
    by true e = not_self today
    by false e = e

-- a last day that is before neither the first day nor today is not before the first day once more
pub in_order : (today first last : Day) → is_before last first ≡ false → is_before last today ≡ false → is_before last (first_from today first) ≡ false
in_order today first last after_first after_today = by (is_before first today)
  where
    by : (b : Bool) → is_before last (if b then today else first) ≡ false
    by true = after_today
    by false = after_first

-- whole numbers and 0 for the negative ones keep their order
zero_less : (x y : ℤ) → x ≤ℤ y → or_zero x ≤ or_zero y
zero_less (pos m) (pos n) h = omega (arith, ints, h)
zero_less (pos m) (negsuc n) h = absurd (omega (arith, ints, h))
zero_less (negsuc m) (pos n) h = omega arith
zero_less (negsuc m) (negsuc n) h = omega arith

closer : (first later last : ℤ) → first <ℤ later → (last -ℤ later) ≤ℤ (last -ℤ first)
closer first later last h = omega (arith, ints, h)

-- the last day lies no more days after the first day once more than after the first
pub no_longer : (today first last : Day) → is_day_text today ≡ true → is_day_text first ≡ true → days_between (first_from today first) last ≤ days_between first last
no_longer today first last today_is first_is = by (is_before first today) refl
  where
    by : (b : Bool) → is_before first today ≡ b → days_between (if b then today else first) last ≤ days_between first last
    by false e = omega arith
    by true e =
        let less = lower_number first today first_is today_is (earlier first today (shape_of first first_is) (shape_of today today_is) (less_of (slice_cmp nat_cmp first today) e)) in
        zero_less (day_number_of last -ℤ day_number_of today) (day_number_of last -ℤ day_number_of first) (closer (day_number_of first) (day_number_of today) (day_number_of last) less)
