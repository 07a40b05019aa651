-- The weight limit of a group of axles, by the rules of 23 CFR 658.17 and 658.5, and the same limit computed.
use Rattle.std.specs.Prelude.{◌≡◌, ℕ, ◌+◌, ◌-◌, ◌<◌, ◌≤◌, List, Bool, ◌&&◌, nat_lt, nat_le, nat_eq, if◌then◌else◌}
use Rattle.axle_train.specs.declared.axle.Axle.{Axle}
use Rattle.axle_train.specs.Trains.{spread}
use Rattle.bridge_formula.specs.Formula.{IsFormulaLimit, formula_limit}
use Rattle.axle_limits.specs.declared.legal.TheConstants.{SINGLE_SPREAD, TANDEM_SPREAD, TWO_TANDEM_SPREAD, SINGLE_LIMIT, TANDEM_LIMIT, TWO_TANDEM_LIMIT}
use Rattle.axle_limits.specs.declared.group.GroupLimit.{GroupLimit}
use Rattle.axle_limits.specs.declared.group.Rule.{Rule}
use Rattle.axle_limits.specs.declared.group.Rule.TheVariants.{Single, Tandem, Formula, TwoTandem, Gross}

-- 23 CFR 658.5: axles over 40 in and at most 96 in apart are a tandem axle
abbrev pub IsTandem : ℕ → Type 0
IsTandem inches = (SINGLE_SPREAD < inches) × (inches ≤ TANDEM_SPREAD)

-- 23 CFR 658.17(e): two consecutive tandem axles, at least 36 ft from the first axle to the last. A group of exactly four
-- axles is meant here, of which the first two and the last two are tandems; that is this project's own choice
pub record IsTwoTandem (axles : List Axle) (i j : ℕ) : Type 0 where
  pub four : j ≡ i + 3
  pub far : TWO_TANDEM_SPREAD ≤ spread axles i j
  pub front : IsTandem (spread axles i (i + 1))
  pub rear : IsTandem (spread axles (i + 2) j)

-- the limit of the axles i to j, and the rule that gives it: 20,000 lb within 40 in, 34,000 lb for a tandem, and beyond
-- 96 in the formula's limit, or 68,000 lb where the group is two tandems and the formula gives less
abbrev pub IsGroupLimit : List Axle → ℕ → ℕ → ℕ → Rule → Type 0
IsGroupLimit axles i j limit Single = (spread axles i j ≤ SINGLE_SPREAD) × (limit ≡ SINGLE_LIMIT)
IsGroupLimit axles i j limit Tandem = IsTandem (spread axles i j) × (limit ≡ TANDEM_LIMIT)
IsGroupLimit axles i j limit Formula =
    (TANDEM_SPREAD < spread axles i j)
    × IsFormulaLimit (spread axles i j) (j - i + 1) limit
    × (IsTwoTandem axles i j → TWO_TANDEM_LIMIT ≤ limit)
IsGroupLimit axles i j limit TwoTandem =
    IsTwoTandem axles i j
    × ((formula : ℕ) × IsFormulaLimit (spread axles i j) (j - i + 1) formula × (formula < TWO_TANDEM_LIMIT))
    × (limit ≡ TWO_TANDEM_LIMIT)
IsGroupLimit axles i j limit Gross = ⊥

-- whether axles that are so far apart are a tandem axle
abbrev pub is_tandem : ℕ → Bool
is_tandem inches = nat_lt SINGLE_SPREAD inches && nat_le inches TANDEM_SPREAD

-- whether the axles i to j are two tandem axles
abbrev pub is_two_tandem : List Axle → ℕ → ℕ → Bool
is_two_tandem axles i j =
    nat_eq (j - i) 3 && nat_le TWO_TANDEM_SPREAD (spread axles i j) && is_tandem (spread axles i (i + 1)) && is_tandem (spread axles (i + 2) j)

-- the limit of the axles i to j and its rule, computed
abbrev pub group_limit_of : List Axle → ℕ → ℕ → GroupLimit
group_limit_of axles i j =
    let inches = spread axles i j in
    let formula = formula_limit inches (j - i + 1) in
    if nat_le inches SINGLE_SPREAD then record { limit = SINGLE_LIMIT; rule = Single }
    else (if nat_le inches TANDEM_SPREAD then record { limit = TANDEM_LIMIT; rule = Tandem }
    else (if nat_lt formula TWO_TANDEM_LIMIT && is_two_tandem axles i j then record { limit = TWO_TANDEM_LIMIT; rule = TwoTandem }
    else record { limit = formula; rule = Formula }))

-- the limit of the axles i to j alone, computed
abbrev pub computed_limit_of : List Axle → ℕ → ℕ → ℕ
computed_limit_of axles i j = (group_limit_of axles i j).limit

-- a group has one limit by the rules, and this is it
abbrev pub GroupLimitIsComputed : Type 0
GroupLimitIsComputed =
    (axles : List Axle) (i j limit : ℕ) (rule : Rule) → i ≤ j → IsGroupLimit axles i j limit rule
    → group_limit_of axles i j ≡ record { limit = limit; rule = rule }
