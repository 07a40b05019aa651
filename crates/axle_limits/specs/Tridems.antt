-- Heaviest groups: three axles close together, and the heaviest of a truck's. Federal law has no such group: what it is, is this
-- project's own profile.
use Rattle.std.specs.Prelude.{◌≡◌, ℕ, ◌+◌, ◌-◌, ◌<◌, ◌≤◌, Bool, ◌↔◌, ◌&&◌, ◌||◌, not, nat_lt, nat_le, List, length, Option, Some, None, if◌then◌else◌, MatchOption}
use Rattle.std.specs.List.{find, list_all, range_with_len}
use Rattle.std.specs.Option.{option_map}
use Rattle.axle_train.specs.declared.axle.Axle.{Axle}
use Rattle.axle_train.specs.Trains.{group_weight, spread}
use Rattle.axle_limits.specs.declared.legal.TheConstants.{TANDEM_SPREAD, TRIDEM_SPREAD}
use Rattle.axle_limits.specs.declared.tridem.Heaviest.{Heaviest}

-- the axles i to j are a tridem group: exactly three, over 96 in and at most 144 in from first to last
pub record IsTridem (axles : List Axle) (i j : ℕ) : Type 0 where
  pub three : j ≡ i + 2
  pub within : j < length axles
  pub far : TANDEM_SPREAD < spread axles i j
  pub near : spread axles i j ≤ TRIDEM_SPREAD

-- the heaviest tridem group, with its weight: none weighs more, and each that begins before it weighs less
pub record IsHeaviestTridem (axles : List Axle) (g : Heaviest) : Type 0 where
  pub is_tridem : IsTridem axles g.i g.j
  pub weight_is : g.weight ≡ group_weight axles g.i g.j
  pub greatest : (i j : ℕ) → IsTridem axles i j → group_weight axles i j ≤ g.weight
  pub first : (i j : ℕ) → IsTridem axles i j → i < g.i → group_weight axles i j < g.weight

-- no axles of the truck are a tridem group
abbrev pub HasNoTridem : List Axle → Type 0
HasNoTridem axles = (i j : ℕ) → IsTridem axles i j → ⊥

-- every tridem group weighs at most so many pounds
abbrev pub TridemsAreWithin : List Axle → ℕ → Type 0
TridemsAreWithin axles pounds = (i j : ℕ) → IsTridem axles i j → group_weight axles i j ≤ pounds

-- the same of the groups that begin before axle n alone
pub record IsHeaviestBefore (axles : List Axle) (n : ℕ) (g : Heaviest) : Type 0 where
  pub is_tridem : IsTridem axles g.i g.j
  pub weight_is : g.weight ≡ group_weight axles g.i g.j
  pub before : g.i < n
  pub greatest : (i j : ℕ) → IsTridem axles i j → i < n → group_weight axles i j ≤ g.weight
  pub first : (i j : ℕ) → IsTridem axles i j → i < g.i → group_weight axles i j < g.weight

abbrev pub HasNoTridemBefore : List Axle → ℕ → Type 0
HasNoTridemBefore axles n = (i j : ℕ) → IsTridem axles i j → i < n → ⊥

abbrev pub IsHeaviestSoFar : List Axle → ℕ → Option Heaviest → Type 0
IsHeaviestSoFar axles n best = MatchOption best (HasNoTridemBefore axles n) (IsHeaviestBefore axles n)

-- whether a tridem group begins with axle i, which has two behind it
abbrev pub is_tridem : List Axle → ℕ → Bool
is_tridem axles i = nat_lt TANDEM_SPREAD (spread axles i (i + 2)) && nat_le (spread axles i (i + 2)) TRIDEM_SPREAD

-- three axles from axle i on, and their weight
abbrev pub three_at : List Axle → ℕ → Heaviest
three_at axles i = record { i = i; j = i + 2; weight = group_weight axles i (i + 2) }

abbrev pub tridem_at : List Axle → ℕ → Option Heaviest
tridem_at axles i = if is_tridem axles i then Some (three_at axles i) else None

-- the axles with two behind them
abbrev pub starts_of : List Axle → List ℕ
starts_of axles = range_with_len 0 (length axles - 2)

-- whether a tridem group begins with axle i, and none of the truck weighs more
abbrev pub is_heaviest_at : List Axle → ℕ → Bool
is_heaviest_at axles i =
    is_tridem axles i
    && list_all (λ k. not (is_tridem axles k) || nat_le (group_weight axles k (k + 2)) (group_weight axles i (i + 2))) (starts_of axles)

-- the heaviest tridem group, computed: the first such that none weighs more
unfoldable pub heaviest_tridem_of : List Axle → Option Heaviest
heaviest_tridem_of axles = option_map (three_at axles) (find (is_heaviest_at axles) (starts_of axles))

-- of two groups, the one that is heavier, and the first where they weigh the same
abbrev pub heavier_of : Option Heaviest → Option Heaviest → Option Heaviest
heavier_of None next = next
heavier_of (Some best) None = Some best
heavier_of (Some best) (Some next) = if nat_le next.weight best.weight then Some best else Some next

-- the heaviest tridem group is computed, and a truck has no other one
pub record TridemIsComputed : Type 0 where
  pub some : (axles : List Axle) (g : Heaviest) → (heaviest_tridem_of axles ≡ Some g) ↔ IsHeaviestTridem axles g
  pub none : (axles : List Axle) → (heaviest_tridem_of axles ≡ None) ↔ HasNoTridem axles
