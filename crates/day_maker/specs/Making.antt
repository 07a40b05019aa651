-- Records that are made one after another, with draws between them. What is made is said of the number that stands before
-- its first draw, and tells the number that stands behind its last one.
use Rattle.std.specs.Prelude.{ℕ, zero, suc, ◌+◌, ◌*◌, ◌%◌, Bool, if◌then◌else◌, List, [], ◌∷◌, ◌++◌}
use Rattle.day_text.specs.Records.{Row}

-- some records, and the number behind their draws
pub record Made : Type 0 where
  pub rows : List Row
  pub next : ℕ

-- what is made, by the number that stands before its first draw
abbrev pub Maker : Type 0
Maker = ℕ → Made

-- a value that is drawn: the value, and the number behind its draws
abbrev pub Draws : Type 0 → Type 0
Draws A = ℕ → A × ℕ

-- the number behind one draw: the linear congruential generator of Lehmer's kind with modulus 65,537, factor 75 and increment 74
unfoldable pub drawn : ℕ → ℕ
drawn x = (75 * x + 74) % 65537

-- a number below m
abbrev pub draw : ℕ → Draws ℕ
draw m = λ x. (drawn x % m, drawn x)

infixl 10 ◌>>=◌
-- what is made with a drawn value
abbrev pub ◌>>=◌ : {A : Type 0} → Draws A → (A → Maker) → Maker
draws >>= make = λ x. make (draws x).0 (draws x).1

infixl 10 ◌>>◌
-- one thing and then another
abbrev pub ◌>>◌ : Maker → Maker → Maker
first >> second = λ x. record { rows = (first x).rows ++ (second (first x).next).rows; next = (second (first x).next).next }

-- no record, and no draw
abbrev pub nothing : Maker
nothing = λ x. record { rows = []; next = x }

-- one record, and no draw
abbrev pub put : Row → Maker
put fields = λ x. record { rows = fields ∷ []; next = x }

-- something, where a test holds
abbrev pub when : Bool → Maker → Maker
when holds make = if holds then make else nothing

-- so many things one after another, numbered from `first` on
unfoldable pub each : ℕ → ℕ → (ℕ → Maker) → Maker
each first zero make = nothing
each first (suc count) make = make first >> each (first + 1) count make
