-- Stories: lists of entries, each of which tells the number of its caller.
use Rattle.std.specs.Prelude.{◌≡◌, ℕ, List, [], ◌∷◌, ◌++◌, length, filter, ◌==◌, nat_lt, if◌then◌else◌}

-- the entries of one caller, each once, in their order
abbrev pub entries_of : {E : Type 0} → (E → ℕ) → ℕ → List E → List E
entries_of caller number = filter (λ e. caller e == number)

-- a list goes on from another, which is its front
abbrev pub StartsWith : {A : Type 0} → List A → List A → Type 0
StartsWith {A} all front = (more : List A) × (all ≡ front ++ more)

-- a list goes on from each of two others
abbrev pub StartsWithBoth : {A : Type 0} → List A → List A → List A → Type 0
StartsWithBoth all one other = StartsWith all one × StartsWith all other

-- a list goes on from another by one entry, which is this caller's
abbrev pub HasOneMore : {E : Type 0} → (E → ℕ) → ℕ → List E → List E → Type 0
HasOneMore {E} caller number front all = (e : E) × (all ≡ front ++ e ∷ []) × (caller e ≡ number)

-- the longer of two lists, and the first where they are of one length
abbrev pub longer_of : {A : Type 0} → List A → List A → List A
longer_of xs ys = if nat_lt (length xs) (length ys) then ys else xs

-- the other one
abbrev pub shorter_of : {A : Type 0} → List A → List A → List A
shorter_of xs ys = if nat_lt (length xs) (length ys) then xs else ys
