-- Readings of a counter that grow with a history.
use Prim.Native.Nat.{suc}
use Rattle.std.proofs.Common.{◌≡◌, ◌∷◌, ◌++◌, [], List, ℕ, ap, length, refl, subst, sym}
use Rattle.trip_analysis.specs.Bases.{BaseLists}
use Rattle.office_words.specs.declared.entry.Entry.{Entry}
use Rattle.office_core.specs.Costs.{AreReadings, Counts, IsCost}
use Rattle.office_core.specs.Machine.{Machine, after_all, after_entry, machine_of, opened}
use Rattle.office_core.specs.Readings.{last_of}

-- what is read last of a counter that stood at a number before
abbrev last_from : ℕ → List ℕ → ℕ
last_from before [] = before
last_from before (n ∷ rest) = last_from n rest

readings_more : (base : BaseLists) (m : Machine) (es : List Entry) (e : Entry) (before : ℕ) (ns : List ℕ) (n : ℕ)
    → AreReadings base m es before ns → IsCost base (after_all base m es) e.call (last_from before ns) n → AreReadings base m (es ++ e ∷ []) before (ns ++ n ∷ [])
readings_more base m [] e before [] n counts cost = (cost, tt)
readings_more base m (x ∷ es) e before (k ∷ ns) n (first, counts) cost = (first, readings_more base (after_entry base m x) es e k ns n counts cost)
readings_more base m [] e before (k ∷ ns) n counts cost = absurd counts
readings_more base m (x ∷ es) e before [] n counts cost = absurd counts

last_is : (before : ℕ) (n : ℕ) (rest : List ℕ) → last_from before (n ∷ rest) ≡ last_of (n ∷ rest)
last_is before n [] = refl
last_is before n (k ∷ rest) = last_is n k rest

last_same : (ns : List ℕ) → last_of ns ≡ last_from 0 ns
last_same [] = refl
last_same (n ∷ rest) = sym (last_is 0 n rest)

-- the turn of one entry more
pub counted_more : (base : BaseLists) (day : List ℕ) (es : List Entry) (e : Entry) (readings : List ℕ) (n : ℕ)
    → Counts base day es readings → IsCost base (machine_of base day es) e.call (last_of readings) n → Counts base day (es ++ e ∷ []) (readings ++ n ∷ [])
counted_more base day es e readings n counts cost =
    readings_more base (opened day) es e 0 readings n counts (subst (λ (k : ℕ). IsCost base (machine_of base day es) e.call k n) (last_same readings) cost)

-- there are as many readings as entries
readings_each : (base : BaseLists) (m : Machine) (es : List Entry) (before : ℕ) (ns : List ℕ) → AreReadings base m es before ns → length ns ≡ length es
readings_each base m [] before [] counts = refl
readings_each base m (e ∷ es) before (n ∷ ns) counts = ap suc (readings_each base (after_entry base m e) es n ns counts.1)
readings_each base m [] before (n ∷ ns) counts = absurd counts
readings_each base m (e ∷ es) before [] counts = absurd counts

pub counted_each : (base : BaseLists) (day : List ℕ) (es : List Entry) (readings : List ℕ) → Counts base day es readings → length readings ≡ length es
counted_each base day es readings counts = readings_each base (opened day) es 0 readings counts

-- what was read last
pub last_push : (ns : List ℕ) (n : ℕ) → last_of (ns ++ n ∷ []) ≡ n
last_push [] n = refl
last_push (k ∷ []) n = refl
last_push (k ∷ j ∷ rest) n = last_push (j ∷ rest) n
