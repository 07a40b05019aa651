use Rattle.std.proofs.Common.{◌≡◌, ◌<◌, ℕ, Option, Some, length}
use Rattle.std.specs.Prelude.{slice_get}
use Rattle.route_search.specs.Heights.{columns, height_at, height_of}
use Rattle.route_search.proofs.heights.write.Given as goal

abbrev pub invariant-loop-i : goal.invariant-loop-i
invariant-loop-i l = record {
  many : length l.rows.items ≡ length l.fn.rows.items;
  here : (v : ℕ) (p : Option ℕ) → v < l.i → slice_get l.lengths v ≡ Some p → height_at l.rows.items v l.column ≡ height_of p;
  others : (v j : ℕ) → j < columns → (j ≡ l.column → ⊥) → height_at l.rows.items v j ≡ height_at l.fn.rows.items v j;
}
