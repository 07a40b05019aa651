-- The segments that leave a set of nodes, one after another.
use Rattle.std.proofs.Common.{◌≡◌, ◌+◌, ◌-◌, ◌<◌, ◌≤◌, ◌∷◌, [], ℕ, List, cond, true, false, suc, length, filter, ap, ◌∙◌, arith}
use Rattle.std.specs.List.{range_with_len}
use Rattle.road_graph.specs.Roads.{Roads}
use Rattle.trip_analysis.specs.Findings.{leaves, leaving_from}

range_more : (s n : ℕ) → s < n → range_with_len s (n - s) ≡ s ∷ range_with_len (s + 1) (n - (s + 1))
range_more s n h = let e : n - s ≡ suc (n - (s + 1)) = omega (arith, h) in ap (range_with_len s) e

pub leaving_yes : (roads : Roads) (nodes : List ℕ) (s : ℕ) → s < length roads.segments → leaves roads nodes s ≡ true → leaving_from roads nodes s ≡ s ∷ leaving_from roads nodes (s + 1)
leaving_yes roads nodes s h e = ap (filter (leaves roads nodes)) (range_more s (length roads.segments) h) ∙ ap (λ b. cond b (s ∷ leaving_from roads nodes (s + 1)) (leaving_from roads nodes (s + 1))) e

pub leaving_no : (roads : Roads) (nodes : List ℕ) (s : ℕ) → s < length roads.segments → leaves roads nodes s ≡ false → leaving_from roads nodes s ≡ leaving_from roads nodes (s + 1)
leaving_no roads nodes s h e = ap (filter (leaves roads nodes)) (range_more s (length roads.segments) h) ∙ ap (λ b. cond b (s ∷ leaving_from roads nodes (s + 1)) (leaving_from roads nodes (s + 1))) e

pub leaving_none : (roads : Roads) (nodes : List ℕ) (s : ℕ) → length roads.segments ≤ s → leaving_from roads nodes s ≡ []
leaving_none roads nodes s h = let e : length roads.segments - s ≡ 0 = omega (arith, h) in ap (λ n. filter (leaves roads nodes) (range_with_len s n)) e

pub ruleset lemmas = (leaving_yes, leaving_no, leaving_none)
