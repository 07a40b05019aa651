-- What is known of the trucks, as more is learned of one of them.
use Rattle.std.proofs.Common.{◌≡◌, ◌⊎◌, ◌<◌, ℕ, List, length, get_or, set, sym, ap, ◌∙◌, subst, arith, inl, inr, Option}
use Rattle.std.specs.Prelude.{IfSome}
use Rattle.std.proofs.lemmas.Bool.{cases_eq}
use Rattle.std.proofs.lemmas.List.{get_or-set_other, get_or-set_same, length-set}
use Rattle.restriction_log.specs.States.{InForce}
use Rattle.route_search.specs.Heights.{AreHeights}
use Rattle.trip_analysis.specs.declared.analyst.Analyst.{Analyst}
use Rattle.trip_analysis.specs.declared.kept.Kept.{Kept}
use Rattle.trip_analysis.specs.declared.known.Known.{Known}
use Rattle.trip_analysis.specs.Bases.{BaseLists}
use Rattle.trip_analysis.specs.Known.{AreKnown, IsKeptOver, IsKnown}

-- what is known of a truck stays known while it may pass the same segments, and what is kept beside them is over these
pub known_after : (base : BaseLists) (state : InForce) (truck : ℕ) (known : Known) (kept : Kept) → IsKnown base state truck known → IsKeptOver base.roads known.passable.items kept
    → IsKnown base state truck (record { passable = known.passable; kept = kept })
known_after base state truck known kept is are = record { passable = is.passable; of_roads = record { many = is.of_roads.many; kept = are } }

-- what is known of the trucks stays known where that of one of them is replaced by what is known of it too
module _ (base : BaseLists) (state : InForce) (a b : Analyst) (truck number : ℕ) (known : Option Known) (all : AreKnown base state a) (same : truck ≡ number) (there : number < length base.fleet) where
  within : truck < length a.known.items
  within = omega (arith, all.many, same, there)

  by : IfSome known (IsKnown base state truck) → (k : ℕ) (d : Option Known) → k < length base.fleet → (truck ≡ k) ⊎ (truck ≡ k → ⊥) → IfSome (get_or (set a.known.items truck known) k d) (IsKnown base state k)
  by is k d less (inl e) =
      let here : IfSome (get_or (set a.known.items truck known) truck d) (IsKnown base state truck) = subst (λ (o : Option Known). IfSome o (IsKnown base state truck)) (sym (get_or-set_same a.known.items truck known d within)) is in
      subst (λ (n : ℕ). IfSome (get_or (set a.known.items truck known) n d) (IsKnown base state n)) e here
  by is k d less (inr ne) =
      subst (λ (o : Option Known). IfSome o (IsKnown base state k)) (sym (get_or-set_other a.known.items truck k known d (λ e. ne (sym e)))) (all.each k d less)

  pub known_with : b.known.items ≡ set a.known.items truck known → AreHeights base.roads.segments b.tables.heights → IfSome known (IsKnown base state truck) → AreKnown base state b
  known_with items heights is = record {
    heights = heights;
    many = ap length items ∙ (length-set a.known.items truck known ∙ all.many);
    each = λ k d less. subst (λ (l : List (Option Known)). IfSome (get_or l k d) (IsKnown base state k)) (sym items) (by is k d less (cases_eq truck k));
  }
