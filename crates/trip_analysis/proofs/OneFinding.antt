-- There is one finding.
use Rattle.std.proofs.Common.{◌≡◌, ℕ, List, Option, Some, None, ap, sym, ◌∙◌, inl, inr}
use Rattle.std.proofs.lemmas.Bool.{cases_Bool}
use Rattle.restriction_log.specs.States.{InForce}
use Rattle.route_search.proofs.Uniqueness.{shortest_unique}
use Rattle.trip_analysis.specs.declared.application.Application.{Application}
use Rattle.trip_analysis.specs.declared.finding.What.{What}
use Rattle.trip_analysis.specs.Bases.{BaseLists}
use Rattle.trip_analysis.specs.Passing.{flags_of, needs_none}
use Rattle.trip_analysis.specs.Findings.{IsFinding, IsFoundBy, proposed_of}

by_one : (base : BaseLists) (state : InForce) (a : Application) (v w : What) (asked : Option (List (List ℕ))) → IsFoundBy base state a asked v → IsFoundBy base state a asked w → v ≡ w
by_one base state a v w (Some routes) g h = g ∙ sym h
by_one base state a v w None g h =
    let (f, f_found, f_same) = g in let (k, k_found, k_same) = h in
    f_same ∙ (ap proposed_of (shortest_unique base.roads (flags_of base state a.truck) a.from a.to f k f_found k_found) ∙ sym k_same)

pub one_finding : (base : BaseLists) (state : InForce) (a : Application) (v w : What) → IsFinding base state a v → IsFinding base state a w → v ≡ w
one_finding base state a v w g h =
    elim (cases_Bool (needs_none base a.truck)) [
      | inl e ↦ g.legal e ∙ sym (h.legal e)
      | inr e ↦ by_one base state a v w a.asked (g.found e) (h.found e)
    ]
