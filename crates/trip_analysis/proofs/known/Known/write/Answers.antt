use Rattle.std.proofs.Common.{◌≡◌, ◌∙◌, List, Bool, Option, true, set, refl, subst, sym, arith}
use Rattle.std.specs.Prelude.{IfSome}
use Rattle.std.proofs.lemmas.List.{length-set}
use Rattle.route_search.proofs.Staying.{potentials_stay}
use Rattle.trip_analysis.specs.declared.kept.Settled.{Settled}
use Rattle.trip_analysis.specs.Known.{IsSettled}
use Rattle.trip_analysis.proofs.known.Known.write.Goals as goal

pub returns-else-not-is_slack-clause-known : goal.returns-else-not-is_slack-clause-known
returns-else-not-is_slack-clause-known c =
    let a = c.args in let flags = a.self.now.passable.items in let kept = c.in-Some.settled in
    let are : List Bool → Option Settled → Type 0 = λ passable settled. IfSome settled (IsSettled a.network.now passable) in
    let old = subst (are flags) c.in-Some.is c.requires.known.kept.settled in
    let slack : c.is_slack.result ≡ true = grind (arith, c.if-not-is_slack.false) in
    record {
      many = length-set flags a.segment a.passable ∙ c.requires.known.many;
      kept = record {
        settled = subst (are (set flags a.segment a.passable)) (sym c.in-Some.is) (record {
          there = old.there;
          least = potentials_stay a.network.now flags _ kept.goal kept.potentials a.segment a.passable c.requires.roads old.least old.there c.requires.segment refl (sym c.is_slack.ensures ∙ slack);
        });
        region = tt;
      };
    }
