use Rattle.std.proofs.Common.{◌∷◌, ◌++◌, ◌∙◌, List, ℕ, ap, arith}
use Rattle.std.proofs.lemmas.List.{take_all}
use Rattle.journal_text.specs.Words.{index, list_text, routes_text}
use Rattle.journal_text.proofs.Pieces.{first_route, one_more_route}
use Rattle.journal_text.proofs.words.route_lists.Goals as goal

pub routes-init : goal.routes-init
routes-init c =
    first_route c.args.out.now.items c.print.new.out.items c.args.routes.now c.len-count.ensures.routes.some
    (c.in_ok-print.ensures ∙ ap (λ (r : List ℕ). c.args.out.now.items ++ (32 ∷ list_text index r)) c.route.ensures)

pub routes-preserved : goal.routes-preserved
routes-preserved c =
    one_more_route c.args.out.now.items c.routes.out.items c.print-in-routes.new.out.items c.args.routes.now c.routes.i c.routes.auto.i (omega (arith, c.len-count.ensures.count)) c.routes.invariant
    (c.in_ok-print-2.ensures ∙ ap (λ (r : List ℕ). c.routes.out.items ++ (47 ∷ list_text index r)) c.route-in-routes.ensures)

pub returns : goal.returns
returns c = c.routes.invariant ∙ ap (λ (r : List (List ℕ)). c.args.out.now.items ++ (32 ∷ routes_text r)) (take_all c.routes.i c.args.routes.now (omega (arith, c.len-count.ensures.count)))
