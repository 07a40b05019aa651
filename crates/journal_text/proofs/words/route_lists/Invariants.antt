use Rattle.std.proofs.Common.{◌≡◌, ◌++◌, ◌∷◌, take}
use Rattle.journal_text.specs.Words.{routes_text}
use Rattle.journal_text.proofs.words.route_lists.Given as goal

abbrev pub invariant-routes : goal.invariant-routes
invariant-routes l = l.out.items ≡ l.fn.out.items ++ (32 ∷ routes_text (take l.i l.routes))
