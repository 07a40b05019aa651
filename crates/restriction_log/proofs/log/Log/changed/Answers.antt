use Rattle.std.proofs.Common.{◌≡◌, ◌∙◌, ◌-◌, List, length, take, drop, sym, ap, arith, length-drop}
use Rattle.std.proofs.lemmas.List.{take_all}
use Rattle.restriction_log.specs.declared.change.Change.{Change}
use Rattle.restriction_log.specs.Changes.{is_touched}
use Rattle.restriction_log.proofs.Elsewhere.{agree-since}
use Rattle.restriction_log.proofs.log.Log.changed.Goals as goal

pub returns-then-after-len-clause-meaning : goal.returns-then-after-len-clause-meaning
returns-then-after-len-clause-meaning c =
    let xs : List Change = c.deref.result.now in let n = c.args.after in
    let rest : take (length xs - n) (drop n xs) ≡ drop n xs = take_all (length xs - n) (drop n xs) (omega (arith, length-drop n xs)) in
    let whole : xs ≡ c.args.self.now = c.deref.ensures.value ∙ c.self.view_is in
    let value = c.is_touched.ensures ∙ ap (is_touched c.args.network.now c.args.segment) (rest ∙ ap (drop n) whole) in
    λ none. agree-since c.args.network.now c.args.segment n c.args.self.now (sym value ∙ none)
