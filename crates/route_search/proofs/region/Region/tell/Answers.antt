use Rattle.std.proofs.Common.{◌∙◌, sym}
use Rattle.route_search.proofs.Regions.{cut_off, not_cut_off}
use Rattle.route_search.proofs.region.Region.tell.Goals as goal

pub returns-in_ok-found-clause-told : goal.returns-in_ok-found-clause-told
returns-in_ok-found-clause-told c = λ roads passable root is.
    let a = c.args in
    let off = cut_off roads passable root a.self.now is a.from a.to (sym c.is_cut_off.ensures ∙ c.if-is_cut_off.true) in
    let told = c.why.ensures roads passable root a.from is off in
    rw c.in_ok-found.was at told

pub returns-else-is_cut_off-clause-all : goal.returns-else-is_cut_off-clause-all
returns-else-is_cut_off-clause-all c = λ roads passable root is.
    let a = c.args in
    not_cut_off roads passable root a.self.now is a.from a.to (sym c.is_cut_off.ensures ∙ c.if-is_cut_off.false)
