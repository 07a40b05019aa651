use Rattle.std.proofs.Common.{[], ◌≡◌, ◌∙◌}
use Rattle.route_search.specs.Walks.{feet_of}
use Rattle.route_search.proofs.Joined.{walk_falls}
use Rattle.route_search.proofs.heights.Heights.fall.Goals as goal

pub returns-in-Some-Some : goal.returns-in-Some-Some
returns-in-Some-Some c = λ path walk.
    let a = c.args in let rows = a.self.now in
    let is : c.deref.result.now ≡ rows = c.deref.ensures.value ∙ c.self.view_is in
    let is2 : c.deref-2.result.now ≡ rows = c.deref-2.ensures.value ∙ c.self.view_is in
    let high = rw is at (c.in-Some-Some.ensures.lookup.3.1 []) in
    let low = rw is2 at (c.in-Some-Some.ensures'.lookup.3.1 []) in
    c.greatest_fall.ensures (feet_of a.network.now.segments path) (λ j within.
    let falls = walk_falls a.network.now.segments rows j a.from a.to path within c.requires.heights walk in
    rw (high, low) falls)
