use Rattle.std.proofs.Common.{◌≡◌, ◌∙◌, ◌<◌, Bool, List, Some, true, false, ap, arith, length, refl, rules, ℕ}
use Rattle.std.specs.Prelude.{slice_get}
use Rattle.std.proofs.lemmas.Option.{slice_get_read}
use Rattle.route_search.proofs.Regions.{cut_told, no_road_told}
use Rattle.route_search.proofs.region.Region.why.Goals as goal

-- a mark that was read
mark_at : (marks : List Bool) (i : ℕ) (x b : Bool) → slice_get marks i ≡ Some x → x ≡ b → slice_get marks i ≡ Some b
mark_at marks i x b at e = at ∙ ap (λ (y : Bool). Some y) e

pub returns-in_ok-reached : goal.returns-in_ok-reached
returns-in_ok-reached c = λ roads passable root from is off.
    let region = c.args.self.now in
    let marks = region.any.marks.items in
    let within : c.args.to < length marks = omega (arith, c.requires, region.marks_are_as_many, region.marks_back_are_as_many) in
    let at = slice_get_read marks (length marks) c.args.to c.index.result.now refl within c.index.ensures in
    let same : c.in_ok-reached.reached ≡ region.passable.numbers = search rules in
    rw same (cut_told roads passable root region is from c.args.to off (mark_at marks c.args.to c.index.result.now true at c.if-index.true))

pub returns-in_ok-reached-2 : goal.returns-in_ok-reached-2
returns-in_ok-reached-2 c = λ roads passable root from is off.
    let region = c.args.self.now in
    let marks = region.any.marks.items in
    let within : c.args.to < length marks = omega (arith, c.requires, region.marks_are_as_many, region.marks_back_are_as_many) in
    let at = slice_get_read marks (length marks) c.args.to c.index.result.now refl within c.index.ensures in
    let same : c.in_ok-reached-2.reached ≡ region.any.numbers = search rules in
    rw same (no_road_told roads passable root region is from c.args.to off (mark_at marks c.args.to c.index.result.now false at c.if-index.false))
