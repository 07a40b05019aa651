use Rattle.std.proofs.Common.{refl, sym, get_or, ◌∙◌}
use Rattle.office_core.proofs.Retesting.{along_more, along_none}
use Rattle.office_core.proofs.register.Register.first_failing.Goals as goal

pub places-init : goal.places-init
places-init g c = along_none _ _ _ _ _ _ c.requires.met

pub places-preserved : goal.places-preserved
places-preserved g c =
    let a = c.args in let i = c.places.i in
    along_more a.self.now.base a.self.now.machine.postings a.seen a.truck a.segments.now i (get_or a.segments.now i 0) a.steps.now c.places.steps c.limit_if_changed.new.steps
    c.places-test.true refl (sym c.in_default.is ∙ c.limit_if_changed.ensures.value) c.limit_if_changed.ensures.steps c.places.invariant
