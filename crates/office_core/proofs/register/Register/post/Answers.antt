use Rattle.std.proofs.Common.{◌≡◌, ◌+◌, ap, ◌∙◌}
use Rattle.restriction_log.specs.Changes.{touched}
use Rattle.trip_analysis.specs.Bases.{BaseLists}
use Rattle.office_core.specs.Registers.{RegisterParts, recalls_of}
use Rattle.office_core.proofs.Registers.{posted_as}
use Rattle.office_core.proofs.register.Register.post.Goals as goal

pub recalled_by-requires-clause-elsewhere : goal.recalled_by-requires-clause-elsewhere
recalled_by-requires-clause-elsewhere g c = let p : RegisterParts = c.args.self.now in
    let touches : c.touched-segment.result ≡ touched p.base.roads c.args.change.now =
    c.touched-segment.ensures.value ∙ ap (λ roads. touched roads c.args.change.now) (c.network.ensures ∙ ap (λ (b : BaseLists). b.roads) c.base.ensures.value) in
    rw (c.state.ensures, touches) c.in-Ok.ensures.elsewhere

pub returns-clause-given : goal.returns-clause-given
returns-clause-given g c = let p : RegisterParts = c.args.self.now in
    c.in_ok-answer.ensures.reply ∙ posted_as p c.in-Ok.next c.args.change.now c.of-recalled.result (c.version-version.result + 1) c.in-Ok.ensures.next c.in-Ok.ensures.change
    (c.of-recalled.ensures ∙ (c.in_ok-recalled_by.ensures.numbers ∙ ap (recalls_of p) c.state.ensures)) (ap (λ n. n + 1) c.version-version.ensures)
