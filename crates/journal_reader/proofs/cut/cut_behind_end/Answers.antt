use Rattle.std.proofs.Common.{sym, ◌∙◌}
use Rattle.journal_reader.proofs.Cutting.{cut_here}
use Rattle.journal_reader.proofs.cut.cut_behind_end.Goals as goal

pub returns-then-starts_with : goal.returns-then-starts_with
returns-then-starts_with c = rw (c.split_at.ensures.front, c.split_at.ensures.back)
    (cut_here c.args.bytes.now c.lines.rest.now c.in-Some.found.now c.in-Some.behind.now c.lines.invariant c.in-Some.ensures.found.0 c.in-Some.ensures.found.1
    (sym c.starts_with.ensures.value ∙ c.if-starts_with.true))
