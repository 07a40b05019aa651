use Rattle.std.proofs.Common.{sym, ◌∙◌, ap}
use Rattle.std.specs.Prelude.{drop}
use Rattle.journal_text.specs.Parts.{limit_text}
use Rattle.journal_text.proofs.Joined.{limit_alone}
use Rattle.journal_text.proofs.parts.limit_text.Goals as goal

pub drop_space-requires : goal.drop_space-requires
drop_space-requires c =
    (limit_text c.args.failing.now, limit_alone c.new-text.result.items c.limit.new.out.items c.args.failing.now c.new-text.ensures.items c.in_ok-limit.ensures)

pub returns : goal.returns
returns c =
    let whole = limit_alone c.new-text.result.items c.limit.new.out.items c.args.failing.now c.new-text.ensures.items c.in_ok-limit.ensures in
    ap (drop 1) (sym c.drop_space.ensures ∙ whole)
