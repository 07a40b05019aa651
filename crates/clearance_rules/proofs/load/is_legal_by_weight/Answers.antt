-- The worst group decides for all.
use Rattle.std.proofs.Common.{ℕ, Bool, ◌&&◌, leb, ap, sym, ◌∙◌}
use Rattle.std.proofs.lemmas.Bool.{le-leb, lt-leb}
use Rattle.axle_limits.specs.declared.legal.TheConstants.{GROSS_LIMIT}
use Rattle.axle_limits.specs.Groups.{gross_of}
use Rattle.axle_limits.proofs.Allowance.{legal_by_worst}
use Rattle.clearance_rules.proofs.load.is_legal_by_weight.Goals as goal

pub returns-then-worst : goal.returns-then-worst
returns-then-worst c =
    let g = c.args.worst.now in
    ap (λ (n : ℕ). leb n GROSS_LIMIT) c.gross.ensures.sum
    ∙ sym (legal_by_worst c.args.train.now g c.requires ∙ ap (λ (b : Bool). b && leb (gross_of c.args.train.now) GROSS_LIMIT) (le-leb g.weight g.limit c.if-worst.true))

pub returns-else-worst : goal.returns-else-worst
returns-else-worst c =
    let g = c.args.worst.now in
    let over = lt-leb g.weight g.limit c.if-worst.false in
    over ∙ sym (legal_by_worst c.args.train.now g c.requires ∙ ap (λ (b : Bool). b && leb (gross_of c.args.train.now) GROSS_LIMIT) over)
