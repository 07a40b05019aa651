use Rattle.std.proofs.Common.{◌-◌, ◌∙◌, arith, drop, length}
use Rattle.std.proofs.lemmas.List.{get_or-take, length-take}
use Rattle.journal_reader.proofs.Pieces.{none_before}
use Rattle.journal_reader.proofs.parts.find.Goals as goal

pub returns-clause-none : goal.returns-clause-none
returns-clause-none c =
    let rest = drop c.min-near.result c.args.bytes.now in
    let left = length c.args.bytes.now - c.min-near.result in
    let long = length-take left rest in
    none_before c.args.bytes.now c.args.sep c.min-near.result c.find_far.result (λ k low. c.loop-at.invariant k (omega arith))
    (λ k low e. c.find_far.ensures.none k low (get_or-take left rest k 0 (omega (arith, long, c.find_far.ensures.within)) ∙ e))
