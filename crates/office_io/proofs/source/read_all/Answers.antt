use Rattle.std.proofs.Common.{◌++◌, take, arith}
use Rattle.std.proofs.lemmas.Grind.{common_steps}
use Rattle.std.proofs.KnownBytes.{Consumes-trans}
use Rattle.office_io.proofs.source.read_all.Goals as goal

pub returns-then-is_err-clause-most : goal.returns-then-is_err-clause-most
returns-then-is_err-clause-most g c =
    (c.pieces.bytes.items ++ take c.in-Ok.n c.read.new.buffer, Consumes-trans _ _ _ _ _ c.pieces.invariant.left c.in-Ok.ensures.bytes.0, grind (arith, common_steps))
