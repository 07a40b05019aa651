use Rattle.std.proofs.Common.{◌≡◌, ◌∙◌, ◌-◌, take, drop, length, arith}
use Rattle.std.proofs.Math.Seq.{take-add}
use Rattle.std.proofs.lemmas.Grind.{common_steps}
use Rattle.std.proofs.KnownBytes.{Appends-trans}
use Rattle.office_io.proofs.sink.write_all.Goals as goal

pub pieces-preserved : goal.pieces-preserved
pieces-preserved g c =
    let bytes = c.args.bytes.now in
    let w = c.pieces.written in
    let n = c.in-Ok.n in
    let rest : take (length bytes - w) (drop w bytes) ≡ drop w bytes = grind (arith, common_steps) in
    let piece = rw rest at c.in-Ok.ensures.bytes in
    record {
      within = grind (arith, common_steps, c.in-Ok.ensures.bound);
      held = rw (take-add w n bytes) (Appends-trans _ _ _ (take w bytes) (take n (drop w bytes)) c.pieces.invariant.held piece);
      stands = c.in-Ok.ensures.cause.stands ∙ c.pieces.invariant.stands;
    }
