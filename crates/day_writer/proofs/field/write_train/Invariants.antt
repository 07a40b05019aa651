use Rattle.std.proofs.Common.{◌≡◌, ◌++◌, take}
use Rattle.day_writer.specs.Texts.{axle_text, joined}
use Rattle.day_writer.proofs.field.write_train.Given as goal

abbrev pub invariant-more : goal.invariant-more
invariant-more l = l.out.items ≡ l.fn.out.items ++ joined 32 axle_text (take l.i l.train)
