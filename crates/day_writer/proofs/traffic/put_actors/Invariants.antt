use Rattle.std.proofs.Common.{◌≡◌, ◌++◌, map, take}
use Rattle.day_writer.specs.Rows.{actor_row}
use Rattle.day_writer.specs.Texts.{text_of}
use Rattle.day_writer.proofs.traffic.put_actors.Given as goal

abbrev pub invariant-actors : goal.invariant-actors
invariant-actors l = l.page ≡ l.fn.page ++ text_of (map actor_row (take l.name-index l.actors))
