use Rattle.std.proofs.Common.{◌<◌, length, refl}
use Rattle.std.proofs.lemmas.Option.{slice_get_read}
use Rattle.route_search.proofs.Tables.{noted_again, noted_first}
use Rattle.route_search.proofs.table.Table.note.Goals as goal
use Rattle.route_search.proofs.table.Table.note.Goals.{then-is_none+in_ok-push, else-is_none}

pub invariant_of-self-2 : goal.invariant_of-self-2
invariant_of-self-2 c =
    let ls = c.self.inside.lengths.items in let touched = c.self.inside.touched.items in let u = c.args.node in let d = c.args.feet in
    let within : u < length ls = rw (← c.self.view_is) at c.requires in
    elim c.if-is_none.branch [
      | then-is_none+in_ok-push w ↦ rw (w.self-inside-is, w.in_ok-push.ensures.items) (noted_first ls touched u d within c.self.invariant.0, c.self.invariant.1)
      | else-is_none w ↦ (let at = slice_get_read ls (length ls) u c.index.result.now refl within c.index.ensures in
          rw w.self-inside-is (noted_again ls touched u d c.index.result.now at w.if-is_none.ensures c.self.invariant.0, c.self.invariant.1))
    ]
