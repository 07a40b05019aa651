use Rattle.std.proofs.Common.{◌<◌, length, slice_index_or, slice_set, [], ap, refl, sym, subst, ◌∙◌, arith}
use Rattle.std.proofs.lemmas.List.{get_or_default}
use Rattle.recall_index.specs.Uses.{AreAllOrNone, Lists, without_each}
use Rattle.recall_index.proofs.Lists.{next_among, taken_more}
use Rattle.recall_index.proofs.index.Index.take_out.Goals as goal

pub remove_each-requires-clause-among : goal.remove_each-requires-clause-among
remove_each-requires-clause-among c =
    let lists : Lists = c.loop-i.self-inside.users.items in
    let at = slice_index_or c.args.segments.now c.loop-i.i 0 in
    let low : c.loop-i.i < length c.args.segments.now = omega arith in
    let here : at < length lists = omega (arith, c.requires.segments c.loop-i.i 0 low, c.loop-i.invariant.many) in
    subst (AreAllOrNone c.args.numbers.now) (sym (c.index_mut.ensures.value ∙ get_or_default lists at c.index_mut.result.now [] here))
    (next_among c.args.self.now lists lists c.args.numbers.now at c.args.segments.now c.loop-i.i low refl here c.loop-i.invariant (c.requires.among c.loop-i.i 0 low))

pub loop-i-preserved : goal.loop-i-preserved
loop-i-preserved c =
    let lists : Lists = c.loop-i.self-inside.users.items in
    let at = slice_index_or c.args.segments.now c.loop-i.i 0 in
    let low : c.loop-i.i < length c.args.segments.now = omega arith in
    let here : at < length lists = omega (arith, c.requires.segments c.loop-i.i 0 low, c.loop-i.invariant.many) in
    taken_more c.args.self.now lists _ c.args.numbers.now at c.args.segments.now c.loop-i.i low refl here c.loop-i.invariant
    (ap (λ l. slice_set lists at l) (c.remove_each.ensures ∙ ap (without_each c.args.numbers.now) (c.index_mut.ensures.value ∙ get_or_default lists at c.index_mut.result.now [] here)))
