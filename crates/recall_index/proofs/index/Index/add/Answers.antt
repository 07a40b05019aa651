use Rattle.std.proofs.Common.{◌<◌, ◌∷◌, List, ℕ, length, take, slice_index_or, slice_set, [], ap, refl, sym, subst, ◌∙◌, arith}
use Rattle.std.proofs.lemmas.List.{get_or_default}
use Rattle.recall_index.specs.Uses.{AreTakenOut, IsAdded, Lists, with_last}
use Rattle.recall_index.proofs.Lists.{added_more, one_alone, put_back, undone}
use Rattle.recall_index.proofs.index.Index.add.Goals as goal

pub take_out-requires-clause-among : goal.take_out-requires-clause-among
take_out-requires-clause-among c = λ k d low. one_alone c.args.number _

pub returns-in-Err-clause-unchanged : goal.returns-in-Err-clause-unchanged
returns-in-Err-clause-unchanged c =
    let front : List ℕ = take c.loop-i.i c.args.route.now in
    let back = put_back c.self.inside.users.items _ c.index_mut.result.now c.add.new.self c.index_mut.ensures.value c.in-Err.ensures.unchanged in
    let gone = subst (λ (l : Lists). AreTakenOut l (c.args.number ∷ []) front c.take_out.new.self) (back ∙ c.self.view_is) c.take_out.ensures in
    undone c.args.self.now c.loop-i.self c.take_out.new.self c.args.number front c.requires.above c.loop-i.invariant gone

pub loop-i-preserved : goal.loop-i-preserved
loop-i-preserved c =
    let lists : Lists = c.self.inside.users.items in
    let route = c.args.route.now in
    let at = slice_index_or route c.loop-i.i 0 in
    let low : c.loop-i.i < length route = omega arith in
    let had : IsAdded c.args.self.now c.args.number _ lists = subst (IsAdded c.args.self.now c.args.number _) (sym c.self.view_is) c.loop-i.invariant in
    let here : at < length lists = omega (arith, c.requires.segments c.loop-i.i 0 low, had.many) in
    added_more c.args.self.now lists _ c.args.number at route c.loop-i.i low refl here c.requires.above had
    (ap (λ l. slice_set lists at l) (c.in_default.ensures.added ∙ ap (with_last c.args.number) (c.index_mut.ensures.value ∙ get_or_default lists at c.index_mut.result.now [] here)))
