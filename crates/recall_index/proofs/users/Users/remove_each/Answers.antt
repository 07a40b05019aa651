use Rattle.std.proofs.Common.{◌≡◌, ◌+◌, ◌++◌, length, take, drop, sym, ap, ◌∙◌, arith}
use Rattle.std.proofs.lemmas.Grind.{common_steps}
use Rattle.recall_index.specs.Uses.{IsBlock, without_each}
use Rattle.recall_index.proofs.Blocks.{left_rises, without_block}
use Rattle.recall_index.proofs.Rising.{without_none}
use Rattle.recall_index.proofs.users.Users.remove_each.Goals as goal
use Rattle.recall_index.proofs.users.Users.remove_each.Goals.{then-is_block, else-is_block}

pub returns-then-is_empty : goal.returns-then-is_empty
returns-then-is_empty c = let none : length c.args.these.now ≡ 0 = grind (arith, c.is_empty.ensures, c.if-is_empty.true) in
    sym (without_none c.args.these.now c.args.self.now (λ k d low. absurd (omega (arith, low, none))))

pub returns : goal.returns
returns c =
    let these = c.args.these.now in
    let all = c.self.inside.numbers.items in
    let at = c.place_of-at.result in
    let is : c.if-is_block.self-inside.numbers.items ≡ without_each these all = elim c.if-is_block.branch [
      | then-is_block w ↦ (
          let block : IsBlock these all at = rw c.as_slice-2.ensures.value at (c.is_block.ensures w.if-is_block.true) in
          let left : w.truncate.new.self.items ≡ take at all ++ drop (at + length these) all = grind (arith, common_steps, block.within) in
          rw w.self-inside-is (left ∙ without_block these all at c.self.invariant block))
      | else-is_block w ↦ rw w.self-inside-is w.sift.ensures
    ] in
    is ∙ ap (without_each these) c.self.view_is

pub invariant_of-self : goal.invariant_of-self
invariant_of-self c = left_rises c.args.these.now c.args.self.now _ (rw c.self.view_is at c.self.invariant) (returns c)
