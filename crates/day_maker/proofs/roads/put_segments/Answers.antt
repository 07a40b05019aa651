use Rattle.std.proofs.Common.{◌≡◌, ◌∙◌, ◌<◌, ◌≤◌, ◌+◌, ℕ, arith, false, ltb, sym, true}
use Rattle.std.proofs.lemmas.Bool.Decides.{nat_tests}
use Rattle.std.specs.Prelude.{nat_lt}
use Rattle.day_maker.specs.Making.{Maker, each, when}
use Rattle.day_maker.specs.Made.{eastward, joining_segments, southward}
use Rattle.day_maker.specs.Texts.{PageParts, page_after}
use Rattle.day_maker.proofs.Pages.{after_nothing, after_then, each_end, each_more}
use Rattle.day_maker.proofs.roads.put_segments.Goals as goal
use Rattle.day_maker.proofs.roads.put_segments.Goals.{then-c-size+in_ok-put_both_ways, else-c-size, then-r-size+in_ok-put_both_ways-2, else-r-size}

-- what is made where there is a neighbour, and at the edge
neighbour : (k size : ℕ) (m : Maker) (p q : PageParts) → k < size → q ≡ page_after m p → q ≡ page_after (when (nat_lt k size) m) p
neighbour k size m p q within is = let there : ltb k size ≡ true = grind (arith, nat_tests) in rw there is

edge : (k size : ℕ) (m : Maker) (p q : PageParts) → size ≤ k → q ≡ p → q ≡ page_after (when (nat_lt k size) m) p
edge k size m p q behind same = let none : ltb k size ≡ false = grind (arith, nat_tests) in rw none (same ∙ sym (after_nothing p))

pub columns-preserved : goal.columns-preserved
unfolding eastward southward
columns-preserved c =
    let size = c.args.size in
    let r = c.rows.r in
    let k = c.columns.c in
    let before = c.columns.page in
    let between = c.if-c-size.page in
    let behind = c.if-r-size.page in
    let east : between ≡ page_after (when (nat_lt k size) (eastward r k)) before = elim c.if-c-size.branch [
      | then-c-size+in_ok-put_both_ways w ↦ neighbour k size (eastward r k) before between w.if-c-size.true (w.page-is ∙ w.in_ok-put_both_ways.ensures)
      | else-c-size w ↦ edge k size (eastward r k) before between w.if-c-size.false w.page-is
    ] in
    let south : behind ≡ page_after (when (nat_lt r size) (southward r k)) between = elim c.if-r-size.branch [
      | then-r-size+in_ok-put_both_ways-2 w ↦ neighbour r size (southward r k) between behind w.if-r-size.true (w.page-is ∙ w.in_ok-put_both_ways-2.ensures)
      | else-r-size w ↦ edge r size (southward r k) between behind w.if-r-size.false w.page-is
    ] in
    each_more (λ k. joining_segments size r k) before behind _ k (size + 1) (omega arith) c.columns.invariant
    (after_then (when (nat_lt k size) (eastward r k)) (when (nat_lt r size) (southward r k)) before between behind east south)

pub rows-preserved : goal.rows-preserved
rows-preserved c =
    let row = each_end (λ k. joining_segments c.args.size c.rows.r k) c.columns.page _ c.columns.c (c.args.size + 1) (omega arith) c.columns.invariant in
    each_more (λ r. each 0 (c.args.size + 1) (λ k. joining_segments c.args.size r k)) c.rows.page c.columns.page _ c.rows.r (c.args.size + 1) (omega arith) c.rows.invariant row

pub returns : goal.returns
returns c = each_end (λ r. each 0 (c.args.size + 1) (λ k. joining_segments c.args.size r k)) c.rows.page _ c.rows.r (c.args.size + 1) (omega arith) c.rows.invariant
