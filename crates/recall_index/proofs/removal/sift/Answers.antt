use Rattle.std.proofs.Common.{◌≡◌, ◌<◌, true, false, length, not, ap, sym, ◌∙◌, arith}
use Rattle.std.proofs.lemmas.Bool.{ne_eqb}
use Rattle.std.proofs.lemmas.List.{get_or_default}
use Rattle.recall_index.specs.Uses.{is_in}
use Rattle.recall_index.proofs.Rising.{all_below, is_first, there}
use Rattle.recall_index.proofs.Sifting.{sifts_more, sifts_none}
use Rattle.recall_index.proofs.removal.sift.Goals.{then-next-these, then-next-these-via-then-next-these, then-next-these-via-else-next-these+then-these-next, else-next-these+else-these-next}
use Rattle.recall_index.proofs.removal.sift.Goals as goal

pub loop-i-init : goal.loop-i-init
loop-i-init c = sifts_none c.args.these.now c.args.all.now.items c.args.from c.requires.these c.requires.within c.requires.below

pub loop-i-preserved : goal.loop-i-preserved
loop-i-preserved c =
    let these = c.args.these.now in
    let n = c.index-number.result.now in
    let next = c.place_from-next.result in
    let low : c.loop-i.i < length c.loop-i.all.items = omega (arith, c.loop-i-test.true, c.len-i-end.ensures, c.loop-i.invariant.filters.long) in
    let more = sifts_more these c.args.all.now.items c.loop-i.all.items c.loop-i.kept c.loop-i.i c.loop-i.next next n c.requires.rising c.loop-i.invariant low
    (c.index-number.ensures ∙ get_or_default c.loop-i.all.items c.loop-i.i n 0 low) in
    let below = c.place_from-next.ensures.below in
    elim c.if-next-these.branch [
      | then-next-these w ↦ (
          let none : is_in n these ≡ false = elim w.then-next-these.branch [
            | then-next-these-via-then-next-these w' ↦ all_below n these next c.requires.these below (omega (arith, w'.if-next-these.true))
            | then-next-these-via-else-next-these+then-these-next w' ↦ (
                let there : next < length these = omega (arith, w'.if-next-these.false, c.place_from-next.ensures.within) in
                sym (is_first n these next c.requires.these below there (c.place_from-next.ensures.next there)) ∙ ne_eqb _ _ w'.if-these-next.true)
          ] in
          rw (w.all-is, w.kept-is) (more true (sym (ap not none)) c.place_from-next.ensures.within below))
      | else-next-these+else-these-next w ↦ (
          let one : is_in n these ≡ true = there n these next (omega (arith, w.if-next-these.false, c.place_from-next.ensures.within)) w.if-these-next.false in
          rw (w.all-is, w.kept-is) (more false (sym (ap not one)) c.place_from-next.ensures.within below))
    ]
