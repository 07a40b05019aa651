-- What a new load keeps is what it is seen as.
use Rattle.std.proofs.Common.{◌≡◌, ℕ, List, Bool, true, false, ◌&&◌, rules, sym, ap, subst, ◌∙◌, Option}
use Rattle.axle_train.specs.declared.axle.Axle.{Axle}
use Rattle.axle_limits.specs.declared.tridem.Heaviest.{Heaviest}
use Rattle.axle_limits.specs.declared.worst_group.WorstGroup.{WorstGroup}
use Rattle.axle_limits.specs.Findings.{is_legal_by_weight}
use Rattle.clearance_rules.specs.Loads.{IsLoadKept, is_legal_size, parts_of}
use Rattle.clearance_rules.proofs.load.Load.new.Goals as goal
use Rattle.clearance_rules.proofs.load.Load.new.Goals.{then-by_weight, else-by_weight}

in_turn : (result a b x y : Bool) → a ≡ x → b ≡ y → a ≡ true → result ≡ b → result ≡ (x && y)
in_turn result a b x y ea eb h is = is ∙ eb ∙ ap (λ (t : Bool). t && y) (sym h ∙ ea)

no_turn : (result a x y : Bool) → a ≡ x → a ≡ false → result ≡ a → result ≡ (x && y)
no_turn result a x y ea h is = is ∙ h ∙ ap (λ (t : Bool). t && y) (sym h ∙ ea)

-- the study is seen as the axles of its train
of_study : (height width length : ℕ) (train study : List Axle) (worst : WorstGroup) (tridem : Option Heaviest) (legal : Bool) → study ≡ train
    → IsLoadKept (parts_of height width length train) worst tridem legal → IsLoadKept (parts_of height width length study) worst tridem legal
of_study height width length train study worst tridem legal same is = subst (λ (t : List Axle). IsLoadKept (parts_of height width length t) worst tridem legal) (sym same) is

pub invariant_of-result : goal.invariant_of-result
invariant_of-result c = of_study c.args.height c.args.width c.args.length c.args.train c.new.result c.worst-worst.result c.heaviest_tridem-tridem.result c.if-by_weight.result c.new.ensures (record {
  in_range = search rules;
  is_train = c.bounds.ensures;
  is_worst = c.worst-worst.ensures.meaning;
  worst_is = c.worst-worst.ensures.value;
  worst_in_range = c.worst-worst.ensures.range;
  is_tridem = c.heaviest_tridem-tridem.ensures.meaning;
  tridem_is = c.heaviest_tridem-tridem.ensures.value;
  legal_is = elim c.if-by_weight.branch [
    | then-by_weight w ↦ in_turn c.if-by_weight.result c.is_legal_by_weight-by_weight.result c.is_legal_size-by_size.result (is_legal_by_weight c.args.train) (is_legal_size c.args.height c.args.width)
        c.is_legal_by_weight-by_weight.ensures c.is_legal_size-by_size.ensures w.if-by_weight.true w.result-is
    | else-by_weight w ↦ no_turn c.if-by_weight.result c.is_legal_by_weight-by_weight.result (is_legal_by_weight c.args.train) (is_legal_size c.args.height c.args.width)
        c.is_legal_by_weight-by_weight.ensures w.if-by_weight.false w.result-is
  ];
})
