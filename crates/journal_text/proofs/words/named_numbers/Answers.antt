use Rattle.std.proofs.Common.{◌≡◌, ◌++◌, ◌∷◌, ◌∙◌, [], List, ℕ, ap, arith}
use Rattle.std.specs.Prelude.{flat_map}
use Rattle.std.specs.Fmt.{decimal}
use Rattle.std.proofs.lemmas.List.{nil_from_length, take_all}
use Rattle.journal_text.specs.Words.{list_text}
use Rattle.journal_text.proofs.Pieces.{adds_named_word, list_adds}
use Rattle.journal_text.proofs.words.named_numbers.Goals as goal

pub returns-in_default : goal.returns-in_default
returns-in_default c =
    let none : c.args.numbers.now ≡ [] = nil_from_length c.args.numbers.now c.in_default.ensures.cases in
    adds_named_word c.args.out.now.items c.word.new.out.items c.extend_from_slice.new.self.items c.args.text.now (list_text decimal c.args.numbers.now) c.in_ok-word.ensures (rw none c.in_ok-extend_from_slice.ensures.items)

pub returns : goal.returns
returns c =
    adds_named_word c.args.out.now.items c.word.new.out.items c.numbers.out.items c.args.text.now (list_text decimal c.args.numbers.now) c.in_ok-word.ensures
    (list_adds decimal c.word.new.out.items c.digits_behind.new.out.items c.numbers.out.items c.args.numbers.now c.in-Some.rest.now 32 c.in-Some.first.now c.in-Some.ensures.cases.0 (c.in_ok-digits_behind.ensures ∙ ap (λ (n : ℕ). c.word.new.out.items ++ (32 ∷ decimal n)) c.from.ensures)
    (c.numbers.invariant ∙ ap (λ (t : List ℕ). c.digits_behind.new.out.items ++ flat_map (λ n. 44 ∷ decimal n) t) (take_all c.numbers.n-index c.in-Some.rest.now (omega arith))))
