use Rattle.std.proofs.Common.{◌≡◌, ◌<◌, ◌∙◌, true, length, arith, ap, sym, rules}
use Rattle.std.proofs.lemmas.Grind.{common_steps}
use Rattle.std.specs.Result.{result_ok}
use Rattle.std.specs.List.{list_all}
use Rattle.std.specs.Char.{is_ascii_digit}
use Rattle.day_text.proofs.Numbers.{number_read, parsed}
use Rattle.day_text.proofs.fields.parse_number.Goals as goal

pub returns : goal.returns
returns c =
    let text = c.args.text.now in
    let some : 0 < length text = grind (arith, common_steps) in
    let digits : list_all is_ascii_digit text ≡ true = search rules in
    c.ok.ensures.value ∙ (ap result_ok (parsed text c.parse.result c.parse.ensures.value.0 digits some (omega arith)) ∙ sym (number_read text some (omega arith) digits))
