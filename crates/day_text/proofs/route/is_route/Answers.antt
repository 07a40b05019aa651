use Rattle.std.proofs.Common.{◌∙◌, ◌==◌, lit<, rules, sym, tests}
use Rattle.std.specs.Prelude.{is_some}
use Rattle.std.specs.List.{slice_split}
use Rattle.std.proofs.lemmas.Iterator.Search.{all_from_yields_List}
use Rattle.std.proofs.lemmas.Iterator.Splits.{YieldsList-from_str_split}
use Rattle.day_text.specs.Fields.{name_field}
use Rattle.day_text.proofs.Each.{each_there}
use Rattle.day_text.proofs.route.is_route.Goals as goal

pub returns : goal.returns
returns c =
    all_from_yields_List (λ part. is_some (name_field part)) _ _ _ c.all.ensures.ran
    (YieldsList-from_str_split 32 c.args.text.now (lit< tt) c.split.ensures.text c.split.ensures.has_more c.split.ensures.pattern) (λ x r q k. search (rules, tests))
    ∙ sym (each_there name_field (slice_split (λ b. b == 32) c.args.text.now))
