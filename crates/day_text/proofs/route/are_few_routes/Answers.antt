use Rattle.std.proofs.Common.{◌∙◌, ◌==◌, lit<, rules, tests}
use Rattle.std.specs.Prelude.{is_some}
use Rattle.std.specs.List.{slice_split}
use Rattle.std.proofs.lemmas.Iterator.Consumers.{count_from_yields_List}
use Rattle.std.proofs.lemmas.Iterator.Search.{all_from_yields_List}
use Rattle.std.proofs.lemmas.Iterator.Splits.{YieldsList-from_str_split}
use Rattle.day_text.specs.Fields.{route_of}
use Rattle.day_text.proofs.Routes.{few_there, too_many}
use Rattle.day_text.proofs.route.are_few_routes.Goals as goal

pub returns-then-count-le-MOST_ROUTES : goal.returns-then-count-le-MOST_ROUTES
returns-then-count-le-MOST_ROUTES c =
    let text = c.args.text.now in
    let again = c.split-then-count-le-MOST_ROUTES.ensures in
    let count = count_from_yields_List c.split.result _ c.count.ensures.ran (YieldsList-from_str_split 124 text (lit< tt) c.split.ensures.text c.split.ensures.has_more c.split.ensures.pattern) in
    all_from_yields_List (λ part. is_some (route_of part)) _ _ _ c.all.ensures.ran
    (YieldsList-from_str_split 124 text (lit< tt) again.text again.has_more again.pattern) (λ x r q k. search (rules, tests))
    ∙ few_there (slice_split (λ b. b == 124) text) c.count.result count c.if-count-le-MOST_ROUTES.true

pub returns-else-count-le-MOST_ROUTES : goal.returns-else-count-le-MOST_ROUTES
returns-else-count-le-MOST_ROUTES c =
    let text = c.args.text.now in
    let count = count_from_yields_List c.split.result _ c.count.ensures.ran (YieldsList-from_str_split 124 text (lit< tt) c.split.ensures.text c.split.ensures.has_more c.split.ensures.pattern) in
    too_many (slice_split (λ b. b == 124) text) c.count.result count c.if-count-le-MOST_ROUTES.false
