-- What objects are told.
use Rattle.std.specs.Prelude.{Bool, true, List, ◌++◌, filter, Option, option_map}
use Rattle.std.specs.Str.{bytes_eq}
use Rattle.notice_desk.specs.declared.notice.Recall.{Recall}
use Rattle.notice_desk.specs.declared.notice.Whom.{Whom}
use Rattle.notice_desk.specs.declared.notice.Whom.TheVariants as whom

-- whether a recall is one of these: all, or those of one carrier
abbrev pub is_for : Whom → Recall → Bool
is_for whom.All recall = true
is_for (whom.Carrier name) recall = bytes_eq name recall.carrier

-- the recalls of a list that are for these, in order
abbrev pub recalls_for : Whom → List Recall → List Recall
recalls_for whom recalls = filter (is_for whom) recalls

-- the list told after these recalls more; an object that tells none still tells none
abbrev pub told_more : Option (List Recall) → List Recall → Option (List Recall)
told_more told more = option_map (λ list. list ++ more) told
