-- The histories of a day file's commands are one.
use Rattle.std.proofs.Common.{◌≡◌, ◌∷◌, [], ◌++◌, List, ap, sym, ◌∙◌, subst}
use Rattle.road_graph.specs.Roads.{IsRoads}
use Rattle.trip_analysis.specs.Bases.{BaseLists}
use Rattle.day_text.specs.declared.orders.Order.{Order}
use Rattle.day_text.specs.Days.{DayParts}
use Rattle.office_words.specs.declared.entry.Entry.{Entry}
use Rattle.office_core.specs.Machine.{IsLegalFrom, Machine, after_all, opened}
use Rattle.office_core.proofs.Prefixes.{legal_front, legal_later}
use Rattle.analyst_pool.specs.Laws.{FinishedAreOne}
use Rattle.day_trial.specs.Serial.{CarriesOut, IsSerial}

-- the entries of some commands, carried out from one machine on, are determined
runs_one : FinishedAreOne → (base : BaseLists) (m : Machine) (orders : List Order) (a b : List Entry) → IsRoads base.roads → CarriesOut orders a → CarriesOut orders b → IsLegalFrom base m a → IsLegalFrom base m b → a ≡ b
runs_one one base m [] a b roads h k e f = h ∙ sym k
runs_one one base m (o ∷ os) a b roads h k e f =
    let first = subst (IsLegalFrom base m) h.whole e in
    let other = subst (IsLegalFrom base m) k.whole f in
    let fronts : h.front ≡ k.front =
    one base m o.actor o.command h.front k.front roads h.finished k.finished (legal_front base m h.front h.back first) (legal_front base m k.front k.back other) in
    let behind = subst (λ (es : List Entry). IsLegalFrom base (after_all base m es) k.back) (sym fronts) (legal_later base m k.front k.back other) in
    let backs : h.back ≡ k.back = runs_one one base (after_all base m h.front) os h.back k.back roads h.behind k.behind (legal_later base m h.front h.back first) behind in
    h.whole ∙ (ap (λ l. l ++ h.back) fronts ∙ (ap (λ l. k.front ++ l) backs ∙ sym k.whole))

-- two histories that serve a day are one
pub history_one : FinishedAreOne → (file : DayParts) (a b : List Entry) → IsRoads file.base.roads → IsSerial file a → IsSerial file b → a ≡ b
history_one one file a b roads h k = runs_one one file.base (opened file.day) file.commands a b roads h.commands k.commands h.legal k.legal
