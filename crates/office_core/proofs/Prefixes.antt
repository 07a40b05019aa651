-- Fronts and ends of histories.
use Rattle.std.proofs.Common.{◌≡◌, ◌∷◌, ◌++◌, [], List, refl}
use Rattle.trip_analysis.specs.Bases.{BaseLists}
use Rattle.office_words.specs.declared.entry.Entry.{Entry}
use Rattle.office_core.specs.Machine.{Machine, after_entry, after_all, IsLegalFrom}

pub legal_later : (base : BaseLists) (m : Machine) (es more : List Entry) → IsLegalFrom base m (es ++ more) → IsLegalFrom base (after_all base m es) more
legal_later base m [] more legal = legal
legal_later base m (e ∷ es) more legal = legal_later base (after_entry base m e) es more legal.1

pub legal_front : (base : BaseLists) (m : Machine) (es more : List Entry) → IsLegalFrom base m (es ++ more) → IsLegalFrom base m es
legal_front base m [] more legal = tt
legal_front base m (e ∷ es) more legal = (legal.0, legal_front base (after_entry base m e) es more legal.1)

pub after_all-append : (base : BaseLists) (m : Machine) (es more : List Entry) → after_all base m (es ++ more) ≡ after_all base (after_all base m es) more
after_all-append base m [] more = refl
after_all-append base m (e ∷ es) more = after_all-append base (after_entry base m e) es more

pub legal_join : (base : BaseLists) (m : Machine) (es more : List Entry) → IsLegalFrom base m es → IsLegalFrom base (after_all base m es) more → IsLegalFrom base m (es ++ more)
legal_join base m [] more legal next = next
legal_join base m (e ∷ es) more legal next = (legal.0, legal_join base (after_entry base m e) es more legal.1 next)
