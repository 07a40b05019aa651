-- The office that a turn finds.
use Rattle.std.proofs.Common.{◌≡◌, List, Option, Some, unwrap_or, ap, sym, subst}
use Rattle.office_words.specs.declared.entry.Call.{Call}
use Rattle.office_words.specs.declared.entry.Entry.{Entry}
use Rattle.office_core.specs.Machine.{MayAsk, machine_of}
use Rattle.office_core.specs.Offices.{Opened, machine_in}
use Rattle.office_core.proofs.Later.{asked_later}
use Rattle.office_turn.specs.Story.{StartsWith}
use Rattle.office_turn.specs.Told.{Lock, Passing}
use Rattle.office_desk.specs.Desks.{MayAskWith, Terms, no_terms, terms_in, terms_of}

-- the terms that a turn finds are those of the lock
pub terms_found : (lock : Lock Terms) (o : Opened) → Some (terms_of o) ≡ lock.terms → terms_of o ≡ terms_in lock
terms_found lock o is = ap (λ (t : Option Terms). unwrap_or t no_terms) is

-- what may be asked of what the pass has seen may be asked of what the turn finds, which goes on from it
pub asked_there : (p : Passing Entry Terms) (o : Opened) (c : Call) → Some (terms_of o) ≡ p.lock.terms → StartsWith o.history p.seen → MayAskWith p c → MayAsk o.base (machine_in o) c
asked_there p o c terms (more, is) ask =
    subst (λ (es : List Entry). MayAsk o.base (machine_of o.base o.opening es) c) (sym is)
    (asked_later o.base o.opening p.seen more c
    (subst (λ (t : Terms). MayAsk t.0 (machine_of t.0 t.1 p.seen) c) (sym (terms_found p.lock o terms)) ask))
