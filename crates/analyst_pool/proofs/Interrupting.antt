-- A caller of an office that another calls too.
use Rattle.std.proofs.Common.{◌≡◌, ◌∷◌, ◌++◌, [], List, ℕ, ◌⊎◌, inl, inr, true, false, eqb, length, Option, Some, None, nat_le, if◌then◌else◌, arith, refl, ap, sym, subst, ◌∙◌, append_assoc}
use Rattle.std.specs.Borrow.{GName}
use Rattle.std.proofs.lemmas.Bool.{cases_lt}
use Rattle.std.proofs.lemmas.Bool.Decides.{nat_tests}
use Rattle.std.proofs.lemmas.List.{append-nil, length-append}
use Rattle.std.proofs.lemmas.List.Elements.{filter-append}
use Rattle.trip_analysis.specs.Bases.{BaseLists}
use Rattle.office_words.specs.declared.entry.Call.{Call}
use Rattle.office_words.specs.declared.entry.Entry.{Entry}
use Rattle.office_words.specs.declared.entry.Reply.{Reply}
use Rattle.office_core.specs.Calls.{Added, Answered, Calling, Sees, Who, full_in}
use Rattle.office_core.specs.Machine.{MayAsk, entries_by, machine_of}
use Rattle.office_core.specs.Offices.{HasPlace, IsFull, Opened, entry, machine_in}
use Rattle.office_core.specs.Replies.{is_full}
use Rattle.office_core.proofs.Callings.{full_is}
use Rattle.office_core.proofs.Later.{asked_later}
use Rattle.analyst_pool.specs.Interrupted.{Interrupts, shared}
use Rattle.analyst_pool.proofs.Growing.{by_test}

abbrev seat : Option GName → ℕ → Opened → Calling (Unit {0})
seat reference caller o = record (shared caller o) { who = record { place = None; reference = reference; caller = caller; base = o.base; opening = o.opening; most = o.most } }

-- the calls of a seat are those of its caller, of the office at which it was taken
pub from_seat : (g k : Option GName) (caller later number : ℕ) (o at next : Opened) (c : Call) (r : Reply) → at ≡ o → caller ≡ number → Answered (seat g caller at) c r (seat k later next) → Answered (seat g number o) c r (seat g number next)
from_seat g k caller later number o at next c r is same s =
    let held = ap (λ (t : Who (Unit {0})). t.reference) s.who in
    let by = ap (λ (t : Who (Unit {0})). t.caller) s.who in
    subst (λ (p : Opened). Answered (seat g number p) c r (seat g number next)) is (subst (λ (n : ℕ). Answered (seat g n at) c r (seat g n next)) same
    (subst (λ (n : ℕ). Answered (seat g caller at) c r (seat g n next)) by (subst (λ (h : Option GName). Answered (seat g caller at) c r (seat h later next)) held s)))

-- an entry of caller 1 is none of caller 0
other_own : (es : List Entry) (c : Call) (r : Reply) → entries_by 0 (es ++ entry 1 c r ∷ []) ≡ entries_by 0 es
other_own es c r = filter-append (λ e. eqb e.caller 0) es (entry 1 c r ∷ []) ∙ append-nil (entries_by 0 es)

pub untouched : (o : Opened) → Interrupts o o
untouched o = record { base = refl; opening = refl; most = refl; more = []; history = sym (append-nil o.history); own = refl }

-- a call of caller 1
module _ (g : Option GName) (o next : Opened) (c : Call) (r : Reply) (s : Answered (seat g 1 o) c r (seat g 1 next)) where
  goes_on : (more : List Entry) → next.history ≡ o.history ++ more → entries_by 0 next.history ≡ entries_by 0 o.history → Interrupts o next
  goes_on more is own = record {
    base = ap (λ (t : Who (Unit {0})). t.base) s.who;
    opening = ap (λ (t : Who (Unit {0})). t.opening) s.who;
    most = ap (λ (t : Who (Unit {0})). t.most) s.who;
    more = more;
    history = is;
    own = own;
  }

  one_more : Sees (seat g 1 o) (entry 1 c r) (seat g 1 next) → next.history ≡ o.history ++ entry 1 c r ∷ []
  one_more sees = sees.seen ∙ ap (λ l. l ++ entry 1 c r ∷ []) (ap (λ l. o.history ++ l) (sees.alone refl) ∙ append-nil o.history)

  pub touched : Interrupts o next
  touched = by_test (is_full r)
      (λ all. let f = full_is r all in let same = (s.full f.0 f.1).seen in goes_on [] (same ∙ sym (append-nil o.history)) (ap (entries_by 0) same))
      (λ room. let is = one_more (s.entry room).sees in goes_on (entry 1 c r ∷ []) is (ap (entries_by 0) is ∙ other_own o.history c r))

-- what may be asked may be asked after others called
pub asked_then : (o next : Opened) (c : Call) → Interrupts o next → MayAsk o.base (machine_in o) c → MayAsk next.base (machine_in next) c
asked_then o next c h ask =
    subst (λ (b : BaseLists). MayAsk b (machine_of b next.opening next.history) c) (sym h.base)
    (subst (λ (d : List ℕ). MayAsk o.base (machine_of o.base d next.history) c) (sym h.opening)
    (subst (λ (l : List Entry). MayAsk o.base (machine_of o.base o.opening l) c) (sym h.history) (asked_later o.base o.opening o.history h.more c ask)))

pub asked_at : (o next at : Opened) (c : Call) → at ≡ next → Interrupts o next → MayAsk o.base (machine_in o) c → MayAsk at.base (machine_in at) c
asked_at o next at c is h ask = subst (λ (p : Opened). MayAsk p.base (machine_in p) c) (sym is) (asked_then o next c h ask)

full_of : (o : Opened) → IsFull o → full_in o ≡ Some o.most
full_of o full = let e : nat_le o.most (length o.history) ≡ true = grind (arith, nat_tests, full) in ap (λ b. if b then Some o.most else None) e

place_of : (o : Opened) (most : ℕ) → HasPlace o → full_in o ≡ Some most → ⊥
place_of o most place full = let e : nat_le o.most (length o.history) ≡ false = grind (arith, nat_tests, place) in absurd (grind (arith, ap (λ b. if b then Some o.most else None) e, full))

-- what is full stays so
full_still : (o next : Opened) (most : ℕ) → Interrupts o next → full_in o ≡ Some most → full_in next ≡ Some most
full_still o next most h full = by (cases_lt (length o.history) o.most)
  where
    longer : IsFull o → IsFull next
    longer all = omega (arith, all, h.most, ap length h.history, length-append o.history h.more)

    by : HasPlace o ⊎ IsFull o → full_in next ≡ Some most
    by (inl place) = absurd (place_of o most place full)
    by (inr all) = full_of next (longer all) ∙ (ap Some h.most ∙ (sym (full_of o all) ∙ full))

-- a call of caller 0 after others called
module _ (g : Option GName) (o met next : Opened) (c : Call) (r : Reply) (h : Interrupts o met) (s : Answered (seat g 0 met) c r (seat g 0 next)) where
  sees_all : Sees (seat g 0 met) (entry 0 c r) (seat g 0 next) → Sees (shared 0 o) (entry 0 c r) (shared 0 next)
  sees_all sees = record {
    between = h.more ++ sees.between;
    seen = sees.seen ∙ ap (λ l. l ++ entry 0 c r ∷ []) (ap (λ l. l ++ sees.between) h.history ∙ append_assoc o.history h.more sees.between);
    alone = λ none. absurd (grind (arith, none));
  }

  who_still : (let w = shared 0 next in w.who) ≡ (let v = shared 0 o in v.who)
  who_still = ap (λ (t : Who (Unit {0})). record t { place = Some tt; reference = None }) s.who
      ∙ (λ i. let v = shared 0 (record { base = h.base i; opening = h.opening i; most = h.most i; history = [] }) in v.who)

  added_then : Added (seat g 0 met) (entry 0 c r) (seat g 0 next) → Added (shared 0 o) (entry 0 c r) (shared 0 next)
  added_then added = record {
    own = added.own ∙ ap (λ l. l ++ entry 0 c r ∷ []) h.own;
    sees = sees_all added.sees;
    legal = added.legal;
    whole = added.whole;
    full = λ most full. added.full most (full_still o met most h full);
  }

  pub answered_then : is_full r ≡ false → Answered (shared 0 o) c r (shared 0 next)
  answered_then room = record {
    who = who_still;
    full = λ most is. absurd (grind (arith, room, ap is_full is));
    entry = λ _. added_then (s.entry room);
  }

pub answered_as : (g : Option GName) (o met next : Opened) (c : Call) (r told : Reply) → Interrupts o met → Answered (seat g 0 met) c r (seat g 0 next) → told ≡ r → is_full told ≡ false → Answered (shared 0 o) c told (shared 0 next)
answered_as g o met next c r told h s is room = subst (λ (q : Reply). Answered (shared 0 o) c q (shared 0 next)) (sym is) (answered_then g o met next c r h s (ap is_full (sym is) ∙ room))
