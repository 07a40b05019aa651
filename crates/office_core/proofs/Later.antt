-- What may be asked of what was seen may be asked of what goes on from it.
use Rattle.std.proofs.Common.{◌≡◌, ◌∷◌, ◌++◌, [], List, ℕ, ◌≤◌, ◌⊎◌, inl, inr, length, take, refl, ap, sym, subst, ◌∙◌, append_assoc, arith}
use Rattle.std.proofs.lemmas.List.{append-nil, length-append, take-append-le}
use Rattle.std.proofs.lemmas.Bool.{cases_lt}
use Rattle.restriction_log.specs.declared.change.Change.{Change}
use Rattle.restriction_log.specs.States.{state_of}
use Rattle.trip_analysis.specs.Bases.{BaseLists}
use Rattle.trip_analysis.specs.Findings.{IsFinding}
use Rattle.office_words.specs.declared.entry.Call.{Call}
use Rattle.office_words.specs.declared.entry.Reply.{Reply}
use Rattle.office_words.specs.declared.entry.Entry.{Entry}
use Rattle.office_core.specs.Machine.{Machine, opened, IsFound, MayAsk, with_posting, with_day, with_surrender, after, after_entry, after_all, machine_of}
use Rattle.office_core.specs.Offices.{Opened, HasPlace, IsFull, grown, machine_in}
use Rattle.office_words.specs.declared.entry.Call.TheVariants as call
use Rattle.office_words.specs.declared.entry.Reply.TheVariants as reply
use Rattle.office_core.proofs.Prefixes.{after_all-append}

-- the postings go on
abbrev pub GoOn : Machine → Machine → Type 0
GoOn m next = (more : List Change) × (next.postings ≡ m.postings ++ more)

same : (m : Machine) → GoOn m m
same m = ([], sym (append-nil m.postings))

posting_on : (base : BaseLists) (m : Machine) (change : Change) (r : Reply) → GoOn m (with_posting base m change r)
posting_on base m change (reply.Posted v recalled) = (change ∷ [], refl)
posting_on base m change _ = same m

day_on : (m : Machine) (r : Reply) → GoOn m (with_day m r)
day_on m (reply.DayIs day) = ([], sym (append-nil m.postings))
day_on m _ = same m

surrender_on : (m : Machine) (number : ℕ) (r : Reply) → GoOn m (with_surrender m number r)
surrender_on m number reply.Surrendered = ([], sym (append-nil m.postings))
surrender_on m number _ = same m

go_on : (base : BaseLists) (m : Machine) (caller : ℕ) (c : Call) (r : Reply) → GoOn m (after base m caller c r)
go_on base m caller call.Snapshot r = same m
go_on base m caller (call.Submit a p) r = ([], sym (append-nil m.postings))
go_on base m caller (call.Held a) r = ([], sym (append-nil m.postings))
go_on base m caller (call.Post change) r = posting_on base m change r
go_on base m caller (call.Day day) r = day_on m r
go_on base m caller (call.Surrender number) r = surrender_on m number r
go_on base m caller (call.Show number) r = same m

pub all_on : (base : BaseLists) (m : Machine) (es : List Entry) → GoOn m (after_all base m es)
all_on base m [] = same m
all_on base m (e ∷ es) = let one = go_on base m e.caller e.call e.reply in let rest = all_on base (after_entry base m e) es in
    (one.0 ++ rest.0, rest.1 ∙ (ap (λ l. l ++ rest.0) one.1 ∙ append_assoc m.postings one.0 rest.0))

-- the postings of a history that goes on go on
pub postings_on : (base : BaseLists) (day : List ℕ) (es more : List Entry) → GoOn (machine_of base day es) (machine_of base day (es ++ more))
postings_on base day es more = subst (GoOn (machine_of base day es)) (sym (after_all-append base (opened day) es more)) (all_on base (machine_of base day es) more)

take_on : {A : Type 0} (n : ℕ) (xs ys : List A) → n ≤ length xs → take n (xs ++ ys) ≡ take n xs
take_on n xs ys h = take-append-le n xs ys h

pub asked_later : (base : BaseLists) (day : List ℕ) (es more : List Entry) (c : Call) → MayAsk base (machine_of base day es) c → MayAsk base (machine_of base day (es ++ more)) c
asked_later base day es more (call.Submit a p) ask = let m = machine_of base day es in let on = all_on base m more in
    subst (λ (n : Machine). IsFound base n a p) (sym (after_all-append base (opened day) es more)) (record {
      sound = ask.sound;
      seen = omega (arith, ask.seen, ap length on.1, length-append m.postings on.0);
      found = subst (λ (l : List Change). IsFinding base (state_of base.roads l) a p.what) (sym (ap (take p.seen) on.1 ∙ take_on p.seen m.postings on.0 ask.seen)) ask.found;
    })
asked_later base day es more (call.Held a) ask = ask
asked_later base day es more call.Snapshot ask = tt
asked_later base day es more (call.Post change) ask = tt
asked_later base day es more (call.Day day') ask = tt
asked_later base day es more (call.Surrender number) ask = tt
asked_later base day es more (call.Show number) ask = tt

-- a step leaves what the office is about
pub base_stays : (o next : Opened) (e : Entry) → (IsFull o → next ≡ o) → (HasPlace o → next ≡ grown o e) → next.base ≡ o.base
base_stays o next e unchanged grown = by (cases_lt (length o.history) o.most)
  where
    by : HasPlace o ⊎ IsFull o → next.base ≡ o.base
    by (inl place) = ap (λ (n : Opened). n.base) (grown place)
    by (inr full) = ap (λ (n : Opened). n.base) (unchanged full)

-- what may be asked may be asked after a step
pub asked_after : (o next : Opened) (e : Entry) → (IsFull o → next ≡ o) → (HasPlace o → next ≡ grown o e) → (c : Call) → MayAsk o.base (machine_in o) c → MayAsk next.base (machine_in next) c
asked_after o next e unchanged grown c ask = by (cases_lt (length o.history) o.most)
  where
    by : HasPlace o ⊎ IsFull o → MayAsk next.base (machine_in next) c
    by (inl place) = subst (λ (n : Opened). MayAsk n.base (machine_in n) c) (sym (grown place)) (asked_later o.base o.opening o.history (e ∷ []) c ask)
    by (inr full) = subst (λ (n : Opened). MayAsk n.base (machine_in n) c) (sym (unchanged full)) ask
