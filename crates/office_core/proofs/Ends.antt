-- A permit that is no longer in force stays as it is.
use Rattle.std.proofs.Common.{◌≡◌, ◌≢◌, ◌∷◌, ◌++◌, [], List, ℕ, ◌-◌, ◌<◌, ◌≤◌, ◌⊎◌, inl, inr, Bool, true, false, length, get_or, ap, sym, subst, refl, ◌∙◌, arith, if◌then◌else◌}
use Rattle.std.proofs.lemmas.List.{get_or_append_left, get_or-map, length-map, length-set, get_or-set_other, length-append}
use Rattle.std.proofs.lemmas.Bool.{cases_eq}
use Rattle.std.proofs.lemmas.Bool.Decides.{nat_tests}
use Rattle.restriction_log.specs.declared.change.Change.{Change}
use Rattle.restriction_log.specs.States.{InForce, state_of}
use Rattle.permit_days.specs.Days.{is_before}
use Rattle.permit_book.specs.declared.permit.Permit.{Permit}
use Rattle.permit_book.specs.declared.permit.Mark.{Mark}
use Rattle.permit_book.specs.declared.permit.Status.{Status}
use Rattle.permit_book.specs.Permits.{permit_of, no_permit, is_issued, marked, in_force, is_in_force, status_of, status_by}
use Rattle.trip_analysis.specs.declared.application.Application.{Application}
use Rattle.trip_analysis.specs.Bases.{BaseLists}
use Rattle.office_words.specs.declared.entry.Call.{Call}
use Rattle.office_words.specs.declared.entry.Reply.{Reply}
use Rattle.office_words.specs.declared.entry.Entry.{Entry}
use Rattle.office_core.specs.Recalls.{recalled_if}
use Rattle.office_core.specs.Machine.{Machine, opened, version_of, IsAnswer, with_permit, with_posting, with_day, with_surrender, after, after_entry, after_all, IsLegalFrom, IsLegal, machine_of}
use Rattle.permit_book.specs.declared.permit.Status.TheVariants as status
use Rattle.permit_book.specs.declared.permit.Mark.TheVariants as mark
use Rattle.office_words.specs.declared.entry.Call.TheVariants as call
use Rattle.office_words.specs.declared.entry.Reply.TheVariants as reply
use Rattle.office_core.proofs.DayOrders.{before_on}
use Rattle.office_core.proofs.Forces.{Advances, day_advances}
use Rattle.office_core.proofs.Cases.{surrender_given}
use Rattle.office_core.proofs.Prefixes.{after_all-append, legal_later}

-- what is surrendered was in force
abbrev WasInForce : Machine → ℕ → Reply → Type 0
WasInForce m number reply.Surrendered = in_force m.day (permit_of m.permits number) ≡ true
WasInForce m number _ = Unit {0}

answered_in_force : (base : BaseLists) (m : Machine) (caller number : ℕ) (r : Reply) → IsAnswer base m caller (call.Surrender number) r → WasInForce m number r
answered_in_force base m caller number r answer = surrender_given (WasInForce m number) base m caller number r tt tt (λ _. tt) (λ on. on) tt answer

-- the permit at a place of the one machine, if it is not in force, stays in the other, and so does what it is
abbrev Ends : ℕ → Machine → Machine → Type 0
Ends k m next = (length m.permits ≤ length next.permits)
    × (in_force m.day (get_or m.permits k no_permit) ≡ false → (get_or next.permits k no_permit ≡ get_or m.permits k no_permit) × (status_of (get_or m.permits k no_permit) next.day ≡ status_of (get_or m.permits k no_permit) m.day))

same : (k : ℕ) (m : Machine) → Ends k m m
same k m = (omega arith, λ _. (refl, refl))

issue_ends : (k : ℕ) (m : Machine) (caller : ℕ) (a : Application) (seen : ℕ) (r : Reply) → k < length m.permits → Ends k m (with_permit m caller a seen r)
issue_ends k m caller a seen (reply.Issued number v routes) h = (longer m.permits _, λ _. (get_or_append_left m.permits _ no_permit k h, refl))
  where
    longer : {A : Type 0} (xs ys : List A) → length xs ≤ length (xs ++ ys)
    longer xs ys = omega (arith, length-append xs ys)
issue_ends k m caller a seen _ h = same k m

unrecalled : (base : BaseLists) (state : InForce) (day : List ℕ) (v : ℕ) (p : Permit) → in_force day p ≡ false → recalled_if base state day v p ≡ p
unrecalled base state day v p off = rw off refl

post_ends : (k : ℕ) (base : BaseLists) (m : Machine) (change : Change) (r : Reply) → k < length m.permits → Ends k m (with_posting base m change r)
post_ends k base m change (reply.Posted v recalled) h = let state = state_of base.roads (m.postings ++ change ∷ []) in let f : Permit → Permit = recalled_if base state m.day v in
    (omega (arith, length-map m.permits f), λ off. (get_or-map f m.permits k no_permit no_permit h ∙ unrecalled base state m.day v (get_or m.permits k no_permit) off, refl))
post_ends k base m change _ h = same k m

-- what is not in force on a day is the same on each later day
expired_on : (b c : Bool) → (b ≡ true → c ≡ true) → is_in_force (if b then status.Expired else status.InForce) ≡ false → (if c then status.Expired else status.InForce) ≡ (if b then status.Expired else status.InForce)
expired_on true c f off = ap (λ (x : Bool). if x then status.Expired else status.InForce) (f refl)
expired_on false c f off = absurd (grind (arith, off))

status_on : (m : Mark) (last kept day : List ℕ) → is_before day kept ≡ false → is_in_force (status_by m last kept) ≡ false → status_by m last day ≡ status_by m last kept
status_on mark.Live last kept day h off = expired_on (is_before last kept) (is_before last day) (λ e. before_on last kept day e h) off
status_on (mark.Recalled v) last kept day h off = refl
status_on mark.Surrendered last kept day h off = refl

day_ends : (k : ℕ) (m : Machine) (r : Reply) → Advances m.day r → Ends k m (with_day m r)
day_ends k m (reply.DayIs day) h = (omega arith, λ off. (refl, status_on (get_or m.permits k no_permit).mark (get_or m.permits k no_permit).trip.last m.day day h off))
day_ends k m _ h = same k m

surrender_ends : (k : ℕ) (m : Machine) (number : ℕ) (r : Reply) → WasInForce m number r → Ends k m (with_surrender m number r)
surrender_ends k m number reply.Surrendered was = (omega (arith, length-set m.permits (number - 1) (record (permit_of m.permits number) { mark = mark.Surrendered })), λ off. (by off (cases_eq k (number - 1)), refl))
  where
    by : in_force m.day (get_or m.permits k no_permit) ≡ false → (k ≡ number - 1) ⊎ (k ≢ number - 1) → get_or (marked m.permits number mark.Surrendered) k no_permit ≡ get_or m.permits k no_permit
    by off (inl e) = absurd (grind (arith, was, off, e))
    by off (inr e) = get_or-set_other m.permits (number - 1) k _ no_permit e
surrender_ends k m number _ was = same k m

answer_ends : (k : ℕ) (base : BaseLists) (m : Machine) (caller : ℕ) (c : Call) (r : Reply) → IsAnswer base m caller c r → k < length m.permits → Ends k m (after base m caller c r)
answer_ends k base m caller call.Snapshot r answer h = same k m
answer_ends k base m caller (call.Submit a p) r answer h = issue_ends k m caller a p.seen r h
answer_ends k base m caller (call.Held a) r answer h = issue_ends k m caller a (version_of m) r h
answer_ends k base m caller (call.Post change) r answer h = post_ends k base m change r h
answer_ends k base m caller (call.Day day) r answer h = day_ends k m r (day_advances base m caller day r answer)
answer_ends k base m caller (call.Surrender number) r answer h = surrender_ends k m number r (answered_in_force base m caller number r answer)
answer_ends k base m caller (call.Show number) r answer h = same k m

-- the permit at a place, and what it is on the machine's day
abbrev Stands : ℕ → Machine → Permit → Status → Type 0
Stands k m p s = (get_or m.permits k no_permit ≡ p) × (status_of p m.day ≡ s)

end_all : (k : ℕ) (base : BaseLists) (m : Machine) (es : List Entry) (p : Permit) (s : Status) → IsLegalFrom base m es → k < length m.permits → is_in_force s ≡ false → Stands k m p s → Stands k (after_all base m es) p s
end_all k base m [] p s legal h off here = here
end_all k base m (e ∷ es) p s legal h off here =
    let one = answer_ends k base m e.caller e.call e.reply legal.0.answer h in
    let next = after_entry base m e in
    let out : in_force m.day (get_or m.permits k no_permit) ≡ false = ap (λ (q : Permit). is_in_force (status_of q m.day)) here.0 ∙ (ap is_in_force here.1 ∙ off) in
    let kept = one.1 out in
    let still : status_of p next.day ≡ s = ap (λ (q : Permit). status_of q next.day) (sym here.0) ∙ (kept.1 ∙ (ap (λ (q : Permit). status_of q m.day) here.0 ∙ here.1)) in
    end_all k base next es p s legal.1 (omega (arith, one.0, h)) off (kept.0 ∙ here.0, still)

-- the permit of a number is the same in both, and is the same on the day of each
pub record StaysAsItIs (number : ℕ) (m next : Machine) : Type 0 where
  pub permit : permit_of next.permits number ≡ permit_of m.permits number
  pub status : status_of (permit_of m.permits number) next.day ≡ status_of (permit_of m.permits number) m.day

pub ends_stay : (base : BaseLists) (day : List ℕ) (es more : List Entry) (number : ℕ) → IsLegal base day (es ++ more) → is_issued (machine_of base day es).permits number ≡ true
    → in_force (machine_of base day es).day (permit_of (machine_of base day es).permits number) ≡ false → StaysAsItIs number (machine_of base day es) (machine_of base day (es ++ more))
ends_stay base day es more number legal here off =
    let m = machine_of base day es in let p = permit_of m.permits number in
    let h : number - 1 < length m.permits = grind (arith, nat_tests, here) in
    let later = end_all (number - 1) base m more p (status_of p m.day) (legal_later base (opened day) es more legal) h off (refl, refl) in
    subst (λ (n : Machine). StaysAsItIs number m n) (sym (after_all-append base (opened day) es more)) (record { permit = later.0; status = later.1 })
