-- Permits in force meet the current state.
use Rattle.std.proofs.Common.{◌≡◌, ◌∷◌, ◌++◌, [], List, ℕ, Bool, true, false, if◌then◌else◌, ap, refl, arith}
use Rattle.std.proofs.lemmas.List.Elements.{All-append, All-set, All-nil, All-cons}
use Rattle.std.specs.List.{concat}
use Rattle.restriction_log.specs.declared.change.Change.{Change}
use Rattle.restriction_log.specs.States.{InForce, state_of}
use Rattle.permit_days.specs.Days.{is_before}
use Rattle.permit_book.specs.declared.permit.Permit.{Permit}
use Rattle.permit_book.specs.declared.permit.Mark.{Mark}
use Rattle.permit_book.specs.Permits.{is_in_force, status_of, status_by, is_live}
use Rattle.trip_analysis.specs.declared.application.Application.{Application}
use Rattle.trip_analysis.specs.Bases.{BaseLists}
use Rattle.office_words.specs.declared.entry.Call.{Call}
use Rattle.office_words.specs.declared.entry.Reply.{Reply}
use Rattle.office_core.specs.Recalls.{InForceMeet, MeetsIfInForce, is_recalled, recalled_if}
use Rattle.office_core.specs.Replies.{day_reply}
use Rattle.office_core.specs.Machine.{Machine, version_of, state_in, reply_in, IsAnswer, with_permit, with_posting, with_day, with_surrender, after}
use Rattle.permit_book.specs.declared.permit.Status.TheVariants as status
use Rattle.permit_book.specs.declared.permit.Mark.TheVariants as mark
use Rattle.office_words.specs.declared.entry.Call.TheVariants as call
use Rattle.office_words.specs.declared.entry.Reply.TheVariants as reply
use Rattle.office_core.proofs.DayOrders.{not_before}
use Rattle.office_core.proofs.Lists.{pick, All-map, All-weaker}
use Rattle.office_core.proofs.Cases.{given, held_given}
use Rattle.office_core.proofs.Replies.{IssuedMeets, apply_meets, none_fails}

-- every permit in force meets what is in force on the roads
abbrev pub MeetNow : BaseLists → Machine → Type 0
MeetNow base m = InForceMeet base (state_in base m) m.day m.permits

issue_meets : (base : BaseLists) (m : Machine) (caller : ℕ) (a : Application) (seen : ℕ) (r : Reply) → MeetNow base m → IssuedMeets base (state_in base m) a.truck r → MeetNow base (with_permit m caller a seen r)
issue_meets base m caller a seen (reply.Issued number v routes) had e = All-append (MeetsIfInForce base (state_in base m) m.day) m.permits _ had
    (All-cons (MeetsIfInForce base (state_in base m) m.day) _ [] (λ _. none_fails base (state_in base m) a.truck (concat routes) e) (All-nil (MeetsIfInForce base (state_in base m) m.day)))
issue_meets base m caller a seen _ had e = had

recalled_fine : (base : BaseLists) (state : InForce) (day : List ℕ) (v : ℕ) (p : Permit) → MeetsIfInForce base state day (recalled_if base state day v p)
recalled_fine base state day v p = pick (MeetsIfInForce base state day) (is_recalled base state day p) (record p { mark = mark.Recalled v }) p (λ _ e. absurd (grind (arith, e))) (λ off on. grind (arith, off, on))

pub post_meets : (base : BaseLists) (m : Machine) (change : Change) (r : Reply) → MeetNow base m → MeetNow base (with_posting base m change r)
post_meets base m change (reply.Posted v recalled) had = let state = state_of base.roads (m.postings ++ change ∷ []) in
    All-map (MeetsIfInForce base (state_in base m) m.day) (MeetsIfInForce base state m.day) (recalled_if base state m.day v) (λ p _. recalled_fine base state m.day v p) m.permits had
post_meets base m change _ had = had

-- a live permit is in force where its last day is not before the day
in_force_if : (b : Bool) → is_in_force (if b then status.Expired else status.InForce) ≡ true → b ≡ false
in_force_if true e = absurd (grind (arith, e))
in_force_if false e = refl

live_until : (last day : List ℕ) → is_in_force (status_by mark.Live last day) ≡ true → is_before last day ≡ false
live_until last day e = in_force_if (is_before last day) e

live_on : (last day : List ℕ) → is_before last day ≡ false → is_in_force (status_by mark.Live last day) ≡ true
live_on last day e = ap (λ (b : Bool). is_in_force (if b then status.Expired else status.InForce)) e

earlier : (m : Mark) (last kept day : List ℕ) → is_before day kept ≡ false → is_in_force (status_by m last day) ≡ true → is_in_force (status_by m last kept) ≡ true
earlier mark.Live last kept day h e = live_on last kept (not_before last day kept (live_until last day e) h)
earlier (mark.Recalled v) last kept day h e = e
earlier mark.Surrendered last kept day h e = e

abbrev pub Advances : List ℕ → Reply → Type 0
Advances kept (reply.DayIs day) = is_before day kept ≡ false
Advances kept _ = Unit {0}

advances : (kept day : List ℕ) → Advances kept (day_reply kept day)
advances kept day = pick (Advances kept) (is_before day kept) (reply.DayBack kept) (reply.DayIs day) (λ _. tt) (λ e. e)

pub day_meets : (base : BaseLists) (m : Machine) (r : Reply) → MeetNow base m → Advances m.day r → MeetNow base (with_day m r)
day_meets base m (reply.DayIs day) had h = All-weaker (MeetsIfInForce base (state_in base m) m.day) (MeetsIfInForce base (state_in base m) day) (λ p f on. f (earlier p.mark p.trip.last m.day day h on)) m.permits had
day_meets base m _ had h = had

pub surrender_meets : (base : BaseLists) (m : Machine) (number : ℕ) (r : Reply) → MeetNow base m → MeetNow base (with_surrender m number r)
surrender_meets base m number reply.Surrendered had = All-set (MeetsIfInForce base (state_in base m) m.day) m.permits _ _ (λ e. absurd (grind (arith, e))) had
surrender_meets base m number _ had = had

pub day_advances : (base : BaseLists) (m : Machine) (caller : ℕ) (day : List ℕ) (r : Reply) → IsAnswer base m caller (call.Day day) r → Advances m.day r
day_advances base m caller day r answer = given (Advances m.day) (day_reply m.day day) r (advances m.day day) tt answer

pub answer_meets : (base : BaseLists) (m : Machine) (caller : ℕ) (c : Call) (r : Reply) → IsAnswer base m caller c r → MeetNow base m → MeetNow base (after base m caller c r)
answer_meets base m caller call.Snapshot r answer had = had
answer_meets base m caller (call.Submit a p) r answer had = issue_meets base m caller a p.seen r had (given (IssuedMeets base (state_in base m) a.truck) (reply_in base m a p.what) r (apply_meets base m a p.what) tt answer)
answer_meets base m caller (call.Held a) r answer had = issue_meets base m caller a (version_of m) r had (held_given (IssuedMeets base (state_in base m) a.truck) base m caller a r (λ w _. apply_meets base m a w) tt answer)
answer_meets base m caller (call.Post change) r answer had = post_meets base m change r had
answer_meets base m caller (call.Day day) r answer had = day_meets base m r had (day_advances base m caller day r answer)
answer_meets base m caller (call.Surrender number) r answer had = surrender_meets base m number r had
answer_meets base m caller (call.Show number) r answer had = had

-- a permit that is in force is live
mark_in_force : (m : Mark) (last day : List ℕ) → is_in_force (status_by m last day) ≡ true → is_live m ≡ true
mark_in_force mark.Live last day e = refl
mark_in_force (mark.Recalled v) last day e = absurd (grind (arith, e))
mark_in_force mark.Surrendered last day e = absurd (grind (arith, e))

pub live_in_force : (p : Permit) (day : List ℕ) → is_in_force (status_of p day) ≡ true → is_live p.mark ≡ true
live_in_force p day e = mark_in_force p.mark p.trip.last day e
