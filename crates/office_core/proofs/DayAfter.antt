-- The day of a machine is the last that its history set.
use Rattle.std.proofs.Common.{◌≡◌, ◌∷◌, [], List, ℕ, ap, refl, ◌∙◌}
use Rattle.restriction_log.specs.declared.change.Change.{Change}
use Rattle.trip_analysis.specs.Bases.{BaseLists}
use Rattle.office_words.specs.declared.entry.Call.{Call}
use Rattle.office_words.specs.declared.entry.Call.TheVariants as call
use Rattle.office_words.specs.declared.entry.Reply.{Reply}
use Rattle.office_words.specs.declared.entry.Reply.TheVariants as reply
use Rattle.office_words.specs.declared.entry.Entry.{Entry}
use Rattle.office_core.specs.Machine.{IsAnswer, IsLegal, IsLegalFrom, Machine, after, after_all, after_entry, machine_of, opened, with_day, with_posting, with_surrender}
use Rattle.office_core.specs.Happened.{day_after, day_by}
use Rattle.office_core.proofs.Fitting.{Fits, fits}

none_set : (c : Call) (r : Reply) (day : List ℕ) → Fits c r → ((k : List ℕ) → c ≡ call.Day k → ⊥) → day ≡ day_by day r
none_set c (reply.DayIs next) day is off = absurd (off is.0 is.1)
none_set c _ day is off = refl

post_day : (base : BaseLists) (m : Machine) (change : Change) (r : Reply) → (with_posting base m change r).day ≡ m.day
post_day base m change (reply.Posted v ns) = refl
post_day base m change _ = refl

set_day : (m : Machine) (r : Reply) → (with_day m r).day ≡ day_by m.day r
set_day m (reply.DayIs next) = refl
set_day m _ = refl

surrender_day : (m : Machine) (n : ℕ) (r : Reply) → (with_surrender m n r).day ≡ m.day
surrender_day m n reply.Surrendered = refl
surrender_day m n _ = refl

one_day : (base : BaseLists) (m : Machine) (caller : ℕ) (c : Call) (r : Reply) → IsAnswer base m caller c r → (after base m caller c r).day ≡ day_by m.day r
one_day base m caller call.Snapshot r answer = none_set call.Snapshot r m.day (fits base m caller call.Snapshot r answer) (λ k e. cc)
one_day base m caller (call.Submit a p) r answer = none_set (call.Submit a p) r m.day (fits base m caller (call.Submit a p) r answer) (λ k e. cc)
one_day base m caller (call.Held a) r answer = none_set (call.Held a) r m.day (fits base m caller (call.Held a) r answer) (λ k e. cc)
one_day base m caller (call.Post change) r answer = post_day base m change r ∙ none_set (call.Post change) r m.day (fits base m caller (call.Post change) r answer) (λ k e. cc)
one_day base m caller (call.Day day) r answer = set_day m r
one_day base m caller (call.Surrender n) r answer = surrender_day m n r ∙ none_set (call.Surrender n) r m.day (fits base m caller (call.Surrender n) r answer) (λ k e. cc)
one_day base m caller (call.Show n) r answer = none_set (call.Show n) r m.day (fits base m caller (call.Show n) r answer) (λ k e. cc)

all_days : (base : BaseLists) (m : Machine) (es : List Entry) → IsLegalFrom base m es → (after_all base m es).day ≡ day_after m.day es
all_days base m [] legal = refl
all_days base m (e ∷ es) legal = all_days base (after_entry base m e) es legal.1 ∙ ap (λ d. day_after d es) (one_day base m e.caller e.call e.reply legal.0.answer)

pub day_is : (base : BaseLists) (day : List ℕ) (es : List Entry) → IsLegal base day es → (machine_of base day es).day ≡ day_after day es
day_is base day es legal = all_days base (opened day) es legal
