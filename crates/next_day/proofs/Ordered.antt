-- The days that a whole history of a day file speaks of are days of the calendar.
use Rattle.std.proofs.Common.{◌≡◌, ◌∷◌, [], ℕ, Some, None, Bool, true, false, refl, ap, sym, subst, ◌∙◌, if◌then◌else◌, arith, inl, inr}
use Rattle.std.specs.Prelude.{All, Contains}
use Rattle.std.proofs.lemmas.List.Elements.{All-contains, All-head, All-tail, All-weaker, Contains-append_right}
use Rattle.std.proofs.lemmas.Option.{same_Some}
use Rattle.permit_days.specs.Days.{is_before, is_day_text}
use Rattle.road_graph.specs.Roads.{Roads}
use Rattle.trip_analysis.specs.Bases.{BaseLists}
use Rattle.trip_analysis.specs.declared.application.Application.{Application}
use Rattle.day_text.specs.Bounds.{IsBounded, IsCommandWithin}
use Rattle.day_text.specs.Days.{DayParts}
use Rattle.day_text.specs.declared.orders.Order.{Order}
use Rattle.office_words.specs.declared.entry.Call.{Call}
use Rattle.office_words.specs.declared.entry.Call.TheVariants as call
use Rattle.office_words.specs.declared.entry.Command.{Command}
use Rattle.office_words.specs.declared.entry.Command.TheVariants as command
use Rattle.office_words.specs.declared.entry.Entry.{Entry}
use Rattle.office_words.specs.declared.entry.Reply.{Reply}
use Rattle.office_words.specs.declared.entry.Reply.TheVariants as reply
use Rattle.office_core.specs.Happened.{Day, History, application_in, day_after, day_by}
use Rattle.office_core.specs.Machine.{IsAnswer, IsLegal, IsLegalFrom, Machine, after_entry, machine_of, opened}
use Rattle.office_core.specs.Offices.{entry}
use Rattle.office_core.proofs.DayAfter.{day_is}
use Rattle.office_core.proofs.Fitting.{fits}
use Rattle.journal_whole.specs.Asking.{IsOrdered, Wants}
use Rattle.next_day.specs.Standing.{Standing}
use Rattle.next_day.proofs.Facts.{IsSoundStanding}

-- the days of a call are days of the calendar
pub record IsOfDays (c : Call) : Type 0 where
  pub trip : (a : Application) → application_in c ≡ Some a → (is_day_text a.first ≡ true) × (is_day_text a.last ≡ true)
  pub set : (d : Day) → c ≡ call.Day d → is_day_text d ≡ true

-- so are those of what a command within bounds wants
wanted_days : (roads : Roads) (c : Command) (k : Call) → IsCommandWithin roads c → Wants c k → IsOfDays k
wanted_days roads (command.Apply b) k within wants = record {
  trip = λ a is. let same : b ≡ a = same_Some b a (sym wants ∙ is) in
      subst (λ (x : Application). (is_day_text x.first ≡ true) × (is_day_text x.last ≡ true)) same within;
  set = λ d is. let none : None ≡ Some b = sym (ap application_in is) ∙ wants in cc;
}
wanted_days roads (command.Post change) k within wants = record {
  trip = λ a is. let none : None ≡ Some a = sym (ap application_in wants) ∙ is in cc;
  set = λ d is. let other : call.Post change ≡ call.Day d = sym wants ∙ is in cc;
}
wanted_days roads (command.Day day) k within wants = record {
  trip = λ a is. let none : None ≡ Some a = sym (ap application_in wants) ∙ is in cc;
  set = λ d is. let same : call.Day day ≡ call.Day d = sym wants ∙ is in let days : day ≡ d = cc in subst (λ (x : Day). is_day_text x ≡ true) days within;
}
wanted_days roads (command.Surrender number) k within wants = record {
  trip = λ a is. let none : None ≡ Some a = sym (ap application_in wants) ∙ is in cc;
  set = λ d is. let other : call.Surrender number ≡ call.Day d = sym wants ∙ is in cc;
}
wanted_days roads (command.Show number) k within wants = record {
  trip = λ a is. let none : None ≡ Some a = sym (ap application_in wants) ∙ is in cc;
  set = λ d is. let other : call.Show number ≡ call.Day d = sym wants ∙ is in cc;
}

ordered_days : (file : DayParts) → IsBounded file → (e : Entry) → IsOrdered file.commands e → IsOfDays e.call
ordered_days file bounds e (inl look) = record {
  trip = λ a is. let none : None ≡ Some a = sym (ap application_in look) ∙ is in cc;
  set = λ d is. let other : call.Snapshot ≡ call.Day d = sym look ∙ is in cc;
}
ordered_days file bounds e (inr (order, there, mine, wants)) =
    wanted_days file.base.roads order.command e.call (All-contains (λ (o : Order). IsCommandWithin file.base.roads o.command) file.commands order bounds.commands there) wants

-- the days of all calls of a history whose entries are ordered
pub all_of_days : (file : DayParts) (es : History) → IsBounded file → All (IsOrdered file.commands) es → All (λ e. IsOfDays e.call) es
all_of_days file es bounds ordered = All-weaker (IsOrdered file.commands) (λ (e : Entry). IsOfDays e.call) (ordered_days file bounds) es ordered

-- the day that a reply sets is the one that was asked for
set_as_asked : (base : BaseLists) (m : Machine) (caller : ℕ) (day next : Day) → IsAnswer base m caller (call.Day day) (reply.DayIs next) → next ≡ day
set_as_asked base m caller day next (inr lacks) = let e = lacks.0 in cc
set_as_asked base m caller day next (inl is) = by (is_before day m.day) is
  where
    by : (b : Bool) → reply.DayIs next ≡ (if b then reply.DayBack m.day else reply.DayIs day) → next ≡ day
    by true e = cc
    by false e = cc

day_text_by : (base : BaseLists) (m : Machine) (caller : ℕ) (c : Call) (r : Reply) (d : Day) → IsAnswer base m caller c r → IsOfDays c → is_day_text d ≡ true → is_day_text (day_by d r) ≡ true
day_text_by base m caller c (reply.DayIs next) d answer of_days is =
    let asked = fits base m caller c (reply.DayIs next) answer in
    let same = set_as_asked base m caller asked.0 next (subst (λ (k : Call). IsAnswer base m caller k (reply.DayIs next)) asked.1 answer) in
    ap is_day_text same ∙ of_days.set asked.0 asked.1
day_text_by base m caller c _ d answer of_days is = is

days_from : (base : BaseLists) (m : Machine) (d : Day) (es : History) → IsLegalFrom base m es → All (λ e. IsOfDays e.call) es → is_day_text d ≡ true → is_day_text (day_after d es) ≡ true
days_from base m d [] legal of_days is = is
days_from base m d (e ∷ es) legal of_days is =
    days_from base (after_entry base m e) (day_by d e.reply) es legal.1 (All-tail (λ (x : Entry). IsOfDays x.call) e es of_days)
    (day_text_by base m e.caller e.call e.reply d legal.0.answer (All-head (λ (x : Entry). IsOfDays x.call) e es of_days) is)

-- the day that such a history leaves is a day
pub today_is_day : (base : BaseLists) (day : Day) (es : History) → IsLegal base day es → All (λ e. IsOfDays e.call) es → is_day_text day ≡ true → is_day_text (machine_of base day es).day ≡ true
today_is_day base day es legal of_days is = ap is_day_text (day_is base day es legal) ∙ days_from base (opened day) day es legal of_days is

-- and so are the days of each permit that stands behind it
pub standing_days : (base : BaseLists) (day : Day) (es : History) (p : Standing) → All (λ e. IsOfDays e.call) es → IsSoundStanding base day es p
    → (is_day_text p.trip.first ≡ true) × (is_day_text p.trip.last ≡ true)
standing_days base day es p of_days h =
    let e = entry p.holder h.call (reply.Issued p.number h.version p.routes) in
    let there : Contains es e = subst (λ (l : History). Contains l e) (sym h.stands.1) (Contains-append_right h.front (e ∷ h.stands.0) e (0, omega arith, refl)) in
    let its : IsOfDays e.call = All-contains (λ (x : Entry). IsOfDays x.call) es e of_days there in
    its.trip p.trip h.asked
