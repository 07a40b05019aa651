-- The first permit that is left, in the words of what the desk has at hand.
use Rattle.std.proofs.Common.{◌≡◌, ◌∙◌, ap, sym, ℕ, List, [], ◌∷◌, ◌++◌, Bool, true, take, drop, Option, None, Some}
use Rattle.std.proofs.lemmas.List.{take-append-drop}
use Rattle.permit_days.specs.Days.{is_before}
use Rattle.trip_analysis.specs.declared.application.Application.{Application}
use Rattle.trip_analysis.specs.Findings.{is_number_among}
use Rattle.office_core.specs.Happened.{Day, History, day_after}
use Rattle.office_core.specs.Machine.{IsLegal}
use Rattle.office_core.specs.Offices.{Opened, machine_in}
use Rattle.office_core.specs.Promises.{KeepsPromises}
use Rattle.office_core.proofs.DayAfter.{day_is}
use Rattle.reroute_desk.specs.Issues.{recalled_in}
use Rattle.reroute_desk.specs.declared.handled.Handled.{Handled}
use Rattle.reroute_desk.specs.declared.rerouter.Rerouter.TheInside.{Inside}
use Rattle.reroute_desk.specs.Desks.{Desk, IsNext, KeepsUp, desk_of, olds_of}
use Rattle.reroute_desk.specs.Notes.{Noted, noted_trip_of}
use Rattle.reroute_desk.specs.Replacements.{again_behind, renewed, unasked}
use Rattle.reroute_desk.proofs.Going.{with_item}
use Rattle.reroute_desk.proofs.Recalling.{IsKnown, in_seam, known, told_first, told_whole}

-- a desk whose items are these
pub pushed : (i : Inside) (d : Desk) (items : List Handled) (h : Handled) → desk_of i ≡ d → items ≡ i.handled.items ++ h ∷ [] → record { caller = i.caller; handled = items; notes = i.notes } ≡ with_item d h
pushed i d items h is e =
    ap (λ (l : List Handled). record { caller = i.caller; handled = l; notes = i.notes }) e
    ∙ ap (λ (x : Desk). with_item x h) is

pub unpushed : (i : Inside) (d : Desk) (items : List Handled) → desk_of i ≡ d → items ≡ i.handled.items → record { caller = i.caller; handled = items; notes = i.notes } ≡ d
unpushed i d items is e = ap (λ (l : List Handled). record { caller = i.caller; handled = l; notes = i.notes }) e ∙ is

-- a desk with these notes
pub renoted : (i : Inside) (d : Desk) (notes : Noted) → desk_of i ≡ d → record { caller = i.caller; handled = i.handled.items; notes = notes } ≡ record d { notes = notes }
renoted i d notes is = ap (λ (x : Desk). record x { notes = notes }) is

module _ (i : Inside) (d : Desk) (is : desk_of i ≡ d) (o : Opened) (promises : KeepsPromises o.base o.opening o.history) (legal : IsLegal o.base o.opening o.history) (keeps : KeepsUp d o) (noted : d.notes.recalled ≡ recalled_in o.history) (old : ℕ) (next : IsNext d o old) where
  first : History
  first = take d.notes.read o.history

  on : is_number_among old (recalled_in (take d.notes.read o.history)) ≡ true
  on =
      let whole : recalled_in (take d.notes.read o.history) ≡ olds_of d.handled ++ old ∷ next.0 = sym keeps.noted.recalled ∙ (noted ∙ next.1) in
      ap (λ (l : List ℕ). is_number_among old l) whole ∙ in_seam old (olds_of d.handled) next.0

  -- what is known of it
  pub k : IsKnown o.base o.opening o.history (take d.notes.read o.history) old
  k = known o.base o.opening o.history (take d.notes.read o.history) (drop d.notes.read o.history) old (sym (take-append-drop d.notes.read o.history)) promises on

  -- its trip is noted
  pub trip_is : noted_trip_of i.notes old ≡ Some (unasked k.trip)
  trip_is = ap (λ (x : Desk). noted_trip_of x.notes old) is ∙ (keeps.noted.trips old ∙ told_first k unasked)

  pub none_left : (x : Option Application) → x ≡ noted_trip_of i.notes old → x ≡ None → ⊥
  none_left x at none = some_none (sym trip_is ∙ (sym at ∙ none))
    where
      some_none : {a : Application} → Some a ≡ None → ⊥
      some_none e = cc

  pub noted_as : (trip : Application) → Some trip ≡ noted_trip_of i.notes old → trip ≡ unasked k.trip
  noted_as trip e = some_one (e ∙ trip_is)
    where
      some_one : {a b : Application} → Some a ≡ Some b → a ≡ b
      some_one e = cc

  pub today_is : (today : Day) → today ≡ (machine_in o).day → today ≡ day_after o.opening o.history
  today_is today e = e ∙ day_is o.base o.opening o.history legal

  -- the application once more
  pub again_is : (today : Day) (trip renewal : Application) → today ≡ (machine_in o).day → Some trip ≡ noted_trip_of i.notes old → renewal ≡ renewed today trip → again_behind o.opening o.history old ≡ Some renewal
  again_is today trip renewal day at made =
      told_whole k (renewed (day_after o.opening o.history))
      ∙ ap (λ (a : Application). Some a) (sym (made ∙ (ap (λ (t : Application). renewed today t) (noted_as trip at) ∙ ap (λ (x : Day). renewed x k.trip) (today_is today day))))

  -- whether it has expired
  pub last_is : (today : Day) (trip : Application) (b : Bool) → today ≡ (machine_in o).day → Some trip ≡ noted_trip_of i.notes old → is_before trip.last today ≡ b → is_before k.trip.last (day_after o.opening o.history) ≡ b
  last_is today trip b day at e =
      ap (λ (x : Day). is_before k.trip.last x) (sym (today_is today day))
      ∙ (ap (λ (t : Application). is_before t.last today) (sym (noted_as trip at)) ∙ e)
