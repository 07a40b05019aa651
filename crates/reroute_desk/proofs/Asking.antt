-- Applying again for the first permit that is left: what may be asked, and what comes of it.
use Rattle.std.proofs.Common.{◌≡◌, ◌∙◌, ◌⊎◌, inl, inr, ap, sym, subst, ℕ, List, [], ◌∷◌, ◌++◌, true, false, length, Some, Ok, Err}
use Rattle.std.proofs.lemmas.List.{append-nil}
use Rattle.std.proofs.lemmas.Bool.{cases_lt}
use Rattle.road_graph.specs.Roads.{IsRoads}
use Rattle.permit_days.specs.Days.{is_before}
use Rattle.trip_analysis.specs.Applications.{Sound}
use Rattle.trip_analysis.specs.Bases.{AreTrains}
use Rattle.trip_analysis.specs.Findings.{is_number_among}
use Rattle.trip_analysis.specs.declared.application.Application.{Application}
use Rattle.office_words.specs.declared.entry.Call.TheVariants as call
use Rattle.office_words.specs.declared.entry.Reply.{Reply}
use Rattle.office_words.specs.declared.entry.Reply.TheVariants as reply
use Rattle.office_core.specs.Machine.{IsLegal}
use Rattle.office_core.specs.Offices.{HasPlace, IsFull, Opened, entry, grown}
use Rattle.office_core.specs.Promises.{KeepsPromises}
use Rattle.office_core.specs.Replies.{is_full}
use Rattle.reroute_desk.specs.Issues.{recalled_in}
use Rattle.reroute_desk.specs.declared.handled.HandledAs.{HandledAs}
use Rattle.reroute_desk.specs.declared.handled.HandledAs.TheVariants.{Ended, Refused, Replaced}
use Rattle.reroute_desk.specs.declared.refusal.RerouteRefusal.{RerouteRefusal}
use Rattle.reroute_desk.specs.declared.refusal.RerouteRefusal.TheVariants as refusal
use Rattle.reroute_desk.specs.Desks.{AnswersRenewal, Desk, HasGoneOn, IsFirstLeft, IsNext, IsRerouteCause, KeepsUp, office_day, is_ended, kept_reply, olds_of, refusal_reply}
use Rattle.reroute_desk.specs.Replacements.{again_behind, renewed}
use Rattle.reroute_desk.proofs.Going.{gone_answered, gone_lacked, gone_nowhere, kept_plain, with_entries, with_item}
use Rattle.reroute_desk.proofs.Recalling.{IsKnown, in_seam, known, told_whole, was_issued}
use Rattle.reroute_desk.proofs.Renewing.{IsWanted, answers_renewal, sound_again, wanted}

module _ (d : Desk) (o : Opened) (promises : KeepsPromises o.base o.opening o.history) (old : ℕ) (next : IsNext d o old) (trip : Application) (is : again_behind o.opening o.history old ≡ Some trip) (in_time : is_before trip.last (office_day o) ≡ false) where
  on : is_number_among old (recalled_in o.history) ≡ true
  on = ap (λ (l : List ℕ). is_number_among old l) next.1 ∙ in_seam old (olds_of d.handled) next.0

  k : IsKnown o.base o.opening o.history o.history old
  k = known o.base o.opening o.history o.history [] old (sym (append-nil o.history)) promises on

  same : trip ≡ renewed (office_day o) k.trip
  same = some_one (sym is ∙ told_whole k (renewed (office_day o)))
    where
      some_one : {a b : Application} → Some a ≡ Some b → a ≡ b
      some_one e = cc

  k_in_time : is_before k.trip.last (office_day o) ≡ false
  k_in_time = subst (λ (t : Application). is_before t.last (office_day o) ≡ false) same in_time

  want : IsWanted o.base k.trip
  want = wanted o.base o.opening o.history old k.trip k.routes k.on_road.0 promises (was_issued k) k.on_road.1

  -- it may be asked for
  pub may_ask : Sound o.base trip
  may_ask = subst (λ (t : Application). Sound o.base t) (sym same) (sound_again o.base (office_day o) k.trip want.sound k_in_time)

  -- it has not expired
  pub is_left : IsFirstLeft d o old
  is_left = record { next = next; trip = k.trip; routes = k.routes; issued = was_issued k; in_time = k_in_time }

  module _ (caller : ℕ) (r : Reply) (now : Opened) (full : IsFull o → r ≡ reply.Full o.most) (unchanged : IsFull o → now ≡ o) (not_full : HasPlace o → is_full r ≡ false) (grows : HasPlace o → now ≡ grown o (entry caller (call.Held trip) r)) (legal : IsLegal now.base now.opening now.history) where
    -- its answer is a permit, a refusal, that the history is full, or that memory is wanting
    pub may_answer : IsRoads o.base.roads → AreTrains o.base → AnswersRenewal r
    may_answer roads trains = by (cases_lt (length o.history) o.most)
      where
        of_legal : (a : Application) → trip ≡ a → IsLegal o.base o.opening (o.history ++ entry caller (call.Held trip) r ∷ []) → IsLegal o.base o.opening (o.history ++ entry caller (call.Held a) r ∷ [])
        of_legal a e l = subst (λ (t : Application). IsLegal o.base o.opening (o.history ++ entry caller (call.Held t) r ∷ [])) e l

        by : HasPlace o ⊎ IsFull o → AnswersRenewal r
        by (inl place) = answers_renewal o.base o.opening o.history caller k.trip want roads trains r
            (of_legal (renewed (office_day o) k.trip) same (subst (λ (n : Opened). IsLegal n.base n.opening n.history) (grows place) legal))
        by (inr filled) = subst AnswersRenewal (sym (full filled)) tt

    module _ (keeps : KeepsUp d o) (own : caller ≡ d.caller) where
      of_own : HasPlace o → now ≡ with_entries o (entry d.caller (call.Held trip) r ∷ [])
      of_own place = grows place ∙ ap (λ (c : ℕ). with_entries o (entry c (call.Held trip) r ∷ [])) own

      -- what was kept of an answer
      pub gone_on : (what : HandledAs) → kept_reply what ≡ Some r → is_ended what ≡ false → HasGoneOn d o (Ok tt) (with_item d (record { old = old; what = what })) now
      gone_on what kept not_ended = by (cases_lt (length o.history) o.most)
        where
          not_kept : (w : HandledAs) → kept_reply w ≡ Some (reply.Full o.most) → ⊥
          not_kept Ended e = cc
          not_kept (Replaced n v routes) e = cc
          not_kept (Refused v l) e = cc

          by : HasPlace o ⊎ IsFull o → HasGoneOn d o (Ok tt) (with_item d (record { old = old; what = what })) now
          by (inl place) = subst (λ (n : Opened). HasGoneOn d o (Ok tt) (with_item d (record { old = old; what = what })) n) (sym (of_own place))
              (gone_answered d o keeps (record { old = old; what = what }) next.0 next.1 trip is r kept (kept_plain what r kept) k.trip k.routes (was_issued k) k_in_time not_ended)
          by (inr filled) = absurd (not_kept what (kept ∙ ap (λ (x : Reply). Some x) (full filled)))

      -- what was refused, and why
      pub refused_so : (q : RerouteRefusal) → refusal_reply q ≡ r → HasGoneOn d o (Err q) d now × IsRerouteCause d now q
      refused_so q refused = by q refused (cases_lt (length o.history) o.most)
        where
          full_open : (x : Reply) → is_full x ≡ true → is_full x ≡ false → ⊥
          full_open x e f = cc

          entries_are : (n m : ℕ) → reply.Full n ≡ reply.Full m → n ≡ m
          entries_are n m e = cc

          apart : reply.NoMemory ≡ reply.Full o.most → ⊥
          apart e = cc

          by : (q : RerouteRefusal) → refusal_reply q ≡ r → HasPlace o ⊎ IsFull o → HasGoneOn d o (Err q) d now × IsRerouteCause d now q
          by (refusal.Full n) e (inl place) = absurd (full_open r (ap is_full (sym e)) (not_full place))
          by (refusal.Full n) e (inr filled) = subst (λ (m : Opened). HasGoneOn d o (Err (refusal.Full n)) d m × IsRerouteCause d m (refusal.Full n)) (sym (unchanged filled))
              (gone_nowhere d o (Err (refusal.Full n)) d.notes keeps keeps.noted, (entries_are n o.most (e ∙ full filled), filled, (old, is_left)))
          by refusal.NoMemory e (inl place) = (subst (λ (m : Opened). HasGoneOn d o (Err refusal.NoMemory) d m) (sym (of_own place ∙ ap (λ (x : Reply). with_entries o (entry d.caller (call.Held trip) x ∷ [])) (sym e))) (gone_lacked d o keeps trip), tt)
          by refusal.NoMemory e (inr filled) = absurd (apart (e ∙ full filled))
