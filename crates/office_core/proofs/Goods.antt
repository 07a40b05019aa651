-- What every legal history leaves: permits numbered by their places, with trucks and segments that exist, in force only where they meet.
use Rattle.std.proofs.Common.{◌≡◌, ◌∷◌, ◌++◌, [], List, ℕ, zero, suc, ◌+◌, ◌-◌, ◌<◌, ◌≤◌, ◌⊎◌, inl, inr, true, false, map, set, get_or, length, sym, subst, refl, ◌∙◌, arith, None}
use Rattle.std.specs.List.{All, concat}
use Rattle.std.proofs.lemmas.List.{set_past}
use Rattle.std.proofs.lemmas.Bool.{cases_lt}
use Rattle.std.proofs.lemmas.List.Elements.{All-append, All-set, All-nil, All-cons}
use Rattle.road_graph.specs.Roads.{IsRoads}
use Rattle.restriction_log.specs.declared.change.Change.{Change}
use Rattle.restriction_log.specs.States.{InForce, state_of}
use Rattle.restriction_log.specs.Changes.{takes, AreTaken}
use Rattle.permit_days.specs.Days.{is_before}
use Rattle.permit_book.specs.declared.permit.Permit.{Permit}
use Rattle.permit_book.specs.declared.permit.Mark.{Mark}
use Rattle.permit_book.specs.Permits.{no_permit, AreNumbered}
use Rattle.trip_analysis.specs.declared.application.Application.{Application}
use Rattle.trip_analysis.specs.declared.finding.What.{What}
use Rattle.trip_analysis.specs.Bases.{BaseLists}
use Rattle.trip_analysis.specs.Passing.{first_on}
use Rattle.trip_analysis.specs.Findings.{InRange}
use Rattle.office_words.specs.declared.entry.Call.{Call}
use Rattle.office_words.specs.declared.entry.Reply.{Reply}
use Rattle.office_words.specs.declared.entry.Entry.{Entry}
use Rattle.office_core.specs.Recalls.{MeetsIfInForce, is_recalled, recalled_if, IsRanged}
use Rattle.office_core.specs.Replies.{early_reply}
use Rattle.office_core.specs.Machine.{Machine, opened, version_of, state_in, state_at, posted_reply, reply_in, MayAsk, IsAnswer, with_permit, with_posting, with_day, with_surrender, after, Step, after_entry, after_all, IsLegalFrom, IsLegal, machine_of, IsGood}
use Rattle.permit_book.specs.declared.permit.Mark.TheVariants as mark
use Rattle.office_words.specs.declared.entry.Call.TheVariants as call
use Rattle.office_words.specs.declared.entry.Reply.TheVariants as reply
use Rattle.trip_analysis.proofs.Found.{found_in_range}
use Rattle.office_core.proofs.Cases.{apply_found, given, held_given, none_early}
use Rattle.office_core.proofs.Lists.{pick, All-map}
use Rattle.office_core.proofs.Forces.{answer_meets, day_meets, post_meets, surrender_meets}
use Rattle.office_core.proofs.Replies.{none_fails}

-- of a reply that issues a permit, its number and the segments of its routes
abbrev IssuedAs : BaseLists → ℕ → Reply → Type 0
IssuedAs base number (reply.Issued n version routes) = (n ≡ number) × All (λ s. s < length base.roads.segments) (concat routes)
IssuedAs base number _ = Unit {0}

issued_as : (base : BaseLists) (m : Machine) (a : Application) (w : What) → (early_reply base m.day a ≡ None → InRange base w) → IssuedAs base (length m.permits + 1) (reply_in base m a w)
issued_as base m a w h = apply_found base (state_in base m) (version_of m) m.day (length m.permits + 1) a w (IssuedAs base (length m.permits + 1)) (λ _. tt) (λ _. tt) (λ early needed. record {
  not_needed = λ _. tt;
  no_road = λ _ _ _. tt;
  now_fails = λ _ _ _ _. tt;
  issued = λ routes e meets. (refl, subst (InRange base) e (h (none_early base m.day a early needed)));
  refused = λ _ _ _ _. tt;
  now_meets = λ _ _ _. tt;
  cut_refused = λ _ _ _ _ _ _ _ _. tt;
  cut_meets = λ _ _ _ _. tt;
})

numbered-append : (n : ℕ) (ps : List Permit) (p : Permit) → AreNumbered n ps → p.number ≡ n + length ps + 1 → AreNumbered n (ps ++ p ∷ [])
numbered-append n [] p h e = (omega (arith, e), tt)
numbered-append n (q ∷ ps) p h e = (h.0, numbered-append (n + 1) ps p h.1 (omega (arith, e)))

numbered-map : (f : Permit → Permit) → ((p : Permit) → (f p).number ≡ p.number) → (n : ℕ) (ps : List Permit) → AreNumbered n ps → AreNumbered n (map f ps)
numbered-map f keep n [] h = tt
numbered-map f keep n (p ∷ ps) h = (keep p ∙ h.0, numbered-map f keep (n + 1) ps h.1)

pub numbered-mark : (m : Mark) (n k : ℕ) (ps : List Permit) → AreNumbered n ps → AreNumbered n (set ps k (record (get_or ps k no_permit) { mark = m }))
numbered-mark m n k [] h = h
numbered-mark m n zero (p ∷ ps) h = h
numbered-mark m n (suc k) (p ∷ ps) h = (h.0, numbered-mark m (n + 1) k ps h.1)

recalled_number : (base : BaseLists) (state : InForce) (day : List ℕ) (v : ℕ) (p : Permit) → (recalled_if base state day v p).number ≡ p.number
recalled_number base state day v p = pick (λ (q : Permit). q.number ≡ p.number) (is_recalled base state day p) (record p { mark = mark.Recalled v }) p (λ _. refl) (λ _. refl)

recalled_ranged : (base : BaseLists) (state : InForce) (day : List ℕ) (v : ℕ) (p : Permit) → IsRanged base p → IsRanged base (recalled_if base state day v p)
recalled_ranged base state day v p h = pick (IsRanged base) (is_recalled base state day p) (record p { mark = mark.Recalled v }) p (λ _. record { truck = h.truck; routes = h.routes }) (λ _. h)

ranged-mark : (base : BaseLists) (m : Mark) (k : ℕ) (ps : List Permit) → k < length ps → All (IsRanged base) ps → All (IsRanged base) (set ps k (record (get_or ps k no_permit) { mark = m }))
ranged-mark base m k ps inside h = let old = h k no_permit inside in All-set (IsRanged base) ps k _ (record { truck = old.truck; routes = old.routes }) h

abbrev Kept : BaseLists → Machine → Type 0
Kept base m = AreNumbered 0 m.permits × All (IsRanged base) m.permits

issue_kept : (base : BaseLists) (m : Machine) (caller : ℕ) (a : Application) (seen : ℕ) (r : Reply) → a.truck < length base.fleet → IssuedAs base (length m.permits + 1) r → Kept base m → Kept base (with_permit m caller a seen r)
issue_kept base m caller a seen (reply.Issued n v routes) truck is had = (
  numbered-append 0 m.permits _ had.0 (omega (arith, is.0)),
  All-append (IsRanged base) m.permits _ had.1 (All-cons (IsRanged base) _ [] (record { truck = truck; routes = is.1 }) (All-nil (IsRanged base))),
)
issue_kept base m caller a seen _ truck is had = had

post_kept : (base : BaseLists) (m : Machine) (change : Change) (r : Reply) → Kept base m → Kept base (with_posting base m change r)
post_kept base m change (reply.Posted v recalled) had = let state = state_of base.roads (m.postings ++ change ∷ []) in
    (numbered-map (recalled_if base state m.day v) (recalled_number base state m.day v) 0 m.permits had.0, All-map (IsRanged base) (IsRanged base) (recalled_if base state m.day v) (recalled_ranged base state m.day v) m.permits had.1)
post_kept base m change _ had = had

day_kept : (base : BaseLists) (m : Machine) (r : Reply) → Kept base m → Kept base (with_day m r)
day_kept base m (reply.DayIs day) had = had
day_kept base m _ had = had

ranged-marked : (base : BaseLists) (m : Mark) (k : ℕ) (ps : List Permit) → (k < length ps) ⊎ (length ps ≤ k) → All (IsRanged base) ps → All (IsRanged base) (set ps k (record (get_or ps k no_permit) { mark = m }))
ranged-marked base m k ps (inl h) had = ranged-mark base m k ps h had
ranged-marked base m k ps (inr h) had = subst (All (IsRanged base)) (sym (set_past ps k _ h)) had

surrender_kept : (base : BaseLists) (m : Machine) (number : ℕ) (r : Reply) → Kept base m → Kept base (with_surrender m number r)
surrender_kept base m number reply.Surrendered had = (numbered-mark mark.Surrendered 0 (number - 1) m.permits had.0, ranged-marked base mark.Surrendered (number - 1) m.permits (cases_lt (number - 1) (length m.permits)) had.1)
surrender_kept base m number _ had = had

kept_after : (base : BaseLists) (m : Machine) (caller : ℕ) (c : Call) (r : Reply) → IsRoads base.roads → MayAsk base m c → IsAnswer base m caller c r → Kept base m → Kept base (after base m caller c r)
kept_after base m caller call.Snapshot r roads ask answer had = had
kept_after base m caller (call.Submit a p) r roads ask answer had = issue_kept base m caller a p.seen r ask.sound.truck
    (given (IssuedAs base (length m.permits + 1)) (reply_in base m a p.what) r (issued_as base m a p.what (λ _. found_in_range base (state_at base m p.seen) a p.what roads ask.sound ask.found)) tt answer) had
kept_after base m caller (call.Held a) r roads ask answer had = issue_kept base m caller a (version_of m) r ask.truck
    (held_given (IssuedAs base (length m.permits + 1)) base m caller a r (λ w found. issued_as base m a w (λ early. found_in_range base (state_in base m) a w roads ask (found early))) tt answer) had
kept_after base m caller (call.Post change) r roads ask answer had = post_kept base m change r had
kept_after base m caller (call.Day day) r roads ask answer had = day_kept base m r had
kept_after base m caller (call.Surrender number) r roads ask answer had = surrender_kept base m number r had
kept_after base m caller (call.Show number) r roads ask answer had = had

-- of a reply that posts a change, that the network takes it
abbrev PostedTaken : BaseLists → Change → Reply → Type 0
PostedTaken base change (reply.Posted version recalled) = takes base.roads change ≡ true
PostedTaken base change _ = Unit {0}

posted_taken : (base : BaseLists) (m : Machine) (caller : ℕ) (change : Change) (r : Reply) → IsAnswer base m caller (call.Post change) r → PostedTaken base change r
posted_taken base m caller change r answer = given (PostedTaken base change) (posted_reply base m change) r (pick (PostedTaken base change) (takes base.roads change) (reply.Posted _ _) reply.OutOfRange (λ t. t) (λ _. tt)) tt answer

post_taken : (base : BaseLists) (m : Machine) (change : Change) (r : Reply) → PostedTaken base change r → AreTaken base.roads m.postings → AreTaken base.roads (with_posting base m change r).postings
post_taken base m change (reply.Posted v recalled) taken had = All-append (λ c. takes base.roads c ≡ true) m.postings (change ∷ []) had (All-cons (λ c. takes base.roads c ≡ true) change [] taken (All-nil (λ c. takes base.roads c ≡ true)))
post_taken base m change _ taken had = had

day_taken : (base : BaseLists) (m : Machine) (r : Reply) → AreTaken base.roads m.postings → AreTaken base.roads (with_day m r).postings
day_taken base m (reply.DayIs day) had = had
day_taken base m _ had = had

surrender_taken : (base : BaseLists) (m : Machine) (number : ℕ) (r : Reply) → AreTaken base.roads m.postings → AreTaken base.roads (with_surrender m number r).postings
surrender_taken base m number reply.Surrendered had = had
surrender_taken base m number _ had = had

taken_after : (base : BaseLists) (m : Machine) (caller : ℕ) (c : Call) (r : Reply) → IsAnswer base m caller c r → AreTaken base.roads m.postings → AreTaken base.roads (after base m caller c r).postings
taken_after base m caller call.Snapshot r answer had = had
taken_after base m caller (call.Submit a p) r answer had = had
taken_after base m caller (call.Held a) r answer had = had
taken_after base m caller (call.Post change) r answer had = post_taken base m change r (posted_taken base m caller change r answer) had
taken_after base m caller (call.Day day) r answer had = day_taken base m r had
taken_after base m caller (call.Surrender number) r answer had = surrender_taken base m number r had
taken_after base m caller (call.Show number) r answer had = had

-- an office begins so, and each change of what it keeps leaves it so
pub good_opened : (base : BaseLists) (day : List ℕ) → IsGood base (opened day)
good_opened base day = record {
  taken = All-nil (λ c. takes base.roads c ≡ true);
  numbered = tt;
  ranged = All-nil (IsRanged base);
  meets = All-nil (MeetsIfInForce base (state_in base (opened day)) day);
}

pub good_entered : (base : BaseLists) (m : Machine) (p : Permit) → p.number ≡ length m.permits + 1 → IsRanged base p → first_on base (state_in base m) p.trip.truck (concat p.trip.routes) ≡ None → IsGood base m → IsGood base (record m { permits = m.permits ++ p ∷ [] })
good_entered base m p number ranged meets good = record {
  taken = good.taken;
  numbered = numbered-append 0 m.permits p good.numbered (omega (arith, number));
  ranged = All-append (IsRanged base) m.permits (p ∷ []) good.ranged (All-cons (IsRanged base) p [] ranged (All-nil (IsRanged base)));
  meets = All-append (MeetsIfInForce base (state_in base m) m.day) m.permits (p ∷ []) good.meets
      (All-cons (MeetsIfInForce base (state_in base m) m.day) p [] (λ _. none_fails base (state_in base m) p.trip.truck (concat p.trip.routes) meets) (All-nil (MeetsIfInForce base (state_in base m) m.day)));
}

pub good_posted : (base : BaseLists) (m : Machine) (change : Change) (v : ℕ) (recalled : List ℕ) → takes base.roads change ≡ true → IsGood base m → IsGood base (with_posting base m change (reply.Posted v recalled))
good_posted base m change v recalled taken good =
    let r : Reply = reply.Posted v recalled in
    let kept = post_kept base m change r (good.numbered, good.ranged) in record {
      taken = post_taken base m change r taken good.taken;
      numbered = kept.0;
      ranged = kept.1;
      meets = post_meets base m change r good.meets;
    }

pub good_day : (base : BaseLists) (m : Machine) (day : List ℕ) → is_before day m.day ≡ false → IsGood base m → IsGood base (with_day m (reply.DayIs day))
good_day base m day later good = record { taken = good.taken; numbered = good.numbered; ranged = good.ranged; meets = day_meets base m (reply.DayIs day) good.meets later }

pub good_surrendered : (base : BaseLists) (m : Machine) (number : ℕ) → IsGood base m → IsGood base (with_surrender m number reply.Surrendered)
good_surrendered base m number good =
    let kept = surrender_kept base m number reply.Surrendered (good.numbered, good.ranged) in record {
      taken = good.taken;
      numbered = kept.0;
      ranged = kept.1;
      meets = surrender_meets base m number reply.Surrendered good.meets;
    }

pub good_after : (base : BaseLists) (m : Machine) (e : Entry) → IsRoads base.roads → Step base m e (after_entry base m e) → IsGood base m → IsGood base (after_entry base m e)
good_after base m e roads step good = let kept = kept_after base m e.caller e.call e.reply roads step.asked step.answer (good.numbered, good.ranged) in record {
  taken = taken_after base m e.caller e.call e.reply step.answer good.taken;
  numbered = kept.0;
  ranged = kept.1;
  meets = answer_meets base m e.caller e.call e.reply step.answer good.meets;
}

good_all : (base : BaseLists) (m : Machine) (es : List Entry) → IsRoads base.roads → IsLegalFrom base m es → IsGood base m → IsGood base (after_all base m es)
good_all base m [] roads legal good = good
good_all base m (e ∷ es) roads legal good = good_all base (after_entry base m e) es roads legal.1 (good_after base m e roads legal.0 good)

pub good_of : (base : BaseLists) (day : List ℕ) (es : List Entry) → IsRoads base.roads → IsLegal base day es → IsGood base (machine_of base day es)
good_of base day es roads legal = good_all base (opened day) es roads legal (good_opened base day)
