-- What the calls of one caller leave to the next.
use Rattle.std.proofs.Common.{◌≡◌, ◌≢◌, ◌∷◌, ◌++◌, inl, inr, [], List, ℕ, Bool, true, false, ap, sym, subst, refl, ◌∙◌, append_assoc, arith}
use Rattle.std.proofs.lemmas.List.{append-nil}
use Rattle.road_graph.specs.Roads.{IsRoads}
use Rattle.trip_analysis.specs.declared.application.Application.{Application}
use Rattle.trip_analysis.specs.Applications.{Sound}
use Rattle.office_words.specs.declared.entry.Call.{Call}
use Rattle.office_words.specs.declared.entry.Call.TheVariants as call
use Rattle.office_words.specs.declared.entry.Entry.{Entry}
use Rattle.office_words.specs.declared.entry.Reply.{Reply}
use Rattle.office_words.specs.declared.entry.Reply.TheVariants as reply
use Rattle.office_core.specs.Replies.{is_full, is_outdated}
use Rattle.office_core.specs.Machine.{IsAnswer, IsLegal, Machine, MayAsk, Step, machine_of, version_of}
use Rattle.office_core.specs.Offices.{entry}
use Rattle.office_core.specs.Calls.{Added, Answered, Calling, Who, machine_seen}
use Rattle.office_core.proofs.Currents.{held_current}
use Rattle.office_core.proofs.Histories.{last_step}
use Rattle.office_core.proofs.Later.{asked_later}

bool_cases : {A : Type 0} (b : Bool) → (b ≡ true → A) → (b ≡ false → A) → A
bool_cases true f g = f refl
bool_cases false f g = g refl

pub full_is : (r : Reply) → is_full r ≡ true → (most : ℕ) × (r ≡ reply.Full most)
full_is (reply.Full most) is = (most, refl)
full_is _ is = absurd (grind (arith, is))

-- an answer that does not say so is none of a full history
pub has_room : (r : Reply) → ((most : ℕ) → r ≢ reply.Full most) → is_full r ≡ false
has_room r other = bool_cases (is_full r) (λ full. let (most, is) = full_is r full in absurd (other most is)) (λ room. room)

module _ {P : Type 0} where
  -- the machine from which the entry is a step: what was seen goes on by what others entered meanwhile
  abbrev pub machine_met : (v w : Calling P) (e : Entry) → Added v e w → Machine
  machine_met v w e added = machine_of w.who.base w.who.opening (v.seen ++ added.sees.between)

  pub entered : (v w : Calling P) (e : Entry) (added : Added v e w) → Step w.who.base (machine_met v w e added) e (machine_seen w)
  entered v w e added = let es = v.seen ++ added.sees.between in
      subst (λ (l : List Entry). Step w.who.base (machine_met v w e added) e (machine_of w.who.base w.who.opening l)) (sym added.sees.seen)
      (last_step w.who.base w.who.opening es e (subst (IsLegal w.who.base w.who.opening) added.sees.seen added.legal))

  -- the history seen goes on
  pub seen_on : (v w : Calling P) (c : Call) (r : Reply) → Answered v c r w → (more : List Entry) × (w.seen ≡ v.seen ++ more)
  seen_on v w c r answered = bool_cases (is_full r)
      (λ full. let (most, is) = full_is r full in ([], (answered.full most is).seen ∙ sym (append-nil v.seen)))
      (λ open'. let sees = (answered.entry open').sees in
      (sees.between ++ entry v.who.caller c r ∷ [], sees.seen ∙ append_assoc v.seen sees.between (entry v.who.caller c r ∷ [])))

  -- what may be asked may be asked after a call
  pub asked_still : (v w : Calling P) (c d : Call) (r : Reply) → Answered v c r w → MayAsk v.who.base (machine_seen v) d → MayAsk w.who.base (machine_seen w) d
  asked_still v w c d r answered ask = let (more, is) = seen_on v w c r answered in
      subst (λ (k : Who P). MayAsk k.base (machine_of k.base k.opening w.seen) d) (sym answered.who)
      (subst (λ (l : List Entry). MayAsk v.who.base (machine_of v.who.base v.who.opening l) d) (sym is) (asked_later v.who.base v.who.opening v.seen more d ask))

  -- what the office finds itself is never answered that it is out of date
  pub held_in_date : (v w : Calling P) (a : Application) (r : Reply) → IsRoads v.who.base.roads → Sound v.who.base a → Answered v (call.Held a) r w → is_outdated r ≡ false
  held_in_date v w a r roads sound answered = bool_cases (is_full r)
      (λ full. let (most, is) = full_is r full in ap is_outdated is)
      (λ open'. let added = answered.entry open' in let e = entry v.who.caller (call.Held a) r in
      held_current w.who.base (machine_met v w e added) v.who.caller a r
      (subst (λ (k : Who P). IsRoads k.base.roads) (sym answered.who) roads) (subst (λ (k : Who P). Sound k.base a) (sym answered.who) sound) (entered v w e added).answer)

  -- a look that is answered by an entry is answered by the version that was then seen
  pub looked_at : (v w : Calling P) (r : Reply) → Answered v call.Snapshot r w → is_full r ≡ false → Answered v call.Snapshot (reply.SnapshotAt (version_of (machine_seen w))) w
  looked_at v w r answered open' =
      let added = answered.entry open' in let e = entry v.who.caller call.Snapshot r in let step = entered v w e added in
      subst (λ (x : Reply). Answered v call.Snapshot x w) (is (machine_met v w e added) (machine_seen w) step.next_is step.answer) answered
    where
      is : (m n : Machine) → n ≡ m → IsAnswer w.who.base m v.who.caller call.Snapshot r → r ≡ reply.SnapshotAt (version_of n)
      is m n same (inl given) = given ∙ ap (λ (k : Machine). reply.SnapshotAt (version_of k)) (sym same)
      is m n same (inr lacks) = absurd (grind (arith, lacks.1))
