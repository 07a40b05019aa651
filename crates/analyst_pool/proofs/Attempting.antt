-- From what calls leave to what a decision leaves.
use Rattle.std.proofs.Common.{◌≡◌, ◌≤◌, ◌∷◌, ◌++◌, [], List, ℕ, suc, true, false, Option, Some, None, MatchOption, ap, sym, subst, refl, ◌∙◌, append_assoc, arith}
use Rattle.std.proofs.lemmas.List.{append-nil}
use Rattle.road_graph.specs.Roads.{IsRoads}
use Rattle.snapshot_store.specs.Stores.{Stored, store_version_of}
use Rattle.trip_analysis.specs.declared.application.Application.{Application}
use Rattle.trip_analysis.specs.Applications.{Sound}
use Rattle.trip_analysis.specs.Bases.{BaseLists}
use Rattle.trip_analysis.specs.Findings.{IsFoundAt}
use Rattle.office_core.specs.declared.calls.Looked.TheVariants as looked
use Rattle.office_words.specs.declared.entry.Call.{Call}
use Rattle.office_words.specs.declared.entry.Call.TheVariants as call
use Rattle.office_words.specs.declared.entry.Command.{Command}
use Rattle.office_words.specs.declared.entry.Command.TheVariants as command
use Rattle.office_words.specs.declared.entry.Entry.{Entry}
use Rattle.office_words.specs.declared.entry.Reply.{Reply}
use Rattle.office_words.specs.declared.entry.Reply.TheVariants as reply
use Rattle.office_core.specs.Calls.{Answered, Calling, Looks, Who, machine_seen, stored_seen}
use Rattle.office_core.specs.Machine.{IsFound}
use Rattle.office_core.specs.Offices.{entry}
use Rattle.office_core.specs.Replies.{is_full, is_outdated}
use Rattle.office_core.proofs.Founds.{found_for}
use Rattle.office_core.proofs.Callings.{full_is, held_in_date}
use Rattle.analyst_pool.specs.declared.deciding.Submission.{Submission}
use Rattle.analyst_pool.specs.Attempts.{Concluded, DecidedAfter, IsAgain, IsPrepared, IsSubmitted, IsUnlessOutdated}
use Rattle.analyst_pool.specs.Leaves.{CarriedOut, Grew}
use Rattle.analyst_pool.specs.Unfolds.{AreOutdated, Concludes, Ends, IsCalled, IsDecided, IsOutdated, Unfolds, answered, concluded, full, full_between, held, lacks, looked_at, submitted}
use Rattle.analyst_pool.proofs.Growing.{by_test, called_by, caller_of, grew_join, grew_none, grew_nothing, grew_one}

outdated_room : (r : Reply) → is_outdated r ≡ true → is_full r ≡ false
outdated_room (reply.Full most) e = absurd (grind (arith, e))
outdated_room _ e = refl

full_settled : (r : Reply) → is_full r ≡ true → is_outdated r ≡ false
full_settled (reply.Full most) e = refl
full_settled _ e = absurd (grind (arith, e))

module _ {P : Type 0} where
  base_of : (v w : Calling P) → w.who ≡ v.who → w.who.base ≡ v.who.base
  base_of v w same = ap (λ (t : Who P). t.base) same

  -- what was found at a snapshot may be submitted
  may_submit : (v w : Calling P) (a : Application) (d : Submission) (s : Stored) → w.who ≡ v.who → s ≡ stored_seen w → Sound v.who.base a → d.proposal.seen ≡ store_version_of s → IsFoundAt v.who.base s a d.proposal.what
      → IsFound w.who.base (machine_seen w) a d.proposal
  may_submit v w a d s same is sound seen found = found_for w.who.base (machine_seen w) s a d.proposal is
      (subst (λ (t : Who P). Sound t.base a) (sym same) sound) seen (subst (λ (t : Who P). IsFoundAt t.base s a d.proposal.what) (sym same) found)

  pub prepared : (v w : Calling P) (a : Application) (d : Submission) (s : Stored) (base : BaseLists) → base ≡ v.who.base → Sound base a → Looks v (looked.At s) w → d.application ≡ a → d.proposal.seen ≡ store_version_of s → IsFoundAt base s a d.proposal.what → IsPrepared v a d w
  prepared v w a d s base is sound looks copy seen found = record {
    grew = subst (λ (n : ℕ). Grew v (looked_at v.who.caller n ∷ []) w) (sym seen) (grew_one v w call.Snapshot (reply.SnapshotAt (store_version_of s)) refl looks.0);
    application = copy;
    asked = subst (λ (b : Application). IsFound w.who.base (machine_seen w) b d.proposal) (sym copy)
        (may_submit v w a d s looks.0.who looks.1 (subst (λ (b : BaseLists). Sound b a) is sound) seen (subst (λ (b : BaseLists). IsFoundAt b s a d.proposal.what) is found));
  }

  -- no memory was left to copy the application for the held call
  pub lacks_copy : (v w : Calling P) (a : Application) (d : Submission) → IsPrepared v a d w → Concluded v a reply.NoMemory w
  lacks_copy v w a d h = record {
    entries = looked_at v.who.caller d.proposal.seen ∷ [];
    concludes = lacks (d.proposal.seen, refl) refl;
    grew = h.grew;
    full = λ most e. absurd (grind (arith, ap is_full e));
  }

  -- no memory was left after a look
  pub lacks_after : (v w : Calling P) (a : Application) (version : ℕ) → Answered v call.Snapshot (reply.SnapshotAt version) w → Concluded v a reply.NoMemory w
  lacks_after v w a version s = record {
    entries = looked_at v.who.caller version ∷ [];
    concludes = lacks (version, refl) refl;
    grew = grew_one v w call.Snapshot (reply.SnapshotAt version) refl s;
    full = λ most e. absurd (grind (arith, ap is_full e));
  }

  -- the history was full ahead of the look
  pub full_ahead : (v w : Calling P) (a : Application) (most : ℕ) → Answered v call.Snapshot (reply.Full most) w → Concluded v a (reply.Full most) w
  full_ahead v w a most s = record {
    entries = [];
    concludes = full refl refl;
    grew = grew_none v w most s.who (s.full most refl);
    full = λ other e. (s.full other e).full;
  }

  -- a submission that was answered: the entries of its attempt, where the history was not full
  grew_pair : (v w x : Calling P) (a : Application) (d : Submission) (r : Reply) → IsPrepared v a d w → Answered w (call.Submit d.application d.proposal) r x → is_full r ≡ false
      → Grew v (looked_at v.who.caller d.proposal.seen ∷ submitted v.who.caller a d.proposal.seen d.proposal.what r ∷ []) x
  grew_pair v w x a d r h s room =
      let more = grew_one w x (call.Submit d.application d.proposal) r room s in
      let same = subst (λ (b : Application). Grew w (entry w.who.caller (call.Submit b d.proposal) r ∷ []) x) h.application more in
      let by = subst (λ (n : ℕ). Grew w (entry n (call.Submit a d.proposal) r ∷ []) x) (caller_of v w h.grew.who) same in
      grew_join v w x (looked_at v.who.caller d.proposal.seen ∷ []) (submitted v.who.caller a d.proposal.seen d.proposal.what r ∷ []) h.grew by

  settled_attempt : (v w x : Calling P) (a : Application) (d : Submission) (r : Reply) → IsPrepared v a d w → Answered w (call.Submit d.application d.proposal) r x → is_outdated r ≡ false → Concluded v a r x
  settled_attempt v w x a d r h s current = by_test (is_full r)
      (λ all. let f = full_is r all in record {
        entries = looked_at v.who.caller d.proposal.seen ∷ [];
        concludes = full_between (d.proposal.seen, refl) all;
        grew = subst (λ l. Grew v l x) (append-nil (looked_at v.who.caller d.proposal.seen ∷ [])) (grew_join v w x (looked_at v.who.caller d.proposal.seen ∷ []) [] h.grew (grew_none w x f.0 s.who (s.full f.0 f.1)));
        full = λ most e. (s.full most e).full;
      })
      (λ room. record {
        entries = looked_at v.who.caller d.proposal.seen ∷ submitted v.who.caller a d.proposal.seen d.proposal.what r ∷ [];
        concludes = answered (d.proposal.seen, d.proposal.what, refl) current room;
        grew = grew_pair v w x a d r h s room;
        full = λ most e. (s.full most e).full;
      })

  -- an attempt whose submission was answered
  pub attempted : (v w x : Calling P) (a : Application) (d : Submission) (o : Option Reply) → IsPrepared v a d w → IsSubmitted w d o x → MatchOption o (IsAgain v a x) (λ r. Concluded v a r x)
  attempted v w x a d o h s = by o s.unless
    where
      by : (o : Option Reply) → IsUnlessOutdated s.reply o → MatchOption o (IsAgain v a x) (λ r. Concluded v a r x)
      by None late = record {
        entries = looked_at v.who.caller d.proposal.seen ∷ submitted v.who.caller a d.proposal.seen d.proposal.what s.reply ∷ [];
        outdated = (s.reply, (d.proposal.seen, d.proposal.what, refl), late);
        grew = grew_pair v w x a d s.reply h s.answered (outdated_room s.reply late);
      }
      by (Some r) is = subst (λ (q : Reply). Concluded v a q x) (sym is.0) (settled_attempt v w x a d s.reply h s.answered is.1)

  -- an attempt that ends the attempts decides
  pub ends_after : (k : ℕ) (v w : Calling P) (a : Application) (r : Reply) → k ≤ 7 → Concluded v a r w → DecidedAfter k v a r w
  ends_after k v w a r few c = record {
    entries = c.entries;
    decided = λ front late. record { tries = k; front = front; last = c.entries; outdated = late; ends = concluded few c.concludes; whole = refl };
    grew = c.grew;
    full = c.full;
  }

  -- one attempt that was out of date, and then a decision
  pub again_then : (k : ℕ) (v w x : Calling P) (a : Application) (r : Reply) → IsAgain v a w → DecidedAfter (suc k) w a r x → DecidedAfter k v a r x
  again_then k v w x a r again then = record {
    entries = again.entries ++ then.entries;
    decided = λ front late. let same = caller_of v w again.grew.who in
        let more : AreOutdated v.who.caller a (suc k) (front ++ again.entries) = (front, again.entries, late, again.outdated, refl) in
        subst (λ l. IsDecided v.who.caller a l r) (append_assoc front again.entries then.entries)
        (subst (λ (n : ℕ). IsDecided n a ((front ++ again.entries) ++ then.entries) r) same
        (then.decided (front ++ again.entries) (subst (λ (n : ℕ). AreOutdated n a (suc k) (front ++ again.entries)) (sym same) more)));
    grew = grew_join v w x again.entries then.entries again.grew then.grew;
    full = then.full;
  }

  -- the same with the eighth attempt's copy
  pub again_held : (v w x : Calling P) (a b : Application) (r : Reply) → IsAgain v a w → b ≡ a → DecidedAfter 8 w b r x → DecidedAfter 7 v a r x
  again_held v w x a b r again copy then = again_then 7 v w x a r again (subst (λ (c : Application). DecidedAfter 8 w c r x) copy then)

  pub holds : (v w : Calling P) (a : Application) (r : Reply) (base : BaseLists) → base ≡ v.who.base → IsRoads base.roads → Sound base a → Answered v (call.Held a) r w → DecidedAfter 8 v a r w
  holds v w a r base is roads sound s =
      let one = called_by v w (call.Held a) r s in
      let current = held_in_date v w a r (subst (λ (b : BaseLists). IsRoads b.roads) is roads) (subst (λ (b : BaseLists). Sound b a) is sound) s in
      record {
        entries = one.entries;
        decided = λ front late. record { tries = 8; front = front; last = one.entries; outdated = late; ends = held refl one.called current; whole = refl };
        grew = one.grew;
        full = λ most e. (s.full most e).full;
      }

  -- a command that is one call
  pub carries : (v w : Calling P) (c : Call) (asked named : Command) (r : Reply) → asked ≡ named → ((es : List Entry) → IsCalled v.who.caller c r es → Unfolds v.who.caller named es r) → Answered v c r w → CarriedOut v asked r w
  carries v w c asked named r is unfolds s = let one = called_by v w c r s in record {
    entries = one.entries;
    grew = one.grew;
    unfolds = subst (λ (d : Command). Unfolds v.who.caller d one.entries r) (sym is) (unfolds one.entries one.called);
    full = λ most e. (s.full most e).full;
  }

  -- so many attempts that were out of date so far
  pub record SoFar (k : ℕ) (u : Calling P) (a : Application) (v : Calling P) : Type 0 where
    pub entries : List Entry
    pub grew : Grew u entries v
    pub outdated : AreOutdated u.who.caller a k entries

  pub none_yet : (v : Calling P) (a : Application) → SoFar 0 v a v
  none_yet v a = record { entries = []; grew = grew_nothing v; outdated = refl }

  pub one_more : (k n : ℕ) (u v w : Calling P) (a : Application) → n ≡ suc k → SoFar k u a v → IsAgain v a w → SoFar n u a w
  one_more k n u v w a next far again = let same = caller_of u v far.grew.who in
      let late : AreOutdated u.who.caller a (suc k) (far.entries ++ again.entries) =
      (far.entries, again.entries, far.outdated, subst (λ (j : ℕ). IsOutdated j a again.entries) same again.outdated, refl) in
      record {
        entries = far.entries ++ again.entries;
        grew = grew_join u v w far.entries again.entries far.grew again.grew;
        outdated = subst (λ (j : ℕ). AreOutdated u.who.caller a j (far.entries ++ again.entries)) (sym next) late;
      }

  pub decided_by : (k : ℕ) (u v w : Calling P) (a : Application) (r : Reply) → SoFar k u a v → DecidedAfter k v a r w → CarriedOut u (command.Apply a) r w
  decided_by k u v w a r far then = let same = caller_of u v far.grew.who in record {
    entries = far.entries ++ then.entries;
    grew = grew_join u v w far.entries then.entries far.grew then.grew;
    unfolds = subst (λ (n : ℕ). IsDecided n a (far.entries ++ then.entries) r) same
        (then.decided far.entries (subst (λ (n : ℕ). AreOutdated n a k far.entries) (sym same) far.outdated));
    full = then.full;
  }

  pub base_stays : (k : ℕ) (u v : Calling P) (a : Application) (base : BaseLists) → SoFar k u a v → base ≡ u.who.base → base ≡ v.who.base
  base_stays k u v a base far is = is ∙ sym (base_of u v far.grew.who)

  -- the loop of attempts is left by a decision, or behind it
  pub decided_within : (k : ℕ) (u v w : Calling P) (a : Application) (r : Reply) → k ≤ 7 → SoFar k u a v → Concluded v a r w → CarriedOut u (command.Apply a) r w
  decided_within k u v w a r few far c = decided_by k u v w a r far (ends_after k v w a r few c)

  pub decided_behind : (k : ℕ) (u v w : Calling P) (a : Application) (r : Reply) → 7 ≤ k → k ≤ 7 → SoFar k u a v → DecidedAfter 7 v a r w → CarriedOut u (command.Apply a) r w
  decided_behind k u v w a r low high far then = decided_by k u v w a r far (subst (λ (n : ℕ). DecidedAfter n v a r w) (let e : 7 ≡ k = omega (arith, low, high) in e) then)

-- a decision is not that something is out of date
concludes_settled : (caller : ℕ) (a : Application) (r : Reply) (es : List Entry) → Concludes caller a r es → is_outdated r ≡ false
concludes_settled caller a r es (answered is current room) = current
concludes_settled caller a r es (lacks is e) = ap is_outdated e
concludes_settled caller a r es (Concludes.full is all) = full_settled r all
concludes_settled caller a r es (full_between is all) = full_settled r all

pub decided_settled : (caller : ℕ) (a : Application) (r : Reply) (es : List Entry) → IsDecided caller a es r → is_outdated r ≡ false
decided_settled caller a r es h = by h.ends
  where
    by : Ends caller a h.tries r h.last → is_outdated r ≡ false
    by (concluded few c) = concludes_settled caller a r h.last c
    by (held is c current) = current

pub carried_settled : {P : Type 0} (v w : Calling P) (a : Application) (r : Reply) → CarriedOut v (command.Apply a) r w → is_outdated r ≡ false
carried_settled v w a r h = decided_settled v.who.caller a r h.entries h.unfolds
