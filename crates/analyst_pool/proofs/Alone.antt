-- Commands with nothing between their entries.
use Rattle.std.proofs.Common.{◌≡◌, ◌≢◌, ◌∷◌, ◌++◌, [], List, ℕ, zero, suc, inl, inr, ap, sym, subst, refl, ◌∙◌, false, arith}
use Rattle.road_graph.specs.Roads.{IsRoads}
use Rattle.trip_analysis.specs.declared.application.Application.{Application}
use Rattle.trip_analysis.specs.declared.finding.Proposal.{Proposal}
use Rattle.trip_analysis.specs.declared.finding.What.{What}
use Rattle.trip_analysis.specs.Bases.{BaseLists}
use Rattle.trip_analysis.proofs.OneFinding.{one_finding}
use Rattle.office_words.specs.declared.entry.Call.{Call}
use Rattle.office_words.specs.declared.entry.Call.TheVariants as call
use Rattle.office_words.specs.declared.entry.Command.{Command}
use Rattle.office_words.specs.declared.entry.Command.TheVariants as command
use Rattle.office_words.specs.declared.entry.Entry.{Entry}
use Rattle.office_words.specs.declared.entry.Reply.{Reply}
use Rattle.office_words.specs.declared.entry.Reply.TheVariants as reply
use Rattle.office_core.specs.Machine.{IsAnswer, IsFound, IsLegalFrom, Machine, after_all, state_at, version_of}
use Rattle.office_core.specs.Offices.{entry}
use Rattle.office_core.specs.Replies.{is_full, is_outdated}
use Rattle.office_core.proofs.Currents.{submit_current}
use Rattle.office_core.proofs.Prefixes.{legal_front, legal_later}
use Rattle.office_core.proofs.Sames.{answers_one}
use Rattle.analyst_pool.specs.Unfolds.{AreFinished, AreOutdated, Concludes, Ends, IsAttempt, IsCalled, IsDecided, IsFinished, IsOutdated, answered, concluded, full, full_between, held, lacks, looked_at, submitted}

abbrev version_in : Reply → ℕ
version_in (reply.SnapshotAt version) = version
version_in _ = 0

abbrev proposed : ℕ → What → Proposal
proposed version w = record { seen = version; what = w }

-- an attempt at once: the snapshot has the current version, at which the submit is answered
record Tried (base : BaseLists) (m : Machine) (caller : ℕ) (a : Application) (r : Reply) (es : List Entry) : Type 0 where
  what : What
  found : IsFound base m a (proposed (version_of m) what)
  answer : IsAnswer base m caller (call.Submit a (proposed (version_of m) what)) r
  entries : es ≡ looked_at caller (version_of m) ∷ submitted caller a (version_of m) what r ∷ []

module _ (base : BaseLists) (m : Machine) (caller : ℕ) where
  looks_now : (version : ℕ) → IsAnswer base m caller call.Snapshot (reply.SnapshotAt version) → version ≡ version_of m
  looks_now version (inl e) = ap version_in e
  looks_now version (inr e) = absurd (grind (arith, ap version_in e.0, e.1))

  tried_at : (a : Application) (r : Reply) (version : ℕ) (w : What) → IsLegalFrom base m (looked_at caller version ∷ submitted caller a version w r ∷ []) → version ≡ version_of m → Tried base m caller a r (looked_at caller version ∷ submitted caller a version w r ∷ [])
  tried_at a r version w legal now = record {
    what = w;
    found = subst (λ (n : ℕ). IsFound base m a (proposed n w)) now legal.1.0.asked;
    answer = subst (λ (n : ℕ). IsAnswer base m caller (call.Submit a (proposed n w)) r) now legal.1.0.answer;
    entries = ap (λ (n : ℕ). looked_at caller n ∷ submitted caller a n w r ∷ []) now;
  }

  tried : (a : Application) (r : Reply) (es : List Entry) → IsAttempt caller a r es → IsLegalFrom base m es → Tried base m caller a r es
  tried a r es (version, w, is) legal = let there = subst (IsLegalFrom base m) is legal in
      subst (Tried base m caller a r) (sym is) (tried_at a r version w there (looks_now version there.0.answer))

  tried_settled : (a : Application) (r : Reply) (es : List Entry) → IsRoads base.roads → Tried base m caller a r es → is_outdated r ≡ false
  tried_settled a r es roads h = submit_current base m caller a (proposed (version_of m) h.what) r roads h.found refl h.answer

  tried_one : (a : Application) (r s : Reply) (es fs : List Entry) → r ≢ reply.NoMemory → s ≢ reply.NoMemory → Tried base m caller a r es → Tried base m caller a s fs → es ≡ fs
  tried_one a r s es fs whole_r whole_s g h =
      let same = one_finding base (state_at base m (version_of m)) a g.what h.what g.found.found h.found.found in
      let told = answers_one base m caller (call.Submit a (proposed (version_of m) g.what)) r s g.answer
      (subst (λ (w : What). IsAnswer base m caller (call.Submit a (proposed (version_of m) w)) s) (sym same) h.answer) whole_r whole_s in
      g.entries ∙ (ap (λ (w : What). looked_at caller (version_of m) ∷ submitted caller a (version_of m) w r ∷ []) same
      ∙ (ap (λ (q : Reply). looked_at caller (version_of m) ∷ submitted caller a (version_of m) h.what q ∷ []) told ∙ sym h.entries))

  called_one : (c : Call) (r s : Reply) (es fs : List Entry) → IsCalled caller c r es → IsCalled caller c s fs → is_full r ≡ false → is_full s ≡ false → r ≢ reply.NoMemory → s ≢ reply.NoMemory
      → IsLegalFrom base m es → IsLegalFrom base m fs → es ≡ fs
  called_one c r s es fs g h room_r room_s whole_r whole_s legal_es legal_fs =
      let is_es = g.answered room_r in let is_fs = h.answered room_s in
      let told = answers_one base m caller c r s (subst (IsLegalFrom base m) is_es legal_es).0.answer (subst (IsLegalFrom base m) is_fs legal_fs).0.answer whole_r whole_s in
      is_es ∙ (ap (λ (q : Reply). entry caller c q ∷ []) told ∙ sym is_fs)

-- no attempt at once is out of date
none_outdated : (base : BaseLists) (m : Machine) (caller : ℕ) (a : Application) (es : List Entry) → IsRoads base.roads → IsOutdated caller a es → IsLegalFrom base m es → ⊥
none_outdated base m caller a es roads (r, is, late) legal = grind (arith, late, tried_settled base m caller a r es roads (tried base m caller a r es is legal))

-- so none came before
pub none_before : (base : BaseLists) (m : Machine) (caller : ℕ) (a : Application) (k : ℕ) (front : List Entry) → IsRoads base.roads → AreOutdated caller a k front → IsLegalFrom base m front → (k ≡ 0) × (front ≡ [])
none_before base m caller a zero front roads none legal = (refl, none)
none_before base m caller a (suc k) front roads (before, last, far, late, is) legal =
    absurd (none_outdated base (after_all base m before) caller a last roads late (legal_later base m before last (subst (IsLegalFrom base m) is legal)))

concludes_attempt : (caller : ℕ) (a : Application) (r : Reply) (es : List Entry) → is_full r ≡ false → r ≢ reply.NoMemory → Concludes caller a r es → IsAttempt caller a r es
concludes_attempt caller a r es room whole (answered is settled room') = is
concludes_attempt caller a r es room whole (lacks is lack) = absurd (whole lack)
concludes_attempt caller a r es room whole (full is all) = absurd (grind (arith, room, all))
concludes_attempt caller a r es room whole (full_between is all) = absurd (grind (arith, room, all))

ends_attempt : (caller : ℕ) (a : Application) (k : ℕ) (r : Reply) (es : List Entry) → k ≡ 0 → is_full r ≡ false → r ≢ reply.NoMemory → Ends caller a k r es → IsAttempt caller a r es
ends_attempt caller a k r es none room whole (concluded few c) = concludes_attempt caller a r es room whole c
ends_attempt caller a k r es none room whole (held eight c settled) = absurd (omega (arith, none, eight))

first_of : (base : BaseLists) (m : Machine) (caller : ℕ) (a : Application) (es : List Entry) (r : Reply) → IsRoads base.roads → IsDecided caller a es r → is_full r ≡ false → r ≢ reply.NoMemory → IsLegalFrom base m es → IsAttempt caller a r es
first_of base m caller a es r roads h room whole legal =
    let before = none_before base m caller a h.tries h.front roads h.outdated (legal_front base m h.front h.last (subst (IsLegalFrom base m) h.whole legal)) in
    subst (IsAttempt caller a r) (sym (h.whole ∙ ap (λ l. l ++ h.last) before.1)) (ends_attempt caller a h.tries r h.last before.0 room whole h.ends)

pub first_attempt : (base : BaseLists) (m : Machine) (caller : ℕ) (a : Application) (es : List Entry) → IsRoads base.roads → IsFinished caller (command.Apply a) es → IsLegalFrom base m es → (r : Reply) × IsAttempt caller a r es
first_attempt base m caller a es roads h legal = (h.last, first_of base m caller a es h.last roads h.unfolds h.room h.memory legal)

pub finished_one : (base : BaseLists) (m : Machine) (caller : ℕ) (c : Command) (es fs : List Entry) → IsRoads base.roads → IsFinished caller c es → IsFinished caller c fs → IsLegalFrom base m es → IsLegalFrom base m fs → es ≡ fs
finished_one base m caller (command.Apply a) es fs roads g h legal_es legal_fs =
    let is_es = first_of base m caller a es g.last roads g.unfolds g.room g.memory legal_es in
    let is_fs = first_of base m caller a fs h.last roads h.unfolds h.room h.memory legal_fs in
    tried_one base m caller a g.last h.last es fs g.memory h.memory (tried base m caller a g.last es is_es legal_es) (tried base m caller a h.last fs is_fs legal_fs)
finished_one base m caller (command.Post change) es fs roads g h legal_es legal_fs = called_one base m caller (call.Post change) g.last h.last es fs g.unfolds h.unfolds g.room h.room g.memory h.memory legal_es legal_fs
finished_one base m caller (command.Day day) es fs roads g h legal_es legal_fs = called_one base m caller (call.Day day) g.last h.last es fs g.unfolds h.unfolds g.room h.room g.memory h.memory legal_es legal_fs
finished_one base m caller (command.Surrender number) es fs roads g h legal_es legal_fs = called_one base m caller (call.Surrender number) g.last h.last es fs g.unfolds h.unfolds g.room h.room g.memory h.memory legal_es legal_fs
finished_one base m caller (command.Show number) es fs roads g h legal_es legal_fs = called_one base m caller (call.Show number) g.last h.last es fs g.unfolds h.unfolds g.room h.room g.memory h.memory legal_es legal_fs

pub runs_one : (base : BaseLists) (m : Machine) (caller : ℕ) (cs : List Command) (es fs : List Entry) → IsRoads base.roads → AreFinished caller cs es → AreFinished caller cs fs → IsLegalFrom base m es → IsLegalFrom base m fs → es ≡ fs
runs_one base m caller [] es fs roads g h legal_es legal_fs = g ∙ sym h
runs_one base m caller (c ∷ cs) es fs roads (front, back, one, rest, is) (front', back', one', rest', is') legal_es legal_fs =
    let le = subst (IsLegalFrom base m) is legal_es in
    let lf = subst (IsLegalFrom base m) is' legal_fs in
    let same = finished_one base m caller c front front' roads one one' (legal_front base m front back le) (legal_front base m front' back' lf) in
    let then = runs_one base (after_all base m front) caller cs back back' roads rest rest' (legal_later base m front back le)
    (subst (λ l. IsLegalFrom base (after_all base m l) back') (sym same) (legal_later base m front' back' lf)) in
    is ∙ (ap (λ l. l ++ back) same ∙ (ap (λ l. front' ++ l) then ∙ sym is'))
