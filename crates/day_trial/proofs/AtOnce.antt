-- The entries of a command between which nobody else calls.
use Rattle.std.proofs.Common.{◌≡◌, ◌≢◌, ◌∷◌, ◌++◌, [], List, ℕ, ◌<◌, ◌⊎◌, inl, inr, length, ap, sym, subst, refl, ◌∙◌, append_assoc, arith}
use Rattle.std.proofs.lemmas.List.Elements.{All-cons, All-nil}
use Rattle.road_graph.specs.Roads.{IsRoads}
use Rattle.trip_analysis.specs.declared.application.Application.{Application}
use Rattle.trip_analysis.specs.Bases.{BaseLists}
use Rattle.office_words.specs.declared.entry.Call.{Call}
use Rattle.office_words.specs.declared.entry.Call.TheVariants as call
use Rattle.office_words.specs.declared.entry.Command.{Command}
use Rattle.office_words.specs.declared.entry.Command.TheVariants as command
use Rattle.office_words.specs.declared.entry.Entry.{Entry}
use Rattle.office_words.specs.declared.entry.Reply.{Reply}
use Rattle.office_words.specs.declared.entry.Reply.TheVariants as reply
use Rattle.office_core.specs.Happened.{Day, Numbers, day_after, day_by}
use Rattle.office_core.specs.Machine.{IsLegalFrom, Machine}
use Rattle.office_core.specs.Offices.{Opened, entry, grown}
use Rattle.office_core.proofs.Prefixes.{legal_front}
use Rattle.analyst_pool.proofs.Alone.{none_before}
use Rattle.analyst_pool.specs.Laws.{FirstAttemptsDecide, FoundMemory}
use Rattle.analyst_pool.specs.Unfolds.{Ends, IsCalled, IsFinished, IsLook, IsStopped, answered, concluded, full, full_between, held, lacks, looked_at, submitted}
use Rattle.reroute_desk.specs.Desks.{Desk, KeepsUp}
use Rattle.reroute_desk.specs.Laws.{CallsOfOthersKeepUp}
use Rattle.day_trial.specs.Serving.{grown_by}
use Rattle.day_trial.specs.Rerouting.{IsAtOnce, attempted, called}

-- a command that is finished where nobody else calls
pub at_once : FirstAttemptsDecide → (base : BaseLists) (m : Machine) (caller : ℕ) (c : Command) (es : List Entry) → IsRoads base.roads → IsFinished caller c es → IsLegalFrom base m es → IsAtOnce caller es
at_once first base m caller (command.Apply a) es roads h legal = let (r, is) = first base m caller a es roads h legal in attempted a r is
at_once first base m caller (command.Post change) es roads h legal = called (call.Post change) h.last (h.unfolds.answered h.room)
at_once first base m caller (command.Day day) es roads h legal = called (call.Day day) h.last (h.unfolds.answered h.room)
at_once first base m caller (command.Surrender number) es roads h legal = called (call.Surrender number) h.last (h.unfolds.answered h.room)
at_once first base m caller (command.Show number) es roads h legal = called (call.Show number) h.last (h.unfolds.answered h.room)

-- a desk keeps up with an office that one of others asked
pub keeps_behind : CallsOfOthersKeepUp → (desk : Desk) (o : Opened) (caller : ℕ) (es : List Entry) → IsAtOnce caller es → caller ≢ desk.caller → KeepsUp desk o → KeepsUp desk (grown_by o es)
keeps_behind keep desk o caller es (attempted a r (version, w, is)) other k =
    let look = looked_at caller version in
    let submit = submitted caller a version w r in
    subst (λ (l : List Entry). KeepsUp desk (grown_by o l)) (sym is)
    (subst (λ (l : List Entry). KeepsUp desk (record o { history = l })) (append_assoc o.history (look ∷ []) (submit ∷ []))
    (keep desk (grown o look) submit other (keep desk o look other k)))
keeps_behind keep desk o caller es (called c r is) other k =
    subst (λ (l : List Entry). KeepsUp desk (grown_by o l)) (sym is) (keep desk o (entry caller c r) other k)

-- where a posting stands, it is the day that it is behind all entries
pub same_day : (opening : Day) (caller : ℕ) (es at more : List Entry) (by : ℕ) (c : Call) (v : ℕ) (ns : Numbers) → IsAtOnce caller es → es ≡ at ++ entry by c (reply.Posted v ns) ∷ more → day_after opening at ≡ day_after opening es
same_day opening caller es at more by c v ns (attempted a r (version, w, is)) stands =
    alone at (sym is ∙ stands) ∙ ap (day_after opening) (sym is)
  where
    posting : Entry
    posting = entry by c (reply.Posted v ns)

    none : (rest : List Entry) → [] ≡ rest ++ posting ∷ more → ⊥
    none [] e = cc
    none (x ∷ rest) e = cc

    alone : (at : List Entry) → looked_at caller version ∷ submitted caller a version w r ∷ [] ≡ at ++ posting ∷ more → day_after opening at ≡ day_after opening (looked_at caller version ∷ submitted caller a version w r ∷ [])
    alone [] e =
        let first : looked_at caller version ≡ posting = cc in
        let replies : reply.SnapshotAt version ≡ reply.Posted v ns = ap (λ (f : Entry). f.reply) first in
        absurd cc
    alone (x ∷ []) e =
        let first : x ≡ looked_at caller version = cc in
        let second : submitted caller a version w r ≡ posting = cc in
        ap (λ (f : Entry). day_by opening f.reply) first ∙ ap (λ (f : Entry). day_by opening f.reply) (sym second)
    alone (x ∷ y ∷ rest) e = absurd (none rest cc)
same_day opening caller es at more by c v ns (called d r is) stands =
    alone at (sym is ∙ stands) ∙ ap (day_after opening) (sym is)
  where
    posting : Entry
    posting = entry by c (reply.Posted v ns)

    none : (rest : List Entry) → [] ≡ rest ++ posting ∷ more → ⊥
    none [] e = cc
    none (x ∷ rest) e = cc

    alone : (at : List Entry) → entry caller d r ∷ [] ≡ at ++ posting ∷ more → day_after opening at ≡ day_after opening (entry caller d r ∷ [])
    alone [] e = let first : entry caller d r ≡ posting = cc in ap (λ (f : Entry). day_by opening f.reply) (sym first)
    alone (x ∷ rest) e = absurd (none rest cc)

-- no entry, or a snapshot alone
abbrev IsEarly : ℕ → List Entry → Type 0
IsEarly caller es = (es ≡ []) ⊎ IsLook caller es

-- these are fewer than two, and say nothing of memory
pub early_short : (caller : ℕ) (es : List Entry) → IsEarly caller es → length es < 2
early_short caller es (inl none) = omega (arith, ap length none)
early_short caller es (inr (version, is)) = omega (arith, ap length is)

pub early_found : (caller : ℕ) (es : List Entry) → IsEarly caller es → FoundMemory es
early_found caller es (inl none) = subst FoundMemory (sym none) (All-nil (λ (e : Entry). e.reply ≢ reply.NoMemory))
early_found caller es (inr (version, is)) =
    subst FoundMemory (sym is) (All-cons (λ (e : Entry). e.reply ≢ reply.NoMemory) (looked_at caller version) [] (λ lack. absurd cc) (All-nil (λ (e : Entry). e.reply ≢ reply.NoMemory)))

module _ (caller : ℕ) (most : ℕ) where
  -- an attempt that a full history stopped is no whole one
  ends_early : (a : Application) (k : ℕ) (es : List Entry) → k ≡ 0 → Ends caller a k (reply.Full most) es → IsEarly caller es
  ends_early a k es none (concluded few (answered is settled room)) = absurd cc
  ends_early a k es none (concluded few (lacks is lack)) = absurd cc
  ends_early a k es none (concluded few (full is all)) = inl is
  ends_early a k es none (concluded few (full_between look all)) = inr look
  ends_early a k es none (held eight is settled) = absurd (omega (arith, none, eight))

  -- where nobody else calls, a command that a full history stopped made no entry, or a snapshot alone
  pub stopped_early : (base : BaseLists) (m : Machine) (c : Command) (es : List Entry) → IsRoads base.roads → IsStopped caller c es most → IsLegalFrom base m es → IsEarly caller es
  stopped_early base m (command.Apply a) es roads h legal =
      let before = none_before base m caller a h.tries h.front roads h.outdated (legal_front base m h.front h.last (subst (IsLegalFrom base m) h.whole legal)) in
      subst (IsEarly caller) (sym (h.whole ∙ ap (λ l. l ++ h.last) before.1)) (ends_early a h.tries h.last before.0 h.ends)
  stopped_early base m (command.Post change) es roads h legal = inl (h.full refl)
  stopped_early base m (command.Day day) es roads h legal = inl (h.full refl)
  stopped_early base m (command.Surrender number) es roads h legal = inl (h.full refl)
  stopped_early base m (command.Show number) es roads h legal = inl (h.full refl)

  called_shorter : (c : Call) (r : Reply) (es own : List Entry) → IsCalled caller c (reply.Full most) es → own ≡ entry caller c r ∷ [] → length es < length own
  called_shorter c r es own stopped is = omega (arith, ap length (stopped.full refl), ap length is)

  -- where nobody else calls, a command that a full history stopped makes fewer entries than one that is finished
  pub stopped_shorter : FirstAttemptsDecide → (base : BaseLists) (m : Machine) (c : Command) (es own : List Entry) → IsRoads base.roads → IsStopped caller c es most → IsLegalFrom base m es → IsFinished caller c own → IsLegalFrom base m own → length es < length own
  stopped_shorter first base m (command.Apply a) es own roads h legal done whole =
      let (r, (version, w, is)) = first base m caller a own roads done whole in
      omega (arith, early_short caller es (stopped_early base m (command.Apply a) es roads h legal), ap length is)
  stopped_shorter first base m (command.Post change) es own roads h legal done whole = called_shorter (call.Post change) done.last es own h (done.unfolds.answered done.room)
  stopped_shorter first base m (command.Day day) es own roads h legal done whole = called_shorter (call.Day day) done.last es own h (done.unfolds.answered done.room)
  stopped_shorter first base m (command.Surrender number) es own roads h legal done whole = called_shorter (call.Surrender number) done.last es own h (done.unfolds.answered done.room)
  stopped_shorter first base m (command.Show number) es own roads h legal done whole = called_shorter (call.Show number) done.last es own h (done.unfolds.answered done.room)
