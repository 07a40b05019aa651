-- Each entry of a whole history looks, or asks what one of the commands wants.
use Rattle.std.proofs.Common.{◌≡◌, ◌++◌, ◌∷◌, [], List, ℕ, zero, suc, Bool, true, false, cond, eqb, eq-eqb, eqb-true, All, Contains, filter, get_or, subst, sym, refl, ◌∙◌, inl, inr, ◌⊎◌}
use Rattle.std.proofs.lemmas.Bool.{cases_Bool, false≢true}
use Rattle.std.proofs.lemmas.List.Elements.{All-append, All-cons, All-contains_itself, All-filter, All-head, All-map, All-nil, All-same, All-tail, All-weaker, filter_passes}
use Rattle.trip_analysis.specs.declared.application.Application.{Application}
use Rattle.office_words.specs.declared.entry.Call.TheVariants as call
use Rattle.office_words.specs.declared.entry.Command.{Command}
use Rattle.office_words.specs.declared.entry.Command.TheVariants as command
use Rattle.office_words.specs.declared.entry.Entry.{Entry}
use Rattle.office_words.specs.declared.entry.Reply.{Reply}
use Rattle.office_core.specs.Machine.{entries_by}
use Rattle.office_core.specs.Offices.{entry}
use Rattle.office_core.specs.Replies.{is_full}
use Rattle.analyst_pool.specs.Unfolds.{AreFinished, AreOutdated, Concludes, Ends, IsAttempt, IsDecided, IsFinished, IsLook, answered, concluded, full, full_between, held, lacks, looked_at, submitted}
use Rattle.day_text.specs.Scripts.{script_of}
use Rattle.day_text.specs.declared.orders.Order.{Order}
use Rattle.journal_whole.specs.Asking.{Wants, WholeHistoriesAskWhatWasOrdered}

-- the entry looks, or asks what this command wants
abbrev AsksFor : Command → Entry → Type 0
AsksFor c e = (e.call ≡ call.Snapshot) ⊎ Wants c e.call

-- of one entry and of none
all_one : (P : Entry → Type 0) (e : Entry) (es : List Entry) → es ≡ e ∷ [] → P e → All P es
all_one P e es is here = All-same P es (e ∷ []) is (All-cons P e [] here (All-nil P))

all_none : (P : Entry → Type 0) (es : List Entry) → es ≡ [] → All P es
all_none P es is = All-same P es [] is (All-nil P)

module _ (caller : ℕ) (a : Application) where
  look_asks : (es : List Entry) → IsLook caller es → All (AsksFor (command.Apply a)) es
  look_asks es (version, is) = all_one (AsksFor (command.Apply a)) (looked_at caller version) es is (inl refl)

  attempt_asks : (r : Reply) (es : List Entry) → IsAttempt caller a r es → All (AsksFor (command.Apply a)) es
  attempt_asks r es (version, w, is) = let submit = submitted caller a version w r in
      All-same (AsksFor (command.Apply a)) es (looked_at caller version ∷ submit ∷ []) is
      (All-cons (AsksFor (command.Apply a)) (looked_at caller version) (submit ∷ []) (inl refl)
      (All-cons (AsksFor (command.Apply a)) submit [] (inr refl) (All-nil (AsksFor (command.Apply a)))))

  outdated_ask : (k : ℕ) (es : List Entry) → AreOutdated caller a k es → All (AsksFor (command.Apply a)) es
  outdated_ask zero es none = all_none (AsksFor (command.Apply a)) es none
  outdated_ask (suc k) es (front, last, far, (r, attempt, late), is) =
      All-same (AsksFor (command.Apply a)) es (front ++ last) is
      (All-append (AsksFor (command.Apply a)) front last (outdated_ask k front far) (attempt_asks r last attempt))

  concluded_asks : (r : Reply) (es : List Entry) → Concludes caller a r es → All (AsksFor (command.Apply a)) es
  concluded_asks r es (answered attempt settled room) = attempt_asks r es attempt
  concluded_asks r es (lacks is lack) = look_asks es is
  concluded_asks r es (full is all) = all_none (AsksFor (command.Apply a)) es is
  concluded_asks r es (full_between is all) = look_asks es is

  ends_ask : (k : ℕ) (r : Reply) (es : List Entry) → is_full r ≡ false → Ends caller a k r es → All (AsksFor (command.Apply a)) es
  ends_ask k r es room (concluded few c) = concluded_asks r es c
  ends_ask k r es room (held eight c settled) = all_one (AsksFor (command.Apply a)) (entry caller (call.Held a) r) es (c.answered room) (inr refl)

  decided_asks : (r : Reply) (es : List Entry) → is_full r ≡ false → IsDecided caller a es r → All (AsksFor (command.Apply a)) es
  decided_asks r es room h =
      All-same (AsksFor (command.Apply a)) es (h.front ++ h.last) h.whole
      (All-append (AsksFor (command.Apply a)) h.front h.last (outdated_ask h.tries h.front h.outdated) (ends_ask h.tries r h.last room h.ends))

-- each entry of a finished command asks for it
command_asks : (caller : ℕ) (c : Command) (es : List Entry) → IsFinished caller c es → All (AsksFor c) es
command_asks caller (command.Apply a) es h = decided_asks caller a h.last es h.room h.unfolds
command_asks caller (command.Post change) es h =
    all_one (AsksFor (command.Post change)) (entry caller (call.Post change) h.last) es (h.unfolds.answered h.room) (inr refl)
command_asks caller (command.Day day) es h =
    all_one (AsksFor (command.Day day)) (entry caller (call.Day day) h.last) es (h.unfolds.answered h.room) (inr refl)
command_asks caller (command.Surrender number) es h =
    all_one (AsksFor (command.Surrender number)) (entry caller (call.Surrender number) h.last) es (h.unfolds.answered h.room) (inr refl)
command_asks caller (command.Show number) es h =
    all_one (AsksFor (command.Show number)) (entry caller (call.Show number) h.last) es (h.unfolds.answered h.room) (inr refl)

-- one of the commands is this one of an actor
abbrev IsGiven : List Order → ℕ → Command → Type 0
IsGiven orders actor c = (order : Order) × Contains orders order × (order.actor ≡ actor) × (order.command ≡ c)

script_given : (orders : List Order) (actor : ℕ) → All (IsGiven orders actor) (script_of actor orders)
script_given orders actor =
    let own = λ (o : Order). eqb o.actor actor in
    let mine = filter own orders in
    let there : All (Contains orders) mine = All-filter own (Contains orders) orders (All-contains_itself orders) in
    let passes : All (λ o. own o ≡ true) mine = filter_passes own orders in
    All-map (IsGiven orders actor) (λ (o : Order). o.command) mine
    (λ k d near. let o = get_or mine k d in (o, there k d near, eqb-true o.actor actor (passes k d near), refl))

-- an entry that looks, or asks what one of the commands of an actor wants: of its caller, it is ordered
abbrev IsOrderedBy : List Order → ℕ → Entry → Type 0
IsOrderedBy orders actor e = (e.call ≡ call.Snapshot)
    ⊎ ((order : Order) × Contains orders order × (order.actor ≡ actor) × Wants order.command e.call)

asks_ordered : (orders : List Order) (actor : ℕ) (c : Command) → IsGiven orders actor c → (e : Entry) → AsksFor c e → IsOrderedBy orders actor e
asks_ordered orders actor c given e (inl look) = inl look
asks_ordered orders actor c (order, there, own, is) e (inr wants) =
    inr (order, there, own, subst (λ (d : Command). Wants d e.call) (sym is) wants)

-- finished commands of an actor make ordered entries
finished_ordered : (orders : List Order) (actor : ℕ) (cs : List Command) (es : List Entry) → All (IsGiven orders actor) cs → AreFinished actor cs es → All (IsOrderedBy orders actor) es
finished_ordered orders actor [] es given none = all_none (IsOrderedBy orders actor) es none
finished_ordered orders actor (c ∷ cs) es given (front, back, one, others, is) =
    All-same (IsOrderedBy orders actor) es (front ++ back) is
    (All-append (IsOrderedBy orders actor) front back
    (All-weaker (AsksFor c) (IsOrderedBy orders actor) (asks_ordered orders actor c (All-head (IsGiven orders actor) c cs given)) front (command_asks actor c front one))
    (finished_ordered orders actor cs back (All-tail (IsGiven orders actor) c cs given) others))

-- what holds of each entry that is kept holds of each entry that passes
kept_more : (p : Entry → Bool) (P : Entry → Type 0) (e : Entry) (es : List Entry) → (All P (filter p es) → All (λ e. p e ≡ true → P e) es) → All P (filter p (e ∷ es)) → (p e ≡ true) ⊎ (p e ≡ false) → All (λ e. p e ≡ true → P e) (e ∷ es)
kept_more p P e es rest all (inl on) = let kept = subst (λ b. All P (cond b (e ∷ filter p es) (filter p es))) on all in
    All-cons (λ (e : Entry). p e ≡ true → P e) e es (λ _. All-head P e (filter p es) kept) (rest (All-tail P e (filter p es) kept))
kept_more p P e es rest all (inr off) =
    All-cons (λ (e : Entry). p e ≡ true → P e) e es (λ on. absurd (false≢true (sym off ∙ on))) (rest (subst (λ b. All P (cond b (e ∷ filter p es) (filter p es))) off all))

all_kept : (p : Entry → Bool) (P : Entry → Type 0) (es : List Entry) → All P (filter p es) → All (λ e. p e ≡ true → P e) es
all_kept p P [] all = All-nil (λ (e : Entry). p e ≡ true → P e)
all_kept p P (e ∷ es) all = kept_more p P e es (all_kept p P es) all (cases_Bool (p e))

pub whole_ordered : WholeHistoriesAskWhatWasOrdered
whole_ordered actors orders es whole k d near = let e = get_or es k d in let i = e.caller in
    all_kept (λ e. eqb e.caller i) (IsOrderedBy orders i) es
    (finished_ordered orders i (script_of i orders) (entries_by i es) (script_given orders i) (whole.commands i (whole.callers k d near)))
    k d near (eq-eqb i i refl)
