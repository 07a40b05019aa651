-- No permit is replaced twice, and no permit replaces two.
use Rattle.std.proofs.Common.{◌≡◌, ◌∙◌, ◌⊎◌, inl, inr, ap, sym, refl, subst, ℕ, suc, ◌<◌, List, [], ◌∷◌, ◌++◌, Bool, true, false, cond, filter, length, Some, is_some, ◌==◌, ◌||◌, append_assoc, eq-eqb, arith}
use Rattle.std.specs.List.{flat_map}
use Rattle.std.proofs.lemmas.Bool.{cases_Bool, eqb-true}
use Rattle.std.proofs.lemmas.List.{length-append}
use Rattle.trip_analysis.specs.Findings.{AreRising, is_number_among}
use Rattle.trip_analysis.proofs.Found.{among_from_is_in}
use Rattle.office_words.specs.declared.entry.Reply.{Reply}
use Rattle.office_words.specs.declared.entry.Reply.TheVariants as reply
use Rattle.office_core.specs.Happened.{Day, History, Numbers, issued_in}
use Rattle.office_core.specs.Became.{RecallsAt}
use Rattle.office_core.specs.Offices.{entry}
use Rattle.office_core.specs.Promises.{KeepsPromises}
use Rattle.office_core.proofs.Counts.{issued-append, issued-cons, one_if}
use Rattle.reroute_desk.specs.Issues.{recalled_in, recalled_numbers}
use Rattle.trip_analysis.specs.Bases.{BaseLists}
use Rattle.reroute_desk.specs.declared.handled.Handled.{Handled}
use Rattle.reroute_desk.specs.declared.handled.HandledAs.{HandledAs}
use Rattle.reroute_desk.specs.declared.handled.HandledAs.TheVariants.{Ended, Refused, Replaced}
use Rattle.reroute_desk.specs.Desks.{AskAgain, Placed, answered_by, is_answered, kept_reply, olds_of, placed_behind, renewals}
use Rattle.reroute_desk.specs.Laws.{PermitsAreReplacedOnce, StandOnce, new_of, news_of}
use Rattle.reroute_desk.proofs.Recalling.{in_either, or_right, recalls_at}

-- a number is not in a list where that contradicts
not_in : (n : ℕ) (ns : List ℕ) → (is_number_among n ns ≡ true → ⊥) → is_number_among n ns ≡ false
not_in n ns never = by (cases_Bool (is_number_among n ns))
  where
    by : (is_number_among n ns ≡ true) ⊎ (is_number_among n ns ≡ false) → is_number_among n ns ≡ false
    by (inl on) = absurd (never on)
    by (inr off) = off

both : {b : Bool} → b ≡ true → b ≡ false → ⊥
both e f = cc

-- a number is the head of a list or in its tail
head_or : (n x : ℕ) (xs : List ℕ) → is_number_among n (x ∷ xs) ≡ true → (x ≡ n) ⊎ (is_number_among n xs ≡ true)
head_or n x xs on = by (cases_Bool (x == n)) on
  where
    by : ((x == n) ≡ true) ⊎ ((x == n) ≡ false) → (x == n || is_number_among n xs) ≡ true → (x ≡ n) ⊎ (is_number_among n xs ≡ true)
    by (inl same) on = inl (eqb-true x n same)
    by (inr other) on = inr (sym (ap (λ (b : Bool). b || is_number_among n xs) other) ∙ on)

in_left : (n : ℕ) (xs ys : List ℕ) → is_number_among n xs ≡ true → is_number_among n (xs ++ ys) ≡ true
in_left n [] ys on = absurd cc
in_left n (x ∷ xs) ys on = by (λ behind. in_left n xs ys behind) (cases_Bool (x == n)) on
  where
    by : (is_number_among n xs ≡ true → is_number_among n (xs ++ ys) ≡ true) → ((x == n) ≡ true) ⊎ ((x == n) ≡ false) → (x == n || is_number_among n xs) ≡ true → (x == n || is_number_among n (xs ++ ys)) ≡ true
    by rest (inl same) on = ap (λ (b : Bool). b || is_number_among n (xs ++ ys)) same
    by rest (inr other) on = or_right (x == n) (is_number_among n (xs ++ ys)) (rest (sym (ap (λ (b : Bool). b || is_number_among n xs) other) ∙ on))

in_right : (n : ℕ) (xs ys : List ℕ) → is_number_among n ys ≡ true → is_number_among n (xs ++ ys) ≡ true
in_right n [] ys on = on
in_right n (x ∷ xs) ys on = or_right (x == n) (is_number_among n (xs ++ ys)) (in_right n xs ys on)

-- two lists that have no number in common
once_both : (xs ys : List ℕ) → StandOnce xs → StandOnce ys → ((n : ℕ) → is_number_among n xs ≡ true → is_number_among n ys ≡ true → ⊥) → StandOnce (xs ++ ys)
once_both [] ys one two apart = two
once_both (x ∷ xs) ys one two apart = (
  not_in x (xs ++ ys) (λ on. elim (in_either x xs ys on) [
    | inl left ↦ both left one.0
    | inr right ↦ apart x (here x xs) right
  ]),
  once_both xs ys one.1 two (λ n left right. apart n (or_right (x == n) (is_number_among n xs) left) right),
)
  where
    here : (x : ℕ) (xs : List ℕ) → is_number_among x (x ∷ xs) ≡ true
    here x xs = ap (λ (b : Bool). b || is_number_among x xs) (eq-eqb x x refl)

-- a front of such a list
pub once_front : (xs ys : List ℕ) → StandOnce (xs ++ ys) → StandOnce xs
once_front [] ys all = tt
once_front (x ∷ xs) ys all = (not_in x xs (λ on. both (in_left x xs ys on) all.0), once_front xs ys all.1)

-- a rising list
once_rising : (ns : List ℕ) → AreRising ns → StandOnce ns
once_rising [] up = tt
once_rising (n ∷ ns) up = (
  not_in n ns (λ on. let (k, at) = among_from_is_in n ns on in omega (arith, up.rising 0 (suc k) n n (omega arith) refl at)),
  once_rising ns (record { rising = λ j k x y less at there. up.rising (suc j) (suc k) x y (omega (arith, less)) at there }),
)

module _ (base : BaseLists) (day : Day) (es : History) (keeps : KeepsPromises base day es) where
  -- what some last entries recall
  pub recalled_once : (front rest : History) → es ≡ front ++ rest → StandOnce (recalled_in rest)
  recalled_once front [] is = tt
  recalled_once front (e ∷ rest) is =
      once_both (recalled_numbers e.reply) (recalled_in rest) (by e.reply refl)
      (recalled_once (front ++ e ∷ []) rest (is ∙ sym (append_assoc front (e ∷ []) rest)))
      (λ n here behind. apart e.reply refl n here (recalls_at rest n behind))
    where
      stands : (v : ℕ) (ns : Numbers) → e.reply ≡ reply.Posted v ns → es ≡ front ++ entry e.caller e.call (reply.Posted v ns) ∷ rest
      stands v ns same = is ∙ ap (λ r. front ++ entry e.caller e.call r ∷ rest) same

      by : (r : Reply) → e.reply ≡ r → StandOnce (recalled_numbers r)
      by (reply.Posted v ns) same = once_rising ns (keeps.posted front e.caller e.call v ns (rest, stands v ns same)).rising
      by _ same = tt

      apart : (r : Reply) → e.reply ≡ r → (n : ℕ) → is_number_among n (recalled_numbers r) ≡ true → (at : History) × RecallsAt rest n at → ⊥
      apart (reply.Posted v ns) same n on (at, (w, (by', c, ms, on', (more, parts)))) =
          let once = keeps.recalled_once front n (v, (e.caller, e.call, ns, on, (rest, stands v ns same))) in
          let other = once.recalled_once (front ++ e ∷ at) (w, (by', c, ms, on', (more, is ∙ (ap (λ l. front ++ e ∷ l) parts ∙ sym (append_assoc front (e ∷ at) (entry by' c (reply.Posted w ms) ∷ more)))))) in
          omega (arith, ap length other, length-append front (e ∷ at))
      apart _ same n on later = absurd cc

  pub olds_once : (items : List Handled) (left : Numbers) → recalled_in es ≡ olds_of items ++ left → StandOnce (olds_of items)
  olds_once items left first = once_front (olds_of items) left (subst StandOnce first (recalled_once [] es refl))

-- the number of a permit that a reply issues
abbrev number_in : Reply → Numbers
number_in (reply.Issued n v routes) = n ∷ []
number_in _ = []

abbrev numbers_in : History → Numbers
numbers_in es = flat_map (λ e. number_in e.reply) es

module _ (base : BaseLists) (day : Day) (es : History) (keeps : KeepsPromises base day es) where
  -- what some last entries issue has greater numbers than all that were issued before
  issued_above : (front rest : History) → es ≡ front ++ rest → (n : ℕ) → is_number_among n (numbers_in rest) ≡ true → issued_in front < n
  issued_above front [] is n on = absurd cc
  issued_above front (e ∷ rest) is n on = elim (in_either n (number_in e.reply) (numbers_in rest) on) [
    | inl here ↦ by e.reply refl here
    | inr behind ↦
        let more = issued_above (front ++ e ∷ []) rest (is ∙ sym (append_assoc front (e ∷ []) rest)) n behind in
        omega (arith, more, issued-append front (e ∷ []))
  ]
    where
      by : (r : Reply) → e.reply ≡ r → is_number_among n (number_in r) ≡ true → issued_in front < n
      by (reply.Issued k v routes) same at =
          let permit = keeps.issued front e.caller e.call k v routes (rest, is ∙ ap (λ r. front ++ entry e.caller e.call r ∷ rest) same) in
          elim (head_or n k [] at) [
            | inl equal ↦ omega (arith, permit.number, equal)
            | inr none ↦ absurd cc
          ]
      by _ same at = absurd cc

  issued_once : (front rest : History) → es ≡ front ++ rest → StandOnce (numbers_in rest)
  issued_once front [] is = tt
  issued_once front (e ∷ rest) is =
      once_both (number_in e.reply) (numbers_in rest) (by e.reply)
      (issued_once (front ++ e ∷ []) rest (is ∙ sym (append_assoc front (e ∷ []) rest)))
      (λ n here behind. apart e.reply refl n here (issued_above (front ++ e ∷ []) rest (is ∙ sym (append_assoc front (e ∷ []) rest)) n behind))
    where
      by : (r : Reply) → StandOnce (number_in r)
      by (reply.Issued k v routes) = (refl, tt)
      by _ = tt

      apart : (r : Reply) → e.reply ≡ r → (n : ℕ) → is_number_among n (number_in r) ≡ true → issued_in (front ++ e ∷ []) < n → ⊥
      apart (reply.Issued k v routes) same n on above =
          let permit = keeps.issued front e.caller e.call k v routes (rest, is ∙ ap (λ r. front ++ entry e.caller e.call r ∷ rest) same) in
          let one : one_if e.reply ≡ 1 = ap one_if same in
          elim (head_or n k [] on) [
            | inl equal ↦ omega (arith, permit.number, equal, above, one, issued-append front (e ∷ []), issued-cons e [])
            | inr none ↦ absurd cc
          ]
      apart _ same n on above = absurd cc

-- the numbers that some entries issue, told of the entries with what stands before them
abbrev numbers_placed : List Placed → Numbers
numbers_placed ps = flat_map (λ p. number_in p.entry.reply) ps

placed_same : (front es : History) → numbers_placed (placed_behind front es) ≡ numbers_in es
placed_same front [] = refl
placed_same front (e ∷ es) = ap (λ l. number_in e.reply ++ l) (placed_same (front ++ e ∷ []) es)

-- some of the entries
in_some : (p : Placed → Bool) (ps : List Placed) (n : ℕ) → is_number_among n (numbers_placed (filter p ps)) ≡ true → is_number_among n (numbers_placed ps) ≡ true
in_some p [] n on = on
in_some p (q ∷ ps) n on = by (λ l. in_some p ps n l) (cases_Bool (p q))
  where
    by : (is_number_among n (numbers_placed (filter p ps)) ≡ true → is_number_among n (numbers_placed ps) ≡ true) → (p q ≡ true) ⊎ (p q ≡ false) → is_number_among n (numbers_placed (q ∷ ps)) ≡ true
    by rest (inl kept) = elim (in_either n (number_in q.entry.reply) (numbers_placed (filter p ps)) (subst (λ (b : Bool). is_number_among n (numbers_placed (cond b (q ∷ filter p ps) (filter p ps))) ≡ true) kept on)) [
      | inl here ↦ in_left n (number_in q.entry.reply) (numbers_placed ps) here
      | inr behind ↦ in_right n (number_in q.entry.reply) (numbers_placed ps) (rest behind)
    ]
    by rest (inr dropped) = in_right n (number_in q.entry.reply) (numbers_placed ps) (rest (subst (λ (b : Bool). is_number_among n (numbers_placed (cond b (q ∷ filter p ps) (filter p ps))) ≡ true) dropped on))

once_some : (p : Placed → Bool) (ps : List Placed) → StandOnce (numbers_placed ps) → StandOnce (numbers_placed (filter p ps))
once_some p [] all = tt
once_some p (q ∷ ps) all = by (once_some p ps (behind (number_in q.entry.reply) (numbers_placed ps) all)) (cases_Bool (p q))
  where
    behind : (xs ys : List ℕ) → StandOnce (xs ++ ys) → StandOnce ys
    behind [] ys all = all
    behind (x ∷ xs) ys all = behind xs ys all.1

    common : (n : ℕ) (xs ys : List ℕ) → StandOnce (xs ++ ys) → is_number_among n xs ≡ true → is_number_among n ys ≡ true → ⊥
    common n [] ys all left right = absurd cc
    common n (x ∷ xs) ys all left right = by (λ on. common n xs ys all.1 on right) (head_or n x xs left)
      where
        by : (is_number_among n xs ≡ true → ⊥) → (x ≡ n) ⊎ (is_number_among n xs ≡ true) → ⊥
        by rest (inl same) = both (subst (λ (k : ℕ). is_number_among k (xs ++ ys) ≡ true) (sym same) (in_right n xs ys right)) all.0
        by rest (inr on) = rest on

    by : StandOnce (numbers_placed (filter p ps)) → (p q ≡ true) ⊎ (p q ≡ false) → StandOnce (numbers_placed (filter p (q ∷ ps)))
    by rest (inl kept) = subst (λ (b : Bool). StandOnce (numbers_placed (cond b (q ∷ filter p ps) (filter p ps)))) (sym kept)
        (once_both (number_in q.entry.reply) (numbers_placed (filter p ps)) (once_front (number_in q.entry.reply) (numbers_placed ps) all) rest
        (λ n left right. common n (number_in q.entry.reply) (numbers_placed ps) all left (in_some p ps n right)))
    by rest (inr dropped) = subst (λ (b : Bool). StandOnce (numbers_placed (cond b (q ∷ filter p ps) (filter p ps)))) (sym dropped) rest

-- what replaces others is what the entries issued that applied for them again
news_asked : (opening : Day) (caller : ℕ) (hs : List Handled) (ps : List Placed) → AskAgain opening caller hs ps → news_of hs ≡ numbers_placed ps
news_asked opening caller [] [] all = refl
news_asked opening caller [] (p ∷ ps) all = absurd all
news_asked opening caller (h ∷ hs) [] all = absurd all
news_asked opening caller (h ∷ hs) (p ∷ ps) all =
    ap (λ l. new_of h.what ++ l) (news_asked opening caller hs ps all.1)
    ∙ ap (λ l. l ++ numbers_placed ps) (one h.what p.entry.reply all.0.answer)
  where
    one : (what : HandledAs) (r : Reply) → kept_reply what ≡ Some r → new_of what ≡ number_in r
    one Ended r kept = absurd cc
    one (Replaced n v routes) r kept = let is : reply.Issued n v routes ≡ r = cc in subst (λ (x : Reply). n ∷ [] ≡ number_in x) is refl
    one (Refused v l) r kept = let is : reply.Refused v l ≡ r = cc in subst (λ (x : Reply). [] ≡ number_in x) is refl

news_renewed : (items : List Handled) → news_of items ≡ news_of (renewals items)
news_renewed [] = refl
news_renewed (h ∷ items) = by h.what refl (news_renewed items)
  where
    kept : (b : Bool) → is_some (kept_reply h.what) ≡ b → renewals (h ∷ items) ≡ cond b (h ∷ renewals items) (renewals items)
    kept b e = ap (λ (x : Bool). cond x (h ∷ renewals items) (renewals items)) e

    by : (what : HandledAs) → h.what ≡ what → news_of items ≡ news_of (renewals items) → news_of (h ∷ items) ≡ news_of (renewals (h ∷ items))
    by Ended same rest = ap (λ (w : HandledAs). new_of w ++ news_of items) same ∙ (rest ∙ sym (ap news_of (kept false (ap (λ (w : HandledAs). is_some (kept_reply w)) same))))
    by (Replaced n v routes) same rest = ap (λ l. new_of h.what ++ l) rest ∙ sym (ap news_of (kept true (ap (λ (w : HandledAs). is_some (kept_reply w)) same)))
    by (Refused v l) same rest = ap (λ l. new_of h.what ++ l) rest ∙ sym (ap news_of (kept true (ap (λ (w : HandledAs). is_some (kept_reply w)) same)))

pub replaced_once : PermitsAreReplacedOnce
replaced_once desk o promises keeps = record {
  olds = olds_once o.base o.opening o.history promises desk.handled keeps.first.0 keeps.first.1;
  news = subst StandOnce (sym (news_renewed desk.handled ∙ news_asked o.opening desk.caller (renewals desk.handled) (answered_by desk.caller o.history) keeps.asked))
      (once_some (λ p. is_answered desk.caller p.entry) (placed_behind [] o.history)
      (subst StandOnce (sym (placed_same [] o.history)) (issued_once o.base o.opening o.history promises [] o.history refl)));
}
