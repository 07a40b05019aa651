-- Commands that are carried out one after another.
use Rattle.std.proofs.Common.{◌≡◌, ◌≢◌, ◌<◌, ◌≤◌, ◌+◌, ◌*◌, ◌∷◌, ◌++◌, [], List, ℕ, length, take, None, false, ap, sym, refl, ◌∙◌, append_assoc, arith}
use Rattle.std.proofs.lemmas.List.{append-nil, length-append, length-take}
use Rattle.office_words.specs.declared.entry.Command.{Command}
use Rattle.office_words.specs.declared.entry.Entry.{Entry}
use Rattle.office_words.specs.declared.entry.Reply.{Reply}
use Rattle.office_words.specs.declared.entry.Reply.TheVariants as reply
use Rattle.office_core.specs.Calls.{Calling}
use Rattle.office_core.specs.Replies.{is_full}
use Rattle.analyst_pool.specs.Leaves.{CarriedOut, Grew}
use Rattle.analyst_pool.specs.Unfolds.{AreFinished, IsFinished, IsStopped, WentTo}
use Rattle.analyst_pool.proofs.Lengths.{short, shorter}

module _ {P : Type 0} where
  -- where nobody else calls, what was seen grows by the caller's own entries
  pub seen_alone : (v w : Calling P) (es : List Entry) → v.who.place ≡ None → Grew v es w → w.seen ≡ v.seen ++ es
  seen_alone v w es alone grew = grew.sees.seen ∙ ap (λ l. v.seen ++ l) (grew.sees.alone alone)

  -- a command is finished by a reply that says neither that the history is full nor that memory is wanting
  pub finished_by : (v w : Calling P) (c : Command) (r : Reply) (h : CarriedOut v c r w) → is_full r ≡ false → r ≢ reply.NoMemory → IsFinished v.who.caller c h.entries
  finished_by v w c r h room memory = record { last = r; unfolds = h.unfolds; room = room; memory = memory }

-- one finished command more
pub finished_more : (caller : ℕ) (cs : List Command) (c : Command) (es fs : List Entry) → AreFinished caller cs es → IsFinished caller c fs → AreFinished caller (cs ++ c ∷ []) (es ++ fs)
finished_more caller [] c es fs none one = (fs, [], one, refl, ap (λ l. l ++ fs) none ∙ sym (append-nil fs))
finished_more caller (d ∷ cs) c es fs (front, back, first, rest, is) one =
    (front, back ++ fs, first, finished_more caller cs c back fs rest one, ap (λ l. l ++ fs) is ∙ append_assoc front back fs)

-- finished commands make at most 17 entries each
pub finished_short : (caller : ℕ) (cs : List Command) (es : List Entry) → AreFinished caller cs es → length es ≤ 17 * length cs
finished_short caller [] es none = omega (arith, ap length none)
finished_short caller (c ∷ cs) es (front, back, first, rest, is) =
    omega (arith, ap length is, length-append front back, short caller c front first.last first.unfolds, finished_short caller cs back rest)

-- a script that a full history stopped made fewer entries than 17 a command
pub stopped_short : (caller : ℕ) (script : List Command) (k most : ℕ) (es : List Entry) → WentTo caller script k (λ c last. IsStopped caller c last most) es → (k < length script) × (length es ≤ 17 * k + 16)
stopped_short caller script k most es went = (went.inside, few)
  where
    few : length es ≤ 17 * k + 16
    few = omega (arith, went.inside, ap length went.whole, length-append went.front went.last, length-take k script, finished_short caller (take k script) went.front went.finished, shorter caller went.command went.last most went.such)
