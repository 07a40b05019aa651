-- What the parts of a decision leave.
use Rattle.std.specs.Prelude.{◌≡◌, ◌++◌, ◌∷◌, [], ℕ, List, Option, Some, MatchOption, true, false}
use Rattle.trip_analysis.specs.declared.application.Application.{Application}
use Rattle.office_words.specs.declared.entry.Call.TheVariants as call
use Rattle.office_words.specs.declared.entry.Entry.{Entry}
use Rattle.office_words.specs.declared.entry.Reply.{Reply}
use Rattle.office_words.specs.declared.entry.Reply.TheVariants as reply
use Rattle.office_core.specs.Calls.{Answered, Calling, machine_seen}
use Rattle.office_core.specs.Machine.{MayAsk}
use Rattle.office_core.specs.Replies.{is_outdated}
use Rattle.analyst_pool.specs.declared.deciding.Submission.{Submission}
use Rattle.analyst_pool.specs.Leaves.{Grew}
use Rattle.analyst_pool.specs.Unfolds.{AreOutdated, Concludes, IsDecided, IsOutdated, looked_at}

-- the reply, unless it says that what was proposed is out of date
abbrev pub IsUnlessOutdated : Reply → Option Reply → Type 0
IsUnlessOutdated r o = MatchOption o (is_outdated r ≡ true) (λ q. (q ≡ r) × (is_outdated r ≡ false))

module _ {P : Type 0} where
  -- a submission may be made with what has been seen
  abbrev pub MaySubmit : Calling P → Submission → Type 0
  MaySubmit v s = MayAsk v.who.base (machine_seen v) (call.Submit s.application s.proposal)

  -- a snapshot was taken, and the submission is a copy of the application with what was found at that version
  pub record IsPrepared (v : Calling P) (a : Application) (s : Submission) (w : Calling P) : Type 0 where
    pub grew : Grew v (looked_at v.who.caller s.proposal.seen ∷ []) w
    pub application : s.application ≡ a
    pub asked : MaySubmit w s

  -- a submission was made and answered; the result is the answer, unless that says that it is out of date
  pub record IsSubmitted (v : Calling P) (s : Submission) (result : Option Reply) (w : Calling P) : Type 0 where
    pub reply : Reply
    pub answered : Answered v (call.Submit s.application s.proposal) reply w
    pub unless : IsUnlessOutdated reply result

  -- an attempt was out of date
  pub record IsAgain (v : Calling P) (a : Application) (w : Calling P) : Type 0 where
    pub entries : List Entry
    pub outdated : IsOutdated v.who.caller a entries
    pub grew : Grew v entries w

  -- an attempt brought the attempts to an end
  pub record Concluded (v : Calling P) (a : Application) (r : Reply) (w : Calling P) : Type 0 where
    pub entries : List Entry
    pub concludes : Concludes v.who.caller a r entries
    pub grew : Grew v entries w
    pub full : (most : ℕ) → r ≡ reply.Full most → w.full ≡ Some most

  -- the application was decided, where so many attempts were out of date before
  pub record DecidedAfter (k : ℕ) (v : Calling P) (a : Application) (r : Reply) (w : Calling P)
      : Type 0 where
    pub entries : List Entry
    pub decided : (front : List Entry) → AreOutdated v.who.caller a k front
        → IsDecided v.who.caller a (front ++ entries) r
    pub grew : Grew v entries w
    pub full : (most : ℕ) → r ≡ reply.Full most → w.full ≡ Some most
