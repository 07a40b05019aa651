-- A look at the office.
use Rattle.std.proofs.Common.{◌≡◌, ℕ, inl, inr, ap, sym, subst, ◌∙◌, arith}
use Rattle.office_words.specs.declared.entry.Call.TheVariants as call
use Rattle.office_words.specs.declared.entry.Reply.{Reply}
use Rattle.office_words.specs.declared.entry.Reply.TheVariants as reply
use Rattle.office_core.specs.Machine.{IsAnswer, IsLegal, Machine, version_of}
use Rattle.office_core.specs.Offices.{Opened, entry, grown, machine_in}
use Rattle.office_core.proofs.Histories.{last_step}

-- a look that is entered in a legal history is answered by the version that it leaves
module _ (o : Opened) (caller : ℕ) (r : Reply) where
  abbrev looked_at : Opened
  looked_at = grown o (entry caller call.Snapshot r)

  reply_is : IsLegal looked_at.base looked_at.opening looked_at.history → r ≡ reply.SnapshotAt (version_of (machine_in looked_at))
  reply_is legal = let step = last_step o.base o.opening o.history (entry caller call.Snapshot r) legal in is (machine_in o) (machine_in looked_at) step.next_is step.answer
    where
      is : (m n : Machine) → n ≡ m → IsAnswer o.base m caller call.Snapshot r → r ≡ reply.SnapshotAt (version_of n)
      is m n same (inl given) = given ∙ ap (λ (k : Machine). reply.SnapshotAt (version_of k)) (sym same)
      is m n same (inr lacks) = absurd (grind (arith, lacks.1))

  pub told : (next : Opened) → next ≡ looked_at → IsLegal next.base next.opening next.history → next ≡ grown o (entry caller call.Snapshot (reply.SnapshotAt (version_of (machine_in next))))
  told next grows legal = let is = reply_is (subst (λ (x : Opened). IsLegal x.base x.opening x.history) grows legal) in
      grows ∙ ap (λ (k : Reply). grown o (entry caller call.Snapshot k)) (is ∙ ap (λ (x : Opened). reply.SnapshotAt (version_of (machine_in x))) (sym grows))
