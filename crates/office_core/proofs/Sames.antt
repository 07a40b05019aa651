-- An answer other than want of memory is determined.
use Rattle.std.proofs.Common.{◌≡◌, ◌≢◌, List, ℕ, ◌⊎◌, inl, inr, ap, sym, refl, ◌∙◌, Option, Some, None, unwrap_or}
use Rattle.restriction_log.specs.States.{InForce}
use Rattle.trip_analysis.specs.declared.application.Application.{Application}
use Rattle.trip_analysis.specs.declared.finding.What.{What}
use Rattle.trip_analysis.specs.Bases.{BaseLists}
use Rattle.office_words.specs.declared.entry.Call.{Call}
use Rattle.office_words.specs.declared.entry.Reply.{Reply}
use Rattle.office_core.specs.Replies.{what_reply, early_reply, apply_reply, day_reply, surrender_reply, show_reply}
use Rattle.office_core.specs.Machine.{Machine, version_of, state_in, reply_in, posted_reply, IsHeld, IsAnswer}
use Rattle.office_words.specs.declared.entry.Call.TheVariants as call
use Rattle.office_words.specs.declared.entry.Reply.TheVariants as reply
use Rattle.trip_analysis.proofs.OneFinding.{one_finding}

one : {N M : Type 0} (x r s : Reply) → (r ≡ x) ⊎ ((r ≡ reply.NoMemory) × N) → (s ≡ x) ⊎ ((s ≡ reply.NoMemory) × M) → r ≢ reply.NoMemory → s ≢ reply.NoMemory → r ≡ s
one x r s (inl e) (inl f) p q = e ∙ sym f
one x r s (inl e) (inr f) p q = absurd (q f.0)
one x r s (inr e) f p q = absurd (p e.0)

held_one : (base : BaseLists) (state : InForce) (v : ℕ) (day : List ℕ) (number : ℕ) (a : Application) (w u : What) → IsHeld base state day a w → IsHeld base state day a u → apply_reply base state v day number a w ≡ apply_reply base state v day number a u
held_one base state v day number a w u f g = by (early_reply base day a) refl
  where
    by : (o : Option Reply) → early_reply base day a ≡ o → unwrap_or o (what_reply base state v number a.truck w) ≡ unwrap_or o (what_reply base state v number a.truck u)
    by (Some r) e = refl
    by None e = ap (what_reply base state v number a.truck) (one_finding base state a w u (f e) (g e))

held : (base : BaseLists) (m : Machine) (caller : ℕ) (a : Application) (r s : Reply) → IsAnswer base m caller (call.Held a) r → IsAnswer base m caller (call.Held a) s → r ≢ reply.NoMemory → s ≢ reply.NoMemory → r ≡ s
held base m caller a r s (inl g) (inl h) p q = g.2 ∙ (held_one base (state_in base m) (version_of m) m.day _ a g.0 h.0 g.1 h.1 ∙ sym h.2)
held base m caller a r s (inl g) (inr f) p q = absurd (q f.0)
held base m caller a r s (inr e) f p q = absurd (p e.0)

pub answers_one : (base : BaseLists) (m : Machine) (caller : ℕ) (c : Call) (r s : Reply) → IsAnswer base m caller c r → IsAnswer base m caller c s → r ≢ reply.NoMemory → s ≢ reply.NoMemory → r ≡ s
answers_one base m caller call.Snapshot r s = one (reply.SnapshotAt (version_of m)) r s
answers_one base m caller (call.Submit a p) r s = one (reply_in base m a p.what) r s
answers_one base m caller (call.Held a) r s = held base m caller a r s
answers_one base m caller (call.Post change) r s = one (posted_reply base m change) r s
answers_one base m caller (call.Day day) r s = one (day_reply m.day day) r s
answers_one base m caller (call.Surrender number) r s = one (surrender_reply m.permits m.day caller number) r s
answers_one base m caller (call.Show number) r s = one (show_reply m.permits m.day number) r s
