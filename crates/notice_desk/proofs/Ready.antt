-- Subscribers to whom a list may be delivered.
use Rattle.std.proofs.Common.{◌≡◌, sym, subst, refl, ℕ, suc, ◌≤◌, List, [], ◌∷◌, ◌++◌, length, Option, arith}
use Rattle.std.specs.List.{remove}
use Rattle.std.proofs.Math.Seq.{drop-append_seam}
use Rattle.std.proofs.lemmas.List.Elements.{All-append, All-cons, All-drop, All-map, All-nil, All-push, All-tail, All-take}
use Rattle.std.proofs.lemmas.Option.{slice_get_within}
use Rattle.notice_desk.specs.declared.notice.Recall.{Recall}
use Rattle.notice_desk.specs.declared.notice.Whom.{Whom}
use Rattle.notice_desk.specs.Standings.{AreNew, AreWithinRecalls, Standing, new_standing}
use Rattle.notice_desk.specs.Deliveries.{Delivered, StoppedAt, through}

pub none_new : AreNew []
none_new = All-nil (λ s. s.passed ≡ 0)

-- one who is added is through with nothing
pub added_new : (ss : List Standing) (whom : Whom) (told : Option (List Recall)) → AreNew ss
    → AreNew (ss ++ new_standing whom told ∷ [])
added_new ss whom told new = All-push (λ s. s.passed ≡ 0) ss (new_standing whom told) new refl

pub new_within : (ss : List Standing) (recalls : List Recall) → AreNew ss → AreWithinRecalls recalls ss
new_within ss recalls new k d h = rw (new k d h) (omega arith)

-- after a delivery, whether it was done or stopped, another may come
pub delivered_within : (before after : List Standing) (recalls : List Recall) → Delivered before recalls after
    → AreWithinRecalls recalls after
delivered_within before after recalls done =
    subst (AreWithinRecalls recalls) (sym done)
    (All-map (λ s. s.passed ≤ length recalls) (through recalls) before (λ k d h. omega arith))

pub stopped_within : (place : ℕ) (before after : List Standing) (recalls : List Recall) → AreWithinRecalls recalls before
    → StoppedAt place before recalls after → AreWithinRecalls recalls after
stopped_within place before after recalls within stop =
    let P = λ (s : Standing). s.passed ≤ length recalls in
    let all = subst (AreWithinRecalls recalls) stop.were within in
    let below = slice_get_within recalls stop.left.passed stop.stopped.failed stop.stopped.at in
    let back = subst (AreWithinRecalls recalls) (drop-append_seam stop.front (stop.found ∷ stop.back))
    (All-drop P (length stop.front) (stop.front ++ stop.found ∷ stop.back) all) in
    subst (AreWithinRecalls recalls) (sym stop.are)
    (All-append P _ _ (delivered_within stop.front _ recalls refl)
    (All-cons P stop.left stop.back (omega arith) (All-tail P stop.found stop.back back)))

pub removed_within : (before : List Standing) (recalls : List Recall) (gone : ℕ) → AreWithinRecalls recalls before
    → AreWithinRecalls recalls (remove before gone)
removed_within before recalls gone within =
    let P = λ (s : Standing). s.passed ≤ length recalls in
    All-append P _ _ (All-take P gone before within) (All-drop P (suc gone) before within)
