-- Deliveries that come one after another.
use Rattle.std.proofs.Common.{◌≡◌, ◌∙◌, sym, ap, subst, refl, ℕ, ◌≤◌, ◌-◌, List, [], ◌∷◌, ◌++◌, length, map, take, drop, Option, Some, None, append_assoc, arith}
use Rattle.std.specs.List.{remove, slice_range}
use Rattle.std.proofs.Math.Seq.{drop-append_seam}
use Rattle.std.proofs.lemmas.List.{drop-append-le, length-drop, map-append, take-append-le}
use Rattle.std.proofs.lemmas.List.Elements.{All-head, All-tail, filter-append}
use Rattle.std.proofs.lemmas.List.Folds.{drop_split}
use Rattle.std.proofs.lemmas.Option.{slice_get_within}
use Rattle.notice_desk.specs.declared.notice.Recall.{Recall}
use Rattle.notice_desk.specs.declared.notice.Whom.{Whom}
use Rattle.notice_desk.specs.Notices.{is_for, recalls_for, told_more}
use Rattle.notice_desk.specs.Standings.{AreNew, AreWithinRecalls, Standing}
use Rattle.notice_desk.specs.Deliveries.{Stopped, StoppedAt, through, told_all}
use Rattle.notice_desk.specs.Laws.{DeliveriesGoOn, DeliveriesResume, DeliveriesResumeWithout, Extends, NewAreToldAll}
use Rattle.notice_desk.proofs.Places.{All-front, map-remove}

told_twice : (told : Option (List Recall)) (whom : Whom) (xs ys : List Recall)
    → told_more (told_more told (recalls_for whom xs)) (recalls_for whom ys) ≡ told_more told (recalls_for whom (xs ++ ys))
told_twice None whom xs ys = refl
told_twice (Some told) whom xs ys =
    ap Some (append_assoc told (recalls_for whom xs) (recalls_for whom ys) ∙ ap (λ l. told ++ l) (sym (filter-append (is_for whom) xs ys)))

-- what a subscriber was told, in two parts, is what it is told at once
told_on : (recalls : List Recall) (s : Standing) (first : List Recall) (passed : ℕ)
    → first ++ drop passed recalls ≡ drop s.passed recalls
    → through recalls (record { whom = s.whom; passed = passed; told = told_more s.told (recalls_for s.whom first) }) ≡ through recalls s
told_on recalls s first passed parts =
    ap (λ told. record { whom = s.whom; passed = length recalls; told = told })
    (told_twice s.told s.whom first (drop passed recalls) ∙ ap (λ l. told_more s.told (recalls_for s.whom l)) parts)

-- one that is through with a list goes on with what is longer
through_on : (recalls more : List Recall) (s : Standing) → s.passed ≤ length recalls
    → through (recalls ++ more) (through recalls s) ≡ through (recalls ++ more) s
through_on recalls more s within =
    told_on (recalls ++ more) s (drop s.passed recalls) (length recalls)
    (ap (λ l. drop s.passed recalls ++ l) (drop-append_seam recalls more) ∙ sym (drop-append-le s.passed recalls more within))

-- and so does one that is stopped
stopped_on : (recalls more : List Recall) (s t : Standing) → Stopped recalls s t
    → through (recalls ++ more) t ≡ through (recalls ++ more) s
stopped_on recalls more s t h =
    let within = slice_get_within recalls t.passed h.failed h.at in
    let room : s.passed ≤ length recalls = omega arith in
    let rest : t.passed - s.passed ≤ length (drop s.passed recalls) = rw (length-drop s.passed recalls) (omega arith) in
    let range = ap (take (t.passed - s.passed)) (drop-append-le s.passed recalls more room)
    ∙ take-append-le (t.passed - s.passed) (drop s.passed recalls) more rest in
    ap (λ whom. through (recalls ++ more) (record { whom = whom; passed = t.passed; told = t.told })) h.same
    ∙ (ap (λ told. through (recalls ++ more) (record { whom = s.whom; passed = t.passed; told = told })) h.told
    ∙ told_on (recalls ++ more) s (slice_range recalls s.passed t.passed) t.passed
    (ap (λ l. l ++ drop t.passed (recalls ++ more)) (sym range) ∙ sym (drop_split (recalls ++ more) s.passed t.passed h.further)))

all_on : (recalls more : List Recall) (ss : List Standing) → AreWithinRecalls recalls ss
    → map (through (recalls ++ more)) (map (through recalls) ss) ≡ map (through (recalls ++ more)) ss
all_on recalls more [] all = refl
all_on recalls more (s ∷ ss) all =
    ap (λ t. t ∷ map (through (recalls ++ more)) (map (through recalls) ss)) (through_on recalls more s (All-head (λ t. t.passed ≤ length recalls) s ss all))
    ∙ ap (λ ts. through (recalls ++ more) s ∷ ts) (all_on recalls more ss (All-tail (λ t. t.passed ≤ length recalls) s ss all))

-- what is left to tell after a delivery that stopped
resumed : (place : ℕ) (before middle : List Standing) (recalls more : List Recall) → AreWithinRecalls recalls before
    → StoppedAt place before recalls middle
    → map (through (recalls ++ more)) middle ≡ map (through (recalls ++ more)) before
resumed place before middle recalls more within stop =
    let T = through (recalls ++ more) in
    let front = All-front (λ s. s.passed ≤ length recalls) stop.front (stop.found ∷ stop.back) (subst (AreWithinRecalls recalls) stop.were within) in
    ap (map T) stop.are
    ∙ (map-append T (map (through recalls) stop.front) (stop.left ∷ stop.back)
    ∙ (ap (λ l. l ++ T stop.left ∷ map T stop.back) (all_on recalls more stop.front front)
    ∙ (ap (λ s. map T stop.front ++ s ∷ map T stop.back) (stopped_on recalls more stop.found stop.left stop.stopped)
    ∙ (sym (map-append T stop.front (stop.found ∷ stop.back)) ∙ ap (map T) (sym stop.were)))))

-- the same over a list that extends it
longer_on : (recalls longer : List Recall) (ss ts : List Standing) → Extends longer recalls
    → ((more : List Recall) → map (through (recalls ++ more)) ts ≡ map (through (recalls ++ more)) ss)
    → map (through longer) ts ≡ map (through longer) ss
longer_on recalls longer ss ts extends same =
    subst (λ list. map (through list) ts ≡ map (through list) ss) (sym extends.1) (same extends.0)

pub delivered_on : DeliveriesGoOn
delivered_on before middle after recalls longer within extends first second =
    second ∙ longer_on recalls longer before middle extends
    (λ more. ap (map (through (recalls ++ more))) first ∙ all_on recalls more before within)

pub delivered_after : DeliveriesResume
delivered_after place before middle after recalls longer within extends stop second =
    second ∙ longer_on recalls longer before middle extends (λ more. resumed place before middle recalls more within stop)

pub delivered_without : DeliveriesResumeWithout
delivered_without place gone before middle after recalls longer within extends stop second =
    second ∙ (map-remove (through longer) middle gone
    ∙ (ap (λ l. remove l gone) (longer_on recalls longer before middle extends (λ more. resumed place before middle recalls more within stop))
    ∙ sym (map-remove (through longer) before gone)))

-- those who are through with nothing have the whole list before them
new_all : (ss : List Standing) (recalls : List Recall) → AreNew ss → map (through recalls) ss ≡ map (told_all recalls) ss
new_all [] recalls new = refl
new_all (s ∷ ss) recalls new =
    ap (λ p. record { whom = s.whom; passed = length recalls; told = told_more s.told (recalls_for s.whom (drop p recalls)) } ∷ map (through recalls) ss)
    (All-head (λ t. t.passed ≡ 0) s ss new)
    ∙ ap (λ ts. told_all recalls s ∷ ts) (new_all ss recalls (All-tail (λ t. t.passed ≡ 0) s ss new))

pub new_told_all : NewAreToldAll
new_told_all before after recalls new done = done ∙ new_all before recalls new
