use Rattle.std.proofs.Common.{◌≡◌, ◌||◌, ◌∷◌, [], true, false, not, length, ap, sym, ◌∙◌, arith}
use Rattle.std.proofs.lemmas.Bool.{not_from_false, not_from_true, or_from, or_left, or_right}
use Rattle.std.proofs.lemmas.List.{length-append}
use Rattle.trip_analysis.specs.Findings.{is_number_among}
use Rattle.next_day.specs.NextDay.{trucks_of}
use Rattle.next_day.proofs.Collecting.{among_held, kept_more, kept_same}
use Rattle.next_day.proofs.going_on.keep_trucks.Goals.{then-not-only+in_ok-push, then-not-only-via-then-not-only, then-not-only-via-else-not-only+then-holds_one, else-not-only+else-holds_one}
use Rattle.next_day.proofs.going_on.keep_trucks.Goals as goal

pub trucks-preserved : goal.trucks-preserved
trucks-preserved c =
    let only = c.args.only in
    let standing = c.args.standing.now in
    let truck = c.trucks.truck in
    let held = is_number_among truck (trucks_of standing) in
    elim c.if-not-only.branch [
      | then-not-only+in_ok-push w ↦ (
          let goes : (not only || held) ≡ true = elim w.then-not-only.branch [
            | then-not-only-via-then-not-only v ↦ or_left (not only) held (not_from_false only v.if-not-only.true)
            | then-not-only-via-else-not-only+then-holds_one v ↦ or_right (not only) held (among_held truck standing ∙ (sym v.holds_one.ensures ∙ v.if-holds_one.true))
          ] in (
            rw w.kept-is (kept_more only standing truck c.trucks.kept.items w.push.new.self.items c.trucks.invariant.0 goes w.in_ok-push.ensures.items),
            rw w.kept-is (omega (arith, c.trucks.invariant.1, ap length w.in_ok-push.ensures.items, length-append c.trucks.kept.items (truck ∷ []))),
          )
          )
      | else-not-only+else-holds_one w ↦ (
          let stays : (not only || held) ≡ false =
          or_from (not only) held (not_from_true only w.if-not-only.false) (among_held truck standing ∙ (sym w.holds_one.ensures ∙ w.if-holds_one.false)) in
          (rw w.kept-is (kept_same only standing truck c.trucks.kept.items c.trucks.invariant.0 stays), rw w.kept-is (omega (arith, c.trucks.invariant.1)))
          )
    ]
