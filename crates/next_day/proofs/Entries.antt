-- There are not more permits that stand than were issued.
use Rattle.std.proofs.Common.{◌≡◌, ◌≤◌, ◌∷◌, [], Bool, true, false, cond, List, Option, Some, None, length, refl, ap, sym, ◌∙◌, arith}
use Rattle.std.specs.Prelude.{filter}
use Rattle.std.specs.List.{cons_option}
use Rattle.office_words.specs.declared.entry.Entry.{Entry}
use Rattle.office_core.specs.Happened.{application_in, issued_in}
use Rattle.office_core.specs.Machine.{Machine}
use Rattle.office_core.specs.Replies.{is_issue}
use Rattle.next_day.specs.Standing.{Standing, standing_in, standing_of}
use Rattle.next_day.proofs.Facts.{issue_is}

module _ (m : Machine) where
  -- there are not more of them than were issued
  pub standing_few : (es : List Entry) → length (standing_in m es) ≤ issued_in es
  standing_few [] = omega arith
  standing_few (e ∷ es) = by (standing_few es) (standing_of m e.caller (application_in e.call) e.reply) refl (is_issue e.reply) refl
    where
      by : length (standing_in m es) ≤ issued_in es → (o : Option Standing) → standing_of m e.caller (application_in e.call) e.reply ≡ o → (b : Bool) → is_issue e.reply ≡ b
          → length (cons_option o (standing_in m es)) ≤ length (cond b (e ∷ filter (λ (x : Entry). is_issue x.reply) es) (filter (λ (x : Entry). is_issue x.reply) es))
      by few None is true issue = omega (arith, few)
      by few None is false issue = few
      by few (Some p) is true issue = omega (arith, few)
      by few (Some p) is false issue = let from = issue_is m e.caller (application_in e.call) e.reply p is in absurd (cc (sym issue ∙ ap is_issue from.told))
