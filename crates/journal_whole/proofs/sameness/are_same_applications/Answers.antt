use Rattle.std.proofs.Common.{◌≡◌, ap, refl, sym, ◌∙◌}
use Rattle.trip_analysis.specs.declared.application.Application.{Application}
use Rattle.trip_analysis.specs.Applications.{application_of}
use Rattle.journal_whole.proofs.sameness.are_same_applications.Goals as goal

-- applications with the same fields are the same
same_fields : (a b : Application) → a.truck ≡ b.truck → a.from ≡ b.from → a.to ≡ b.to → a.asked ≡ b.asked → a.first ≡ b.first → a.last ≡ b.last → a ≡ b
same_fields a b truck from to asked first last = λ k. application_of (truck k) (from k) (to k) (asked k) (first k) (last k)

pub returns : goal.returns
returns c = (
  λ is. same_fields c.args.one.now c.args.other.now
      (sym c.truck.ensures ∙ (c.if-truck.false ∙ c.truck-2.ensures))
      (sym c.from.ensures ∙ (c.if-from.false ∙ c.from-else-truck.ensures))
      (sym c.to.ensures ∙ (c.if-to.false ∙ c.to-else-from.ensures))
      (sym c.asked.ensures ∙ (c.are_same_asked.ensures.0 is ∙ c.asked-2.ensures))
      (sym c.first.ensures ∙ (c.if-not-are_same_days.ensures.0 refl ∙ c.first-2.ensures))
      (sym c.last.ensures ∙ (c.if-not-are_same_days-2.ensures.0 refl ∙ c.last-2.ensures)),
  λ same. c.are_same_asked.ensures.1 (c.asked.ensures ∙ (ap (λ (a : Application). a.asked) same ∙ sym c.asked-2.ensures)),
)
