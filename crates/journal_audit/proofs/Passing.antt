-- What an auditor knows behind the first entries of a history.
use Rattle.std.proofs.Common.{◌≡◌, ◌<◌, ◌≤◌, ◌+◌, ◌++◌, ◌∷◌, [], ℕ, Bool, List, length, take, get_or, ap, sym, subst, refl, ◌∙◌, arith}
use Rattle.std.specs.List.{All}
use Rattle.std.proofs.lemmas.List.{length-take-le, take_more}
use Rattle.std.proofs.lemmas.List.Elements.{All-get_or}
use Rattle.trip_analysis.specs.Bases.{BaseLists}
use Rattle.office_words.specs.declared.entry.Entry.{Entry}
use Rattle.office_core.specs.Machine.{HasRoom, IsLegal, Machine, Step, after_entry, machine_of, version_of}
use Rattle.office_core.proofs.Counts.{has_room, posted_few, version_is}
use Rattle.office_core.proofs.Histories.{machine_more}
use Rattle.journal_audit.specs.declared.auditor.Auditor.{Auditor}
use Rattle.journal_audit.specs.Auditors.{HasMark, HasOpened, HasPassed, IsAuditor, IsNamedBy, IsStepOf}
use Rattle.journal_audit.specs.Versions.{IsNamed}
use Rattle.journal_audit.specs.Verdicts.{IsFirstBad}
use Rattle.journal_audit.proofs.Fronts.{first_bad, step_legal}

-- the first n entries are legal, and the auditor is behind them
pub record HasJudged (base : BaseLists) (day : List ℕ) (es : List Entry) (n : ℕ) (a : Auditor) : Type 0 where
  pub legal : IsLegal base day (take n es)
  pub base_is : a.replay.base ≡ base
  pub machine : a.replay.machine ≡ machine_of base day (take n es)
  pub named : All (λ e. IsNamedBy a e.call) es
  pub marks : length a.versions.named.items ≡ length es + 1
  pub auditor : IsAuditor a

pub judged_none : (a : Auditor) (day : List ℕ) (es : List Entry) → HasOpened a day es → HasJudged a.replay.base day es 0 a
judged_none a day es opened = record {
  legal = tt;
  base_is = refl;
  machine = opened.machine;
  named = opened.named;
  marks = opened.marks;
  auditor = opened.auditor;
}

module _ (base : BaseLists) (day : List ℕ) (es : List Entry) (n : ℕ) (a : Auditor) (judged : HasJudged base day es n a) (within : n < length es) where
  front_long : length (take n es) ≡ n
  front_long = length-take-le n es (omega (arith, within))

  pub room : length es ≤ 1000000 → HasRoom a.replay.machine
  room few = subst HasRoom (sym judged.machine) (has_room base day (take n es) judged.legal (omega (arith, front_long, within, few)))

  pub has_mark : HasMark a
  has_mark =
      let version : version_of a.replay.machine ≡ version_of (machine_of base day (take n es)) = ap version_of judged.machine in
      omega (arith, version, version_is base day (take n es), posted_few (take n es), front_long, within, judged.marks)

  -- the next entry
  module _ (e : Entry) (is : e ≡ get_or es n e) where
    pub named_next : IsNamedBy a e.call
    named_next = subst (λ (e : Entry). IsNamedBy a e.call) (sym is) (All-get_or (λ (e : Entry). IsNamedBy a e.call) es n e within judged.named)

    more : take (n + 1) es ≡ take n es ++ e ∷ []
    more = take_more es n e within ∙ ap (λ (e : Entry). take n es ++ e ∷ []) (sym is)

    -- a step from what the auditor has is one from what the entries leave
    abbrev Steps : BaseLists → Machine → Type 0
    Steps b m = Step b m e (after_entry b m e)

    from_machine : IsStepOf a e → Steps base (machine_of base day (take n es))
    from_machine step = subst (Steps base) judged.machine (subst (λ (b : BaseLists). Steps b a.replay.machine) judged.base_is step)

    to_machine : Steps base (machine_of base day (take n es)) → IsStepOf a e
    to_machine step = subst (λ (b : BaseLists). Steps b a.replay.machine) (sym judged.base_is) (subst (Steps base) (sym judged.machine) step)

    pub judged_more : (b : Auditor) → HasPassed a e b → HasJudged base day es (n + 1) b
    judged_more b passed = record {
      legal = subst (IsLegal base day) (sym more) (step_legal base day (take n es) e judged.legal (from_machine passed.step));
      base_is = passed.base ∙ judged.base_is;
      machine = passed.machine ∙ (ap (λ (c : BaseLists). after_entry c a.replay.machine e) judged.base_is
          ∙ (ap (λ (m : Machine). after_entry base m e) judged.machine
          ∙ (sym (machine_more base day (take n es) e) ∙ ap (machine_of base day) (sym more))));
      named = subst (λ (marks : List Bool). All (λ (e : Entry). IsNamed marks e.call) es) (sym passed.named) judged.named;
      marks = ap length passed.named ∙ judged.marks;
      auditor = passed.auditor;
    }

    pub bad_next : (IsStepOf a e → ⊥) → IsFirstBad base day es n
    bad_next fails = first_bad base day es n e within is judged.legal (λ step. fails (to_machine step))
