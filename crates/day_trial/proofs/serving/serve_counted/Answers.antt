use Rattle.std.proofs.Common.{subst, sym, ◌∙◌}
use Rattle.office_core.specs.Offices.{Opened}
use Rattle.day_trial.specs.Serving.{HasServed}
use Rattle.day_trial.proofs.Carrying.{callers_for, served, sound_for}
use Rattle.day_trial.proofs.serving.serve_counted.Goals as goal

pub carry_out_all-carried-requires-clause-sound : goal.carry_out_all-carried-requires-clause-sound
carry_out_all-carried-requires-clause-sound g c =
    let opened = c.in_ok-lone.ensures in
    sound_for c.args.file c.as_slice.result.now (c.as_slice.ensures.value ∙ opened.orders) c.in_ok-lone.lone c.most_entries-most.result opened.office c.requires.file.sound

pub carry_out_all-carried-requires-clause-callers : goal.carry_out_all-carried-requires-clause-callers
carry_out_all-carried-requires-clause-callers g c =
    callers_for c.args.file c.as_slice.result.now (c.as_slice.ensures.value ∙ c.in_ok-lone.ensures.orders) c.requires.file.few_actors c.requires.file.callers

pub returns-clause-served : goal.returns-clause-served
returns-clause-served g c =
    let opened = c.in_ok-lone.ensures in let o = c.in_ok-lone.lone in let now = c.into_office-office.result in let orders = c.as_slice.result.now in
    let has : HasServed o now orders = subst (λ (n : Opened). HasServed o n orders) (sym c.into_office-office.ensures) c.in_ok-carried.ensures in
    served c.args.file orders (c.as_slice.ensures.value ∙ opened.orders) o c.most_entries-most.result opened.office now has c.scripts_are_short.ensures.memory c.history-history.ensures.legal c.history-history.ensures.promises
