use Rattle.std.proofs.Common.{rules, ◌≡◌, IfOk, subst}
use Rattle.day_text.proofs.applicants.prepare_on_threads.Goals as goal

pub returns : goal.returns
returns g c =
    let same : c.of_parts.result ≡ c.args.file = search rules in
    subst (λ file. IfOk c.prepare.result (λ prepared. prepared ≡ file)) same c.prepare.ensures
