use Rattle.std.proofs.Common.{rules, ◌≡◌, ◌≤◌, ap, arith}
use Rattle.trip_analysis.specs.Applications.{Sound}
use Rattle.trip_analysis.specs.Bases.{BaseLists}
use Rattle.office_core.specs.Machine.{version_of}
use Rattle.office_core.specs.Registers.{stored_now}
use Rattle.journal_audit.specs.Versions.{HasKept}
use Rattle.journal_audit.proofs.Finding.{found_again, found_at, found_same}
use Rattle.journal_audit.proofs.Keeping.{in_order}
use Rattle.journal_audit.proofs.auditor.Auditor.is_found.Goals as goal

pub find-requires-clause-order : goal.find-requires-clause-order
find-requires-clause-order g c = let a = c.args.self.now in
    let same : a.replay.base ≡ c.deref-2.result.now = search rules in
    in_order c.deref-2.result.now (stored_now a.replay) a.versions (ap (λ (b : BaseLists). b.roads) same) c.requires.auditor.versions

pub returns-clause-found : goal.returns-clause-found
returns-clause-found g c =
    let r = c.args.self.now.replay in let a = c.args.application.now in let p = c.args.proposal.now in let w = c.in_ok-what.what in
    let sound : Sound r.base a = search rules in
    let seen : p.seen ≤ version_of r.machine = omega (arith, c.if-proposal-version.false, c.version.ensures) in
    let kept : HasKept c.args.self.now.versions p.seen =
    c.requires.auditor.versions.marked p.seen (omega (arith, c.requires.auditor.all, seen)) (c.requires.named (omega (arith, c.requires.mark, seen))) in
    let base : c.deref-2.result.now ≡ r.base = search rules in
    let is = found_at c.deref-2.result.now r.base r.machine kept.0 p.seen a w base (c.requires.auditor.versions.each p.seen kept.0 kept.1) (c.in_ok-what.ensures.found kept.0 kept.1) in (
      λ same. found_again r.base r.machine a p w sound seen is (c.are_same_findings.ensures.0 same),
      λ found. c.are_same_findings.ensures.1 (found_same r.base r.machine a p w is found),
    )
