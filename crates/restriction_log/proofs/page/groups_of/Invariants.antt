use Rattle.std.proofs.Common.{◌≡◌}
use Rattle.restriction_log.specs.Pages.{as_groups, as_pages}
use Rattle.restriction_log.proofs.Paging.{IsCut}
use Rattle.restriction_log.proofs.page.groups_of.Given as goal

abbrev pub invariant-groups : goal.invariant-groups
invariant-groups g l = record {
  size : l.chunk-iterator.size ≡ 16;
  cut : IsCut 16 (as_pages l.pages) (as_groups l.groups.items) (as_pages l.chunk-iterator.rest.now);
}
