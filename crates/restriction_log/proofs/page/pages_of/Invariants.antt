use Rattle.std.proofs.Common.{◌≡◌}
use Rattle.restriction_log.specs.Pages.{as_pages}
use Rattle.restriction_log.proofs.Paging.{IsCut}
use Rattle.restriction_log.proofs.page.pages_of.Given as goal

abbrev pub invariant-pages : goal.invariant-pages
invariant-pages g l = record {
  size : l.chunk-iterator.size ≡ 64;
  cut : IsCut 64 l.items (as_pages l.pages.items) l.chunk-iterator.rest.now;
}
