use Rattle.restriction_log.proofs.Places.{made_paged}
use Rattle.restriction_log.proofs.pages.Pages.of.Goals as goal

pub invariant_of-result : goal.invariant_of-result
invariant_of-result g c =
    (made_paged _ _ _ _ _ c.in_ok-from_vec.ensures c.in_ok-groups.ensures.parts c.in_ok-groups.ensures.pages c.deref.ensures.value
    c.in_ok-pages.ensures.parts c.in_ok-pages.ensures.items).0

pub returns : goal.returns
returns g c =
    (made_paged _ _ _ _ _ c.in_ok-from_vec.ensures c.in_ok-groups.ensures.parts c.in_ok-groups.ensures.pages c.deref.ensures.value
    c.in_ok-pages.ensures.parts c.in_ok-pages.ensures.items).1
