use Rattle.notice_desk.proofs.Places.{map-remove}
use Rattle.notice_desk.proofs.subscribers.Subscribers.unsubscribe.Goals as goal

pub returns-clause-gone : goal.returns-clause-gone
returns-clause-gone g c = rw c.remove.ensures.items (map-remove _ _ _)

pub returns-clause-counts : goal.returns-clause-counts
returns-clause-counts g c = rw c.remove.ensures.items (map-remove _ _ _)

pub returns-clause-texts : goal.returns-clause-texts
returns-clause-texts g c = rw c.remove.ensures.items (map-remove _ _ _)
