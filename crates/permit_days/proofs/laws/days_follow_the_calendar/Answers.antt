use Rattle.permit_days.proofs.Orders.{earlier, later, shape_of}
use Rattle.permit_days.proofs.laws.days_follow_the_calendar.Goals as goal

pub returns : goal.returns
returns c = λ a b h k. (λ less. earlier a b (shape_of a h) (shape_of b k) less, λ before. later a b (shape_of a h) (shape_of b k) before)
