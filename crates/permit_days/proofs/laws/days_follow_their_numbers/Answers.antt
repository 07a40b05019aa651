use Rattle.permit_days.proofs.Numbers.{earlier_day, lower_number}
use Rattle.permit_days.proofs.Orders.{earlier, later, shape_of}
use Rattle.permit_days.proofs.laws.days_follow_their_numbers.Goals as goal

pub returns : goal.returns
returns c = λ a b h k. (λ less. lower_number a b h k (earlier a b (shape_of a h) (shape_of b k) less), λ less. later a b (shape_of a h) (shape_of b k) (earlier_day a b h k less))
