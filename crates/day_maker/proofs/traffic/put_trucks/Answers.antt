use Rattle.std.proofs.Common.{arith}
use Rattle.day_maker.specs.Made.{truck}
use Rattle.day_maker.proofs.Pages.{each_end, each_more}
use Rattle.day_maker.proofs.traffic.put_trucks.Goals as goal

pub trucks-preserved : goal.trucks-preserved
trucks-preserved c = each_more (truck) c.trucks.page c.put_truck.new.page _ c.trucks.t (5) (omega arith) c.trucks.invariant c.in_ok-put_truck.ensures

pub returns : goal.returns
returns c = each_end (truck) c.trucks.page _ c.trucks.t (5) (omega arith) c.trucks.invariant
