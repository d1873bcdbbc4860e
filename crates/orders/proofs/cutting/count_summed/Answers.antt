-- `count_summed` meets its contract: it is the cut to ten prices.
use Rattle.orders.specs.Orders.{summed}
use Rattle.orders.proofs.cutting.count_summed.Goals as goal

pub returns : goal.returns
unfolding summed
returns c = record { within = c.cut.ensures.within; orders = c.cut.ensures.orders }
