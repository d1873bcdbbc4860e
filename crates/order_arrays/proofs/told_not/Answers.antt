-- `told_not` meets its contract.
use Rattle.order_arrays.proofs.told_not.Goals as goal

pub returns : goal.returns
returns c = rw c.not_orders.ensures
