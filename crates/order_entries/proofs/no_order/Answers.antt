-- `no_order` meets its contract: it is told that no order was read.
use mathlib.Core.Path.{refl}
use Rattle.order_entries.specs.Collected.{order_place_of}
use Rattle.order_entries.proofs.no_order.Goals as goal

pub returns : goal.returns
unfolding order_place_of
returns c = refl
