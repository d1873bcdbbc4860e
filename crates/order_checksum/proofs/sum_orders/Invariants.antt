use mathlib.Core.Path.{◌≡◌}
use lib.ListN.{take, drop}
use Rattle.orders.specs.Words.{orders_in}
use Rattle.checksum.specs.Carried.{summed}
use Rattle.order_checksum.specs.Text.{levels_of}
use Rattle.order_checksum.proofs.sum_orders.Given as goal

abbrev pub invariant-loop-i : goal.invariant-loop-i
invariant-loop-i l =
    summed l.sum (drop l.i (take l.n (levels_of (orders_in l.words)))) ≡ summed l.state (take l.n (levels_of (orders_in l.words)))
