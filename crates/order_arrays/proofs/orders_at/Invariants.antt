use Prim.Native.Nat.{◌-◌}
use lib.ListN.{length}
use Rattle.order_arrays.proofs.Arrays.{Going}
use Rattle.order_arrays.proofs.orders_at.Given as goal

abbrev pub invariant-loop-side : goal.invariant-loop-side
invariant-loop-side l = Going l.s l.at (l.depth - 1) l.side l.initial.tally l.initial.buffer l.i l.tally l.buffer

abbrev pub decreases-loop-side : goal.decreases-loop-side
decreases-loop-side l = length l.s - l.i
