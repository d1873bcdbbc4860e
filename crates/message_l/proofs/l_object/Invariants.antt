use Prim.Native.Nat.{◌-◌}
use lib.ListN.{length}
use Rattle.message_l.proofs.Whole.{Going}
use Rattle.message_l.proofs.l_object.Given as goal

abbrev pub invariant-loop-name_to : goal.invariant-loop-name_to
invariant-loop-name_to l = Going l.name l.s l.at l.met l.i l.buffer

abbrev pub decreases-loop-name_to : goal.decreases-loop-name_to
decreases-loop-name_to l = length l.s - l.i
