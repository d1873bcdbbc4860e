use Prim.Native.Nat.{◌-◌}
use lib.ListN.{length}
use Rattle.message_k.proofs.Holding.{Going}
use Rattle.message_k.proofs.k_object.Given as goal

abbrev pub invariant-loop-name_to : goal.invariant-loop-name_to
invariant-loop-name_to l = Going l.s l.at l.initial.members l.initial.buffer l.members l.i l.buffer

abbrev pub decreases-loop-name_to : goal.decreases-loop-name_to
decreases-loop-name_to l = length l.s - l.i
