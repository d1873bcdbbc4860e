use Prim.Native.Nat.{◌-◌}
use lib.ListN.{length}
use Rattle.message_k.proofs.Bearing.{Running}
use Rattle.message_k.proofs.k_parts.Given as goal

abbrev pub invariant-loop-buffer : goal.invariant-loop-buffer
invariant-loop-buffer l = Running l.s l.at l.parts l.i l.buffer

abbrev pub decreases-loop-buffer : goal.decreases-loop-buffer
decreases-loop-buffer l = length l.s - l.i
