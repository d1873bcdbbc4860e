use Prim.Native.Nat.{◌-◌}
use lib.ListN.{length}
use Rattle.message_m.proofs.Keeping.{DataGoing}
use Rattle.message_m.proofs.read_sides.Given as goal

abbrev pub invariant-loop-name_to : goal.invariant-loop-name_to
invariant-loop-name_to l = DataGoing l.s l.at l.fn.before l.initial.buffer l.met l.i l.buffer

abbrev pub decreases-loop-name_to : goal.decreases-loop-name_to
decreases-loop-name_to l = length l.s - l.i
