use Prim.Native.Nat.{◌-◌}
use lib.ListN.{length}
use Rattle.entries.proofs.Arrays.{Going}
use Rattle.entries.proofs.entries_in.Given as goal

abbrev pub invariant-loop-form : goal.invariant-loop-form
invariant-loop-form l = Going l.base l.s (l.depth - 1) l.form l.side l.initial.tally l.initial.buffer l.i l.tally l.buffer

abbrev pub decreases-loop-form : goal.decreases-loop-form
decreases-loop-form l = length l.s - l.i
