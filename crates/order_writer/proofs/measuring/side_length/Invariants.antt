use Prim.Native.Nat.{◌+◌, ◌*◌, ◌≤◌}
use mathlib.Core.Path.{◌≡◌}
use lib.ListN.{length, drop}
use Rattle.orders.specs.Words.{held}
use Rattle.order_writer.specs.Parts.{max_entry}
use Rattle.order_writer.proofs.Parts.{led}
use Rattle.order_writer.proofs.measuring.side_length.Given as goal

abbrev pub invariant-loop-i : goal.invariant-loop-i
invariant-loop-i l =
    (l.sum + length (led (drop l.i (held l.words l.n))) ≡ length (led (held l.words l.n))) × (l.sum ≤ (max_entry + 1) * l.i)
