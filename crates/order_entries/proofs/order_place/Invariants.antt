use Prim.Native.Nat.{◌-◌}
use lib.ListN.{length}
use Rattle.json_values.proofs.Fold.{Left}
use Rattle.order_entries.specs.Collected.{order_place_at, Inside}
use Rattle.order_entries.proofs.Walking.{order_loop}
use Rattle.order_entries.proofs.order_place.Given as goal

abbrev pub invariant-loop-name_to : goal.invariant-loop-name_to
invariant-loop-name_to l = Left (order_loop l.s l.at (l.depth - 1)) l.met l.i (order_place_at l.depth l.s l.at) × Inside l.s l.met

abbrev pub decreases-loop-name_to : goal.decreases-loop-name_to
decreases-loop-name_to l = length l.s - l.i
