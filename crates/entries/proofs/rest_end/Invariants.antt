use Prim.Native.Nat.{ℕ, suc, ◌+◌, ◌-◌, ◌≤◌}
use lib.ListN.{length}
use mathlib.Core.Bool.{false}
use Rattle.json_values.proofs.Walk.{Walk}
use Rattle.json_values.specs.Json.{items_end, list, next}
use Rattle.entries.proofs.Stops.{one}
use Rattle.entries.proofs.rest_end.Given as goal

abbrev pub invariant-loop-next : goal.invariant-loop-next
invariant-loop-next l = (n : ℕ) → length l.s ≤ n + l.at → Walk (one l.depth l.s) 93 l.s items_end l.end (next (one l.depth l.s) 93 l.s false l.end) (items_end (list (one l.depth l.s) 93 l.s (suc n) false l.at))

abbrev pub decreases-loop-next : goal.decreases-loop-next
decreases-loop-next l = length l.s - l.end
