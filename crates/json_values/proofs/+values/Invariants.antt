use Rattle.std.proofs.Common.{◌*◌, ◌+◌, ◌-◌, length}
use Rattle.json_values.proofs.Ends.{Held}
use Rattle.json_values.specs.Ends.{container_end}
use Rattle.json_values.specs.Json.{value}
use Rattle.json_values.proofs.+values.Given as goal

-- Twice the nesting that is left, and one more in what holds values of that nesting.
abbrev pub decreases-value_end : goal.decreases-value_end
decreases-value_end l = 2 * l.depth

abbrev pub decreases-container_end : goal.decreases-container_end
decreases-container_end l = 2 * l.depth + 1

abbrev pub invariant-container_end-loop-next : goal.invariant-container_end-loop-next
invariant-container_end-loop-next l = Held l.container l.depth l.s l.e (container_end l.container (value l.depth l.s) l.s l.at)

abbrev pub decreases-container_end-loop-next : goal.decreases-container_end-loop-next
decreases-container_end-loop-next l = length l.s - l.e
