-- Each line ends within the text, past where it begins.
use Rattle.std.proofs.Common.{length, ◌-◌, ◌≤◌}
use Rattle.whyrefused.proofs.tell_lines.Given as goal

abbrev pub invariant-loop-next : goal.invariant-loop-next
invariant-loop-next g l = l.next ≤ length l.s

abbrev pub decreases-loop-next : goal.decreases-loop-next
decreases-loop-next g l = length l.s - l.next
