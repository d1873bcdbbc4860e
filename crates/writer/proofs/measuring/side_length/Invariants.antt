use Rattle.std.proofs.Common.{◌≡◌, ◌+◌, ◌*◌, ◌≤◌, length, drop}
use Rattle.level.specs.Kept.{held}
use Rattle.writer.specs.Parts.{max_entry}
use Rattle.writer.proofs.Entries.{led}
use Rattle.writer.proofs.measuring.side_length.Given as goal

abbrev pub invariant-loop-i : goal.invariant-loop-i
invariant-loop-i l = (l.n + length (led l.stamped (drop l.i (held l.levels))) ≡ length (led l.stamped (held l.levels))) × (l.n ≤ (max_entry + 1) * l.i)
