use Rattle.std.proofs.Common.{drop}
use Rattle.level.specs.Kept.{held}
use Rattle.writer.specs.Parts.{entries}
use Rattle.writer.proofs.Owed.{Whole}
use Rattle.writer.proofs.Entries.{led}
use Rattle.writer.proofs.laying.lay_side.Given as goal

abbrev pub invariant-loop-i : goal.invariant-loop-i
invariant-loop-i l =
    Whole l.fn.buffer l.at (entries l.stamped l.levels) l.buffer l.end (led l.stamped (drop l.i (held l.levels)))
