use Rattle.std.proofs.Common.{drop}
use Rattle.orders.specs.Words.{held}
use Rattle.order_writer.specs.Parts.{entries}
use Rattle.writer.proofs.Owed.{Whole}
use Rattle.order_writer.proofs.Parts.{led}
use Rattle.order_writer.proofs.laying.lay_side.Given as goal

abbrev pub invariant-loop-i : goal.invariant-loop-i
invariant-loop-i l =
    Whole l.fn.buffer l.at (entries l.words l.n) l.buffer l.end (led (drop l.i (held l.words l.n)))
