use Rattle.std.proofs.Common.{◌≡◌, ◌+◌, length}
use Rattle.decimal.specs.Tail.{remaining}
use Rattle.decimal.proofs.writing.tail_length.Given as goal

abbrev pub invariant-loop-rest : goal.invariant-loop-rest
invariant-loop-rest l = l.n + length (remaining l.rest) ≡ length (remaining l.fn.t)

abbrev pub decreases-loop-rest : goal.decreases-loop-rest
decreases-loop-rest l = length (remaining l.rest)
