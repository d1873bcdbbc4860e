use Rattle.std.proofs.Common.{◌≡◌, ◌-◌, ◌≤◌, length}
use Rattle.decimal.specs.Buffer.{overlaid}
use Rattle.decimal.specs.Tail.{remaining}
use Rattle.decimal.proofs.writing.fill.Given as goal

abbrev pub invariant-loop-byte : goal.invariant-loop-byte
invariant-loop-byte l =
    (overlaid l.buffer (l.i - length (remaining l.rest)) (remaining l.rest) ≡ overlaid l.fn.buffer (l.end - length (remaining l.fn.t)) (remaining l.fn.t))
    × (length (remaining l.rest) ≤ l.i)
    × (l.i ≤ length l.buffer)
    × (length l.buffer ≡ length l.fn.buffer)

abbrev pub decreases-loop-byte : goal.decreases-loop-byte
decreases-loop-byte l = length (remaining l.rest)
