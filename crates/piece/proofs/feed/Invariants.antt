use Prim.Native.Nat.{◌+◌}
use mathlib.Core.Path.{◌≡◌}
use lib.ListN.{length}
use Rattle.decimal.specs.Tail.{remaining}
use Rattle.piece.proofs.Sums.{ahead}
use Rattle.piece.proofs.feed.Given as goal

abbrev pub invariant-loop-byte : goal.invariant-loop-byte
invariant-loop-byte l =
    (ahead (remaining l.rest) l.fed ≡ ahead (remaining l.fn.tail) l.fn.piece) × (l.fed.length + length (remaining l.rest) ≡ l.fn.piece.length + length (remaining l.fn.tail))

abbrev pub decreases-loop-byte : goal.decreases-loop-byte
decreases-loop-byte l = length (remaining l.rest)
