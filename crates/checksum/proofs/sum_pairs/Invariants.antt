use Prim.Native.Nat.{◌-◌}
use mathlib.Core.Path.{◌≡◌}
use lib.ListN.{take, drop}
use Rattle.level.specs.Words.{levels_in}
use Rattle.checksum.specs.Text.{interleaved}
use Rattle.checksum.specs.Carried.{summed}
use Rattle.checksum.proofs.sum_pairs.Given as goal

abbrev pub invariant-loop-i : goal.invariant-loop-i
invariant-loop-i l =
    summed l.sum (interleaved (l.n - l.i) (drop l.i (take l.n (levels_in l.bids))) (drop l.i (take l.n (levels_in l.asks))))
    ≡ summed l.state (interleaved l.n (take l.n (levels_in l.bids)) (take l.n (levels_in l.asks)))
