use mathlib.Core.Path.{◌≡◌}
use lib.ListN.{take, drop}
use Rattle.level.specs.Words.{levels_in}
use Rattle.checksum.specs.Carried.{summed}
use Rattle.checksum.proofs.sum_levels.Given as goal

abbrev pub invariant-loop-i : goal.invariant-loop-i
invariant-loop-i l =
    summed l.sum (drop l.i (take l.to (levels_in l.words))) ≡ summed l.state (drop l.from (take l.to (levels_in l.words)))
