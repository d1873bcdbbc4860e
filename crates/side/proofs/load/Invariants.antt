use mathlib.Core.Path.{◌≡◌}
use lib.ListN.{length, take}
use Rattle.level.specs.Words.{levels_in}
use Rattle.side.proofs.load.Given as goal

abbrev pub invariant-loop-i : goal.invariant-loop-i
invariant-loop-i l = (length l.levels ≡ 200) × (take l.i l.levels ≡ take l.i (levels_in l.words))
