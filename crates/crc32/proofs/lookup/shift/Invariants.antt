use Prim.Native.Nat.{◌*◌}
use mathlib.Core.Path.{◌≡◌}
use Rattle.crc32_spec.specs.Crc.{bits}
use Rattle.crc32.proofs.lookup.shift.Given as goal

abbrev pub invariant-loop-left : goal.invariant-loop-left
invariant-loop-left l = bits (8 * l.left) l.state ≡ bits (8 * l.n) l.s

abbrev pub decreases-loop-left : goal.decreases-loop-left
decreases-loop-left l = l.left
