use mathlib.Core.Path.{◌≡◌}
use Prim.Native.Nat.{◌+◌, ◌-◌, ◌*◌, ◌≤◌}
use lib.Bits.{bit_xor}
use Rattle.crc32_spec.specs.Crc.{bits}
use Rattle.crc32_spec.proofs.Rows.{left}
use Rattle.crc32_tables_long.proofs.moved1.Given as goal

abbrev pub invariant-loop-j : goal.invariant-loop-j
invariant-loop-j l = (l.j ≤ 8) × (bit_xor l.sum (left (28 + l.n) l.s l.j) ≡ bits (8 * (28 + l.n)) l.s)

abbrev pub decreases-loop-j : goal.decreases-loop-j
decreases-loop-j l = 8 - l.j
