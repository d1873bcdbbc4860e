-- `crc32::table::front_with` meets its contract: the byte is looked up in the row of the length that follows it.
-- Assumes nothing.
use Prim.Native.Nat.{ℕ, ◌/◌, ◌<◌}
use native.Mathlib.Omega.{arith}
use mathlib.Core.Path.{ap}
use lib.Bits.{bit_xor}
use lib.ListN.{length}
use Rattle.crc32.proofs.Filled.{byte-row}
use Rattle.crc32.proofs.table.front_with.Goals as goal

pub returns-then-n-table : goal.returns-then-n-table
returns-then-n-table c =
    let s = c in
    let a = s.args in
    let t = a.table.now in
    let l : a.n < length t / 256 = omega arith in
    ap (λ (x : ℕ). bit_xor x a.s) (byte-row t s.requires _ a.n a.b l (omega (arith, s.ranges.b.fits)) (omega arith))
