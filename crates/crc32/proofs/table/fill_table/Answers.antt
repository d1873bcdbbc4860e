-- `crc32::table::fill_table` meets its contract: a turn makes one entry more right.
-- Assumes nothing.
use Prim.Native.Nat.{◌<◌}
use native.Mathlib.Omega.{arith}
use lib.ListN.{length, length-set}
use mathlib.Core.Path.{refl, ◌∙◌}
use Rattle.crc32.proofs.Filled.{filled_more}
use Rattle.crc32.proofs.table.fill_table.Goals as goal

pub loop-i-init : goal.loop-i-init
loop-i-init c = (omega arith, refl, λ k l. omega arith)

pub loop-i-preserved : goal.loop-i-preserved
loop-i-preserved c =
    let w = c.loop-i in
    let l : w.i < length w.table = omega arith in
    let n = length-set w.table w.i c.shift.result in
    (omega arith, n ∙ w.invariant.1, filled_more w.table w.i c.shift.result l c.shift.ensures w.invariant.2)

pub returns : goal.returns
returns c =
    let w = c.loop-i in
    record { long = w.invariant.1; right = record { holds = λ k l. w.invariant.2 k (omega arith) } }
