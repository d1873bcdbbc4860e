-- `crc32::table::shift_with` meets its contract: each byte is looked up in its row, and the four make the state.
-- Assumes nothing.
use Prim.Native.Nat.{◌/◌, ◌≤◌}
use native.Mathlib.Omega.{arith}
use mathlib.Core.Path.{ap₂, ◌∙◌}
use lib.Bits.{bit_xor}
use lib.ListN.{length}
use Rattle.crc32.proofs.Filled.{looked-up, four_bytes}
use Rattle.crc32.proofs.table.shift_with.Goals as goal

pub returns : goal.returns
returns c =
    let b = c in
    let w = b.before.before.before.before in
    let a = w.args in
    let t = a.table.now in
    let far : 4 ≤ a.n = omega arith in
    let long : a.n ≤ length t / 256 = omega arith in
    let p = c.byte in
    let q = c.byte-2 in
    let r = c.byte-3 in
    let v = c.byte-4 in
    ap₂ bit_xor
    (ap₂ bit_xor
    (ap₂ bit_xor (looked-up t w.requires a.n far long _ 0 p.result (omega arith) p.ensures.1 (omega arith))
    (looked-up t w.requires a.n far long _ 1 q.result (omega arith) q.ensures.1 (omega arith)))
    (looked-up t w.requires a.n far long _ 2 r.result (omega arith) r.ensures.1 (omega arith)))
    (looked-up t w.requires a.n far long _ 3 v.result (omega arith) v.ensures.1 (omega arith))
    ∙ four_bytes a.n a.s p.result q.result r.result v.result far w.ranges.s.fits p.ensures.0 q.ensures.0 r.ensures.0 v.ensures.0
