-- `sum_orders` meets its contract: what is left to sum, from a turn on, gives what the whole gives.
use Prim.Native.Nat.{ℕ, ◌*◌}
use mathlib.Core.Path.{sym, ap, ap₂, ◌∙◌}
use lib.Bits.{bit_xor}
use Rattle.crc32_spec.specs.Crc.{bits}
use Rattle.checksum.specs.Carried.{summed}
use Rattle.order_checksum.proofs.Orders.{held-levels, order-turn, orders-done}
use Rattle.order_checksum.proofs.sum_orders.Goals as goal

pub loop-i-preserved : goal.loop-i-preserved
loop-i-preserved c =
    let a = c.args in
    let t = c.loop-i in
    order-turn a.words.now a.n c.requires.0 t.i t.sum c.combine_with-sum.result c.order_at.result c.loop-i-test.true c.order_at.ensures
    (c.combine_with-sum.ensures ∙ ap₂ (λ (n x : ℕ). bit_xor (bits (8 * n) t.sum) x) c.length_of.ensures c.sum_of.ensures)
    ∙ t.invariant

pub returns : goal.returns
returns c =
    let a = c.args in
    let t = c.loop-i in
    sym (orders-done a.words.now a.n c.requires.0 t.i t.sum c.loop-i-test.false)
    ∙ t.invariant ∙ ap (summed a.state) (sym (held-levels a.words.now a.n c.requires.0))
