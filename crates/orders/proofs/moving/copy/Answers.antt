-- `copy` meets its contract: the orders passed are the same, and the words past them as they were.
use Prim.Native.Nat.{◌+◌, ◌*◌}
use mathlib.Core.Path.{◌≡◌, ap, ◌∙◌}
use native.Mathlib.Omega.{arith}
use lib.ListN.{set, take}
use Rattle.orders.specs.Words.{orders_in, no_order, held}
use Rattle.orders.proofs.Held.{orders-room}
use Rattle.level.proofs.Shift.{copied, drop-on}
use Rattle.orders.proofs.moving.copy.Goals as goal

pub loop-i-preserved : goal.loop-i-preserved
loop-i-preserved c =
    let a = c.args in
    let p = c.loop-i in
    let t = c.loop-i-test.true in
    let w = c.put_order.ensures in
    let six : 6 * (p.i + 1) ≡ 6 * p.i + 6 = omega arith in (
      w.room ∙ p.invariant.0,
      ap (take (p.i + 1)) (w.orders ∙ ap (set (orders_in p.words) p.i) c.order_at.ensures)
          ∙ copied (orders_in a.source.now) (orders_in p.words) p.i no_order (omega (arith, t, orders-room a.count a.source.now c.requires.0)) (omega (arith, t, orders-room a.count p.words (omega (arith, c.requires.1, p.invariant.0)))) p.invariant.1,
      rw six (w.past ∙ drop-on p.words a.words.now (6 * p.i) 6 p.invariant.2),
    )

pub returns : goal.returns
unfolding held
returns c =
    let p = c.loop-i in
    let e : p.i ≡ c.args.count = omega (arith, c.loop-i-test.false) in
    record {
      room = p.invariant.0;
      orders = rw e at p.invariant.1;
      past = rw e at p.invariant.2;
    }
