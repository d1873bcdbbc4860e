-- `remove` meets its contract: the shift is known in closed form.
use Prim.Native.Nat.{ℕ, suc, ◌-◌}
use mathlib.Core.Path.{◌≡◌, refl, ap, ◌∙◌}
use mathlib.Core.List.{◌++◌}
use native.Mathlib.Omega.{arith}
use lib.ListN.{set, take, drop}
use Rattle.orders.specs.Words.{orders_in, no_order, held}
use Rattle.orders.proofs.Held.{orders-room}
use Rattle.level.proofs.Shift.{down, down-start, down_turn, down-end}
use Rattle.orders.proofs.moving.remove.Goals as goal

pub loop-j-init : goal.loop-j-init
loop-j-init c =
    let a = c.args in
    (down-start (orders_in a.words.now) a.at (omega (arith, c.requires.1, orders-room a.count a.words.now c.requires.0)), refl)

pub loop-j-preserved : goal.loop-j-preserved
loop-j-preserved c =
    let a = c.args in
    let p = c.loop-j in
    let t = c.loop-j-test.true in
    let w = c.put_order.ensures in (
      w.orders ∙ ap (set (orders_in p.words) p.j) c.order_at.ensures
          ∙ down_turn (orders_in a.words.now) (orders_in p.words) a.at p.j no_order (omega arith) (omega (arith, t, orders-room a.count a.words.now c.requires.0)) p.invariant.0,
      w.room ∙ p.invariant.1,
    )

pub returns : goal.returns
unfolding held
returns c =
    let s = c.args in
    let p = c.loop-j in
    let m = s.count - 1 in
    let e : p.j ≡ m = omega (arith, c.loop-j-test.false, c.requires.1) in
    let n : suc m ≡ s.count = omega (arith, c.requires.1) in
    let a = orders_in s.words.now in
    record {
      room = p.invariant.1;
      orders =
          ap (take m) (p.invariant.0 ∙ ap (down a s.at) e)
          ∙ down-end a s.at m (omega (arith, c.requires.1)) (omega (arith, c.requires.1, orders-room s.count s.words.now c.requires.0))
          ∙ ap (λ (i : ℕ). take s.at (take i a) ++ drop (suc s.at) (take i a)) n;
    }
