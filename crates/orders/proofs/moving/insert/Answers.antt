-- `insert` meets its contract: the shift is known in closed form.
use Prim.Native.Nat.{ℕ, ◌+◌, ◌-◌}
use mathlib.Core.Path.{◌≡◌, refl, ap, ◌∙◌}
use mathlib.Core.List.{List}
use native.Mathlib.Numerals.{add-one}
use native.Mathlib.Omega.{arith}
use lib.ListN.{get_or, set, take}
use Rattle.orders.specs.declared.Order.{Order}
use Rattle.orders.specs.Words.{orders_in, no_order, held}
use Rattle.orders.proofs.Held.{orders-room}
use Rattle.level.proofs.Shift.{up, up_start, up_turn, up-end}
use Rattle.orders.proofs.moving.insert.Goals as goal

pub loop-j-init : goal.loop-j-init
loop-j-init c =
    let a = c.args in
    (up_start (orders_in a.words.now) a.count (omega (arith, orders-room (a.count + 1) a.words.now c.requires.0)), c.requires.1, refl)

pub loop-j-preserved : goal.loop-j-preserved
loop-j-preserved c =
    let a = c.args in
    let p = c.loop-j in
    let t = c.loop-j-test.true in
    let w = c.put_order.ensures in
    let back : p.j - 1 + 1 ≡ p.j = omega (arith, t) in (
      w.orders ∙ ap (set (orders_in p.words) (p.j - 1 + 1)) c.order_at.ensures
          ∙ ap (λ (i : ℕ). set (orders_in p.words) i (get_or (orders_in p.words) (p.j - 1) no_order)) back
          ∙ up_turn (orders_in a.words.now) (orders_in p.words) p.j a.count no_order (omega (arith, t)) (omega arith) (omega (arith, orders-room (a.count + 1) a.words.now c.requires.0)) p.invariant.0,
      omega (arith, t),
      w.room ∙ p.invariant.2,
    )

pub returns : goal.returns
unfolding held
returns c =
    let s = c.args in
    let p = c.loop-j in
    let w = c.put_order-2.ensures in
    let e : p.j ≡ s.at = omega (arith, p.invariant.1, c.loop-j-test.false) in
    let a = orders_in s.words.now in
    record {
      room = w.room ∙ p.invariant.2;
      orders =
          ap (take (s.count + 1)) (w.orders ∙ ap (λ (r : List Order). set r s.at s.order) (p.invariant.0 ∙ ap (λ (i : ℕ). up a i s.count) e))
          ∙ ap (λ (i : ℕ). take i (set (up a s.at s.count) s.at s.order)) (add-one s.count)
          ∙ up-end a s.at s.count s.order c.requires.1 (omega (arith, orders-room (s.count + 1) s.words.now c.requires.0));
    }
