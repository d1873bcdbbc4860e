-- `with_order` meets its contract: the order that was found is read, put, and counted by what was read.
use mathlib.Core.Bool.{Bool, true, false, not, true≢false}
use mathlib.Core.Path.{◌≡◌, refl, sym, ◌∙◌}
use Rattle.order_arrays.proofs.Counting.{counted-order, counted-after, counted_none}
use Rattle.order_arrays.proofs.with_order.Goals as goal

true-of : {b : Bool} → not b ≡ false → b ≡ true
true-of {b = true} h = refl
true-of {b = false} h = absurd (true≢false h)

false-of : {b : Bool} → not b ≡ true → b ≡ false
false-of {b = true} h = absurd (true≢false (sym h))
false-of {b = false} h = refl

pub put-requires : goal.put-requires
put-requires c = let read = c.read_order-read.ensures in (c.requires.2, read.price, read.size)

pub count-requires : goal.count-requires
count-requires c = c.requires.1

pub returns : goal.returns
returns c =
    let a = c.args in
    let read = c.read_order-read in
    counted-order a.s.now a.side a.before a.found a.buffer.now c.if-not-found.false (true-of c.if-not-before.false) read.result read.ensures c.count.result
    (c.count.ensures ∙ rw c.is_some.ensures refl)
    _ c.put.ensures

pub returns-then-not-before : goal.returns-then-not-before
returns-then-not-before c =
    let a = c.args in
    counted-after a.s.now a.side a.before a.found a.buffer.now c.if-not-found.false (false-of c.if-not-before.true) c.requires.2

pub returns-then-not-found : goal.returns-then-not-found
returns-then-not-found c =
    let a = c.args in
    counted_none a.s.now a.side a.before a.found a.buffer.now c.if-not-found.true c.requires.2 c.not_orders.result c.not_orders.ensures
