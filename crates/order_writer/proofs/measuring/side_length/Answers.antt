-- `side_length` meets its contract: a comma and an order at each turn, and the first has no comma.
use Rattle.std.proofs.Common.{length, sym, ap, ◌∙◌, subst, arith}
use Rattle.orders.specs.declared.Order.{Order}
use Rattle.orders.specs.Words.{Sound}
use Rattle.order_writer.specs.Parts.{entry}
use Rattle.order_writer.proofs.Parts.{length-led, led-end, sound-at, length-entries}
use Rattle.order_writer.proofs.measuring.side_length.Goals as goal

pub order_at-requires : goal.order_at-requires
order_at-requires c = omega (arith, c.requires.room, c.loop-i-test.true)

pub order_length-requires : goal.order_length-requires
order_length-requires c = subst Sound (sym c.order_at.ensures) (sound-at c.args.words.now c.args.n c.requires c.loop-i.i c.loop-i-test.true)

pub loop-i-preserved : goal.loop-i-preserved
loop-i-preserved c =
    let a = c.args in
    let l = length-led a.words.now a.n c.requires c.loop-i.i c.loop-i-test.true in
    let e = c.order_length.ensures.0 ∙ ap (λ (x : Order). length (entry x)) c.order_at.ensures in
    let m = c.order_length.ensures.1 in
    let v = c.loop-i.invariant in
    (omega arith, omega arith)

pub returns : goal.returns
returns c =
    let a = c.args in
    let v = c.loop-i.invariant in
    let z = ap length (led-end a.words.now a.n c.requires c.loop-i.i (omega arith)) in
    let l = length-entries a.words.now a.n c.requires in
    let f = c.requires.few in
    (omega arith, omega arith)
