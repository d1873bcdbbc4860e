-- `lay_side` meets its contract: the first order is laid, and then, at each turn, a comma and the next one.
use Rattle.std.proofs.Common.{◌+◌, ◌<◌, drop, sym, ap, subst, arith}
use Rattle.orders.specs.Words.{held, Sound}
use Rattle.writer.proofs.Owed.{owed-as, owed-rest-as, room-first-as, put-none}
use Rattle.order_writer.specs.Parts.{entry, next_entry}
use Rattle.order_writer.proofs.Parts.{order_in, led, led-next, led-end, sound-at, entries-some, entries_none}
use Rattle.order_writer.proofs.laying.lay_side.Goals as goal

pub returns-then-n-eq0 : goal.returns-then-n-eq0
returns-then-n-eq0 c = let a = c.args in put-none (owed-as (entries_none a.words.now a.n c.requires.0 c.if-n-eq0.true) c.requires.1)

pub order_at-requires : goal.order_at-requires
order_at-requires c = let some : 0 < c.args.n = omega arith in omega (arith, some, c.requires.0.room)

pub lay_order-end-requires : goal.lay_order-end-requires
lay_order-end-requires c =
    let a = c.args in
    let some : 0 < a.n = omega arith in
    let owed = owed-as (entries-some a.words.now a.n c.requires.0 some) c.requires.1 in (
      subst Sound (sym c.order_at.ensures) (sound-at a.words.now a.n c.requires.0 0 some),
      room-first-as (entry (order_in a.words.now 0)) (led (drop 1 (held a.words.now a.n))) (ap entry c.order_at.ensures) owed,
    )

pub loop-i-init : goal.loop-i-init
loop-i-init c =
    let a = c.args in
    let owed = owed-as (entries-some a.words.now a.n c.requires.0 (omega arith)) c.requires.1 in
    owed-rest-as (ap entry c.order_at.ensures) owed c.lay_order-end.ensures

pub order_at-requires-in-loop-i : goal.order_at-requires-in-loop-i
order_at-requires-in-loop-i c = omega (arith, c.requires.0.room, c.loop-i-test.true)

pub lay_next-end-requires : goal.lay_next-end-requires
lay_next-end-requires c =
    let a = c.args in
    let t = c.loop-i in
    let owed = rw (led-next a.words.now a.n c.requires.0 t.i c.loop-i-test.true) at t.invariant in (
      subst Sound (sym c.order_at-in-loop-i.ensures) (sound-at a.words.now a.n c.requires.0 t.i c.loop-i-test.true),
      room-first-as (next_entry (order_in a.words.now t.i)) (led (drop (t.i + 1) (held a.words.now a.n))) (ap next_entry c.order_at-in-loop-i.ensures) owed,
    )

pub loop-i-preserved : goal.loop-i-preserved
loop-i-preserved c =
    let a = c.args in
    let t = c.loop-i in
    let owed = rw (led-next a.words.now a.n c.requires.0 t.i c.loop-i-test.true) at t.invariant in
    owed-rest-as (ap next_entry c.order_at-in-loop-i.ensures) owed c.lay_next-end.ensures

pub returns : goal.returns
returns c =
    let a = c.args in
    put-none (rw (led-end a.words.now a.n c.requires.0 c.loop-i.i (omega arith)) at c.loop-i.invariant)
