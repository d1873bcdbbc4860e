-- `lay_side` meets its contract: the first entry is laid, and then, at each turn, a comma and the next one.
use Rattle.std.proofs.Common.{◌+◌, ◌<◌, drop, sym, ap, subst, arith}
use Rattle.level.specs.Kept.{held}
use Rattle.writer.specs.Parts.{entry, next_entry, Writable}
use Rattle.writer.proofs.Owed.{owed-as, owed-rest-as, room-first-as, put-none}
use Rattle.writer.proofs.Entries.{level_in, led, led-next, led-end, writable-at, entries-some, entries_none}
use Rattle.writer.proofs.laying.lay_side.Goals as goal

pub returns-then-count-eq0 : goal.returns-then-count-eq0
returns-then-count-eq0 c = let a = c.args in put-none (owed-as (entries_none a.stamped a.levels c.requires.0 c.if-count-eq0.true) c.requires.1)

pub lay_entry-end-requires : goal.lay_entry-end-requires
lay_entry-end-requires c =
    let a = c.args in
    let some : 0 < a.levels.count = omega arith in
    let owed = owed-as (entries-some a.stamped a.levels c.requires.0 some) c.requires.1 in (
      subst Writable (sym c.level_in.ensures) (writable-at a.stamped a.levels c.requires.0 0 some),
      room-first-as (entry a.stamped (level_in a.levels 0)) (led a.stamped (drop 1 (held a.levels))) (ap (entry a.stamped) c.level_in.ensures) owed,
    )

pub loop-i-init : goal.loop-i-init
loop-i-init c =
    let a = c.args in
    let owed = owed-as (entries-some a.stamped a.levels c.requires.0 (omega arith)) c.requires.1 in
    owed-rest-as (ap (entry a.stamped) c.level_in.ensures) owed c.lay_entry-end.ensures

pub lay_next-end-requires : goal.lay_next-end-requires
lay_next-end-requires c =
    let a = c.args in
    let t = c.loop-i in
    let owed = rw (led-next a.stamped a.levels c.requires.0 t.i c.loop-i-test.true) at t.invariant in (
      subst Writable (sym c.level_in-in-loop-i.ensures) (writable-at a.stamped a.levels c.requires.0 t.i c.loop-i-test.true),
      room-first-as (next_entry a.stamped (level_in a.levels t.i)) (led a.stamped (drop (t.i + 1) (held a.levels))) (ap (next_entry a.stamped) c.level_in-in-loop-i.ensures) owed,
    )

pub loop-i-preserved : goal.loop-i-preserved
loop-i-preserved c =
    let a = c.args in
    let t = c.loop-i in
    let owed = rw (led-next a.stamped a.levels c.requires.0 t.i c.loop-i-test.true) at t.invariant in
    owed-rest-as (ap (next_entry a.stamped) c.level_in-in-loop-i.ensures) owed c.lay_next-end.ensures

pub returns : goal.returns
returns c =
    let a = c.args in
    put-none (rw (led-end a.stamped a.levels c.requires.0 c.loop-i.i (omega arith)) at c.loop-i.invariant)
