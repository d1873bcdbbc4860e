-- `side_length` meets its contract: a comma and an entry at each turn, and the first has no comma.
use Rattle.std.proofs.Common.{length, sym, ap, ◌∙◌, subst, arith}
use Rattle.level.specs.declared.Level.{Level}
use Rattle.writer.specs.Parts.{entry, Writable}
use Rattle.writer.proofs.Entries.{length-led, led-end, writable-at, length-entries}
use Rattle.writer.proofs.measuring.side_length.Goals as goal

pub entry_length-requires : goal.entry_length-requires
entry_length-requires c = subst Writable (sym c.level_in.ensures) (writable-at c.args.stamped c.args.levels.now c.requires c.loop-i.i c.loop-i-test.true)

pub loop-i-preserved : goal.loop-i-preserved
loop-i-preserved c =
    let a = c.args in
    let l = length-led a.stamped a.levels.now c.requires c.loop-i.i c.loop-i-test.true in
    let e = c.entry_length.ensures.0 ∙ ap (λ (level : Level). length (entry a.stamped level)) c.level_in.ensures in
    let m = c.entry_length.ensures.1 in
    let v = c.loop-i.invariant in
    (omega arith, omega arith)

pub returns : goal.returns
returns c =
    let a = c.args in
    let v = c.loop-i.invariant in
    let z = ap length (led-end a.stamped a.levels.now c.requires c.loop-i.i (omega arith)) in
    let l = length-entries a.stamped a.levels.now c.requires in
    let f = c.requires.few in
    (omega arith, omega arith)
