-- `skip_blocks` meets its contract: from a turn on the byte stands where it stands from the start, since no block that is passed has it.
use mathlib.Core.Path.{refl, sym, ◌∙◌}
use native.Mathlib.Omega.{arith}
use borrow.Author.Tests.{ltb-false}
use lib.ListN.{drop}
use Rattle.lines.specs.Lines.{bytes_before}
use Rattle.lines.proofs.Before.{skipped}
use Rattle.lines.proofs.skip_blocks.Goals as goal

pub loop-i-init : goal.loop-i-init
loop-i-init c = let p = c.requires in (omega arith, p, refl)

pub returns-then-is_in_block : goal.returns-then-is_in_block
returns-then-is_in_block c = c.loop-i.invariant

pub loop-i-preserved : goal.loop-i-preserved
loop-i-preserved c =
    let a = c.args in
    let s = a.s.now in
    let l = c.loop-i in
    let none = ltb-false (bytes_before a.b (drop l.i s)) 16 (sym c.is_in_block.ensures ∙ c.if-is_in_block.false) in
    (omega arith, omega arith, skipped s l.i 16 a.b none ∙ l.invariant.2)

pub returns : goal.returns
returns c = c.loop-i.invariant
