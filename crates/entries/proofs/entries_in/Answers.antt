-- `entries_in` meets its contract: wherever the loop stands, the elements that were passed were met, and what is left of the array is the rest of them.
use Prim.Native.Nat.{suc, ◌-◌}
use mathlib.Core.Path.{◌≡◌, sym, ◌∙◌}
use native.Mathlib.Omega.{arith}
use Rattle.entries.proofs.Arrays.{going-empty, going_start, going-further, going_on, going-closed, going-wrong}
use Rattle.entries.proofs.entries_in.Goals as goal
use Rattle.entries.proofs.entries_in.Goals.{Start}

-- what is given
module _ (c : Start) where
  deep : suc (c.args.depth - 1) ≡ c.args.depth
  deep = let h = c.requires in omega arith

pub returns-in-Some : goal.returns-in-Some
returns-in-Some c =
    let b = (goal.at.returns-in-Some c).Start in
    let a = b.args in
    let p = b.requires in
    going-empty a.base a.s.now (a.depth - 1) a.form a.side a.before a.buffer.now p.4 p.1 a.depth (deep b) p.3 c.in-Some.end (sym c.in-Some.ensures)

pub loop-form-init : goal.loop-form-init
loop-form-init c =
    let b = c in
    let a = b.args in
    let p = b.requires in
    going_start a.base a.s.now (a.depth - 1) a.form a.side a.before a.buffer.now p.4 p.1 (sym c.array_close_end.ensures ∙ c.in_default.is) c.skip_blanks-i.result c.skip_blanks-i.ensures

pub next_entry-more-requires : goal.next_entry-more-requires
next_entry-more-requires c = let p = c.requires in let g = c.loop-form.invariant in (omega arith, g.few, p.2, g.room)

pub returns-then-past-eq0 : goal.returns-then-past-eq0
returns-then-past-eq0 c =
    let b = (goal.at.returns-then-past-eq0 c).Start in
    let a = b.args in
    rw c.told_not.ensures
    (going-wrong a.base a.s.now (a.depth - 1) a.form a.side a.before a.buffer.now c.loop-form.invariant c.next_entry-more.ensures a.depth (deep b) b.requires.3 c.if-past-eq0.true)

pub returns-in_default-comma_end : goal.returns-in_default-comma_end
returns-in_default-comma_end c =
    let b = (goal.at.returns-in_default-comma_end c).Start in
    let a = b.args in
    rw c.closed.ensures
    (going-closed a.base a.s.now (a.depth - 1) a.form a.side a.before a.buffer.now c.loop-form.invariant c.next_entry-more.ensures c.if-past-eq0.false
    a.depth (deep b) b.requires.3 (sym c.comma_end.ensures ∙ c.in_default-comma_end.is) c.array_close_end-in_default-comma_end.result c.array_close_end-in_default-comma_end.ensures)

pub loop-form-smaller : goal.loop-form-smaller
loop-form-smaller c =
    let a = c.args in
    let f = going-further a.base a.s.now (a.depth - 1) a.form a.side a.before a.buffer.now c.loop-form.invariant c.next_entry-more.ensures c.if-past-eq0.false c.in-Some-comma_end.next (sym c.in-Some-comma_end.ensures) in
    omega arith

pub loop-form-preserved : goal.loop-form-preserved
loop-form-preserved c =
    let a = c.args in
    going_on a.base a.s.now (a.depth - 1) a.form a.side a.before a.buffer.now c.loop-form.invariant c.next_entry-more.ensures c.if-past-eq0.false c.in-Some-comma_end.next (sym c.in-Some-comma_end.ensures)
