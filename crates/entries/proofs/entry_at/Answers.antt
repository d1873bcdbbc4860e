-- `entries::entry_at` meets its contract: past two strings the array ends as the form has it, or the value is no entry.
-- Assumes nothing.
use Prim.Native.Nat.{suc, ◌-◌}
use mathlib.Core.Path.{◌≡◌, ◌∙◌}
use native.Mathlib.Omega.{arith}
use Rattle.entries.specs.declared.Form.TheVariants.{Triple, Pair}
use Rattle.entries.proofs.Entry.{found-ended, found_none, pair_end}
use Rattle.entries.proofs.entry_at.Goals as goal

pub returns-in-Triple : goal.returns-in-Triple
returns-in-Triple c =
    let a = c.args in
    let f = c.two_strings-front in
    let e = c.triple_end in
    let d : suc (a.depth - 1) ≡ a.depth = omega arith in
    rw c.in-Triple.is
    (found-ended Triple a.depth a.s.now a.at f.result (f.ensures.two c.if-front.true) e.result (rw d at e.ensures) c.ended_at.result c.ended_at.ensures)

pub returns-in-Pair : goal.returns-in-Pair
returns-in-Pair c =
    let a = c.args in
    let f = c.two_strings-front in
    let e = c.array_close_end in
    let d : suc (a.depth - 1) ≡ a.depth = omega arith in
    let fits = rw d at (pair_end (a.depth - 1) a.s.now f.result.end e.result e.ensures) in
    rw c.in-Pair.is
    (found-ended Pair a.depth a.s.now a.at f.result (f.ensures.two c.if-front.true) e.result fits c.ended_at-in-Pair.result c.ended_at-in-Pair.ensures)

pub returns : goal.returns
returns c =
    let a = c.args in
    c.passed_over.ensures ∙ found_none a.form a.depth a.s.now a.at (c.two_strings-front.ensures.neither c.if-front.false a.form a.depth)
