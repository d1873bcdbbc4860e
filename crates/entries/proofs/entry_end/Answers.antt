-- `entry_end` meets its contract: a pair closes past its two strings, and a triple past a third string and the rest.
use Prim.Native.Nat.{suc, ◌-◌}
use mathlib.Core.Path.{◌≡◌}
use native.Mathlib.Omega.{arith}
use Rattle.entries.proofs.Entry.{pair_end}
use Rattle.entries.proofs.entry_end.Goals as goal

pub returns-in-Triple : goal.returns-in-Triple
returns-in-Triple c =
    let a = c.args in
    let e : suc (a.depth - 1) ≡ a.depth = omega arith in
    rw c.in-Triple.is (rw e at c.triple_end.ensures)

pub returns-in-Pair : goal.returns-in-Pair
returns-in-Pair c =
    let a = c.args in
    let e : suc (a.depth - 1) ≡ a.depth = omega arith in
    rw c.in-Pair.is (rw e at (pair_end (a.depth - 1) a.s.now a.at c.array_close_end.result c.array_close_end.ensures))
