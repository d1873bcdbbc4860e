use Prim.Native.Nat.{◌≤◌}
use mathlib.Core.Path.{◌≡◌}
use lib.ListN.{length}
use Rattle.orders.specs.Words.{orders_in}
use Rattle.level.proofs.Shift.{up}
use Rattle.orders.proofs.moving.insert.Given as goal

abbrev pub invariant-loop-j : goal.invariant-loop-j
invariant-loop-j l = (orders_in l.words ≡ up (orders_in l.initial.words) l.j l.count) × (l.at ≤ l.j) × (length l.words ≡ length l.initial.words)
