use Prim.Native.Nat.{◌*◌}
use mathlib.Core.Path.{◌≡◌}
use lib.ListN.{length, take, drop}
use Rattle.orders.specs.Words.{orders_in}
use Rattle.orders.proofs.moving.copy.Given as goal

abbrev pub invariant-loop-i : goal.invariant-loop-i
invariant-loop-i l = (length l.words ≡ length l.initial.words) × (take l.i (orders_in l.words) ≡ take l.i (orders_in l.source)) × (drop (6 * l.i) l.words ≡ drop (6 * l.i) l.initial.words)
