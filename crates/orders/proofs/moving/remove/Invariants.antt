use mathlib.Core.Path.{◌≡◌}
use lib.ListN.{length}
use Rattle.orders.specs.Words.{orders_in}
use Rattle.level.proofs.Shift.{down}
use Rattle.orders.proofs.moving.remove.Given as goal

abbrev pub invariant-loop-j : goal.invariant-loop-j
invariant-loop-j l = (orders_in l.words ≡ down (orders_in l.initial.words) l.at l.j) × (length l.words ≡ length l.initial.words)
