use Prim.Native.Nat.{◌-◌, ◌≤◌}
use Rattle.decimal.specs.Decimal.{number, value}
use Rattle.orders.specs.Words.{coded}
use Rattle.orders.specs.Words.{held}
use Rattle.orders.proofs.Places.{Bracket}
use Rattle.orders.proofs.searching.place_for.Given as goal

abbrev pub invariant-find : goal.invariant-find
invariant-find l = Bracket coded l.side (held l.words l.count) (value (number l.price)) l.low l.high × (l.high ≤ l.count)

abbrev pub decreases-find : goal.decreases-find
decreases-find l = l.high - l.low
