use mathlib.Core.Path.{◌≡◌}
use mathlib.Core.List.{◌++◌}
use lib.ListN.{take, drop}
use Rattle.decimal.specs.Decimal.{number, value}
use Rattle.decimal.specs.Limits.{Within}
use Rattle.orders.specs.Orders.{best_prices}
use Rattle.orders.specs.Words.{coded}
use Rattle.orders.specs.Words.{held}
use Rattle.orders.proofs.Best.{up_to}
use Rattle.orders.proofs.cutting.cut.Given as goal

abbrev pub invariant-loop-i : goal.invariant-loop-i
invariant-loop-i l =
    Within (number l.price) × (take l.i (held l.words l.count) ++ up_to coded (value (number l.price)) l.more (drop l.i (held l.words l.count)) ≡ best_prices coded l.depth (held l.words l.count))
