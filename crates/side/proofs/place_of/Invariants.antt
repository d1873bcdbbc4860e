use Prim.Native.Nat.{◌-◌, ◌≤◌}
use lib.ListN.{take}
use Rattle.decimal.specs.Decimal.{number, value}
use Rattle.level.specs.Words.{level_price}
use Rattle.side.proofs.Find.{Bracket}
use Rattle.side.proofs.place_of.Given as goal

abbrev pub invariant-find : goal.invariant-find
invariant-find l = Bracket level_price l.side (take l.count l.levels) (value (number l.price)) l.low l.high × (l.high ≤ l.count)

abbrev pub decreases-find : goal.decreases-find
decreases-find l = l.high - l.low
