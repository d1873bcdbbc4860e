-- What contracts and laws say of decimals: their order by value, and the limits that every decimal keeps that was read.
-- Assumes nothing: these are definitions.
use Rattle.std.specs.Prelude.{ℕ, ◌+◌, ◌^◌, ◌<◌, ◌≤◌}
use Rattle.decimal.specs.Decimal.{Number, max_whole, max_decimals, value}
use Rattle.std.specs.declared.cmp.Ordering.{Ordering}
use Rattle.std.specs.Ordering.{nat_cmp}

-- 0 with no decimals, where there is no other number to tell.
abbrev pub no_number : Number
no_number = record { digits = 0; decimals = 0 }

unfoldable pub order_of : ℕ → ℕ → Ordering
order_of x y = nat_cmp x y

unfoldable pub order : Number → Number → Ordering
order a b = order_of (value a) (value b)

-- At most `max_whole` digits before the point and `max_decimals` after it

pub record Within (n : Number) : Type 0 where
  pub few : n.decimals ≤ max_decimals
  pub low : n.digits < 10 ^ (max_whole + n.decimals)
