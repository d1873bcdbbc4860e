-- The checksum text of a book of single orders, as request c has it, over the two sides best first. Assumes nothing: these are definitions.
use Rattle.std.specs.Prelude.{ℕ, List, ◌++◌, map}
use Rattle.text.specs.Text.{joined}
use Rattle.decimal.specs.Decimal.{stripped}
use Rattle.level.specs.declared.Level.{Level}
use Rattle.orders.specs.declared.Order.{Order}
use Rattle.orders.specs.Orders.{SingleOrder, plain, summed}

-- Price then size, each "stripped as in K": without the point, and then without leading zeros.
unfoldable pub order_piece : SingleOrder → List ℕ
order_piece x = stripped x.price ++ stripped x.size

-- "The text runs over the ten best ask prices and then bid prices, order by order."
unfoldable pub order_checksum_text : List SingleOrder → List SingleOrder → List ℕ
order_checksum_text bids asks = joined (map order_piece (summed plain asks ++ summed plain bids))

-- The levels of orders of the code, which carry the sums of their pieces.
abbrev pub levels_of : List Order → List Level
levels_of s = map (λ (x : Order). x.level) s
