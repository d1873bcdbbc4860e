-- What an entry of a message does to a side of the book, as document 01 has it under "Applying a message". Assumes nothing: these are definitions.
use Rattle.std.specs.Prelude.{Bool, true, false, cond, List, [], ◌∷◌}
use Rattle.decimal.specs.Decimal.{Number, is_zero}
use Rattle.edit.specs.declared.Side.{Side}
use Rattle.edit.specs.declared.Side.TheVariants.{Bids, Asks}

-- A level of the book as the book shows it: a price and a size, each with its text.
pub record PriceLevel : Type 0 where
  pub price : Number
  pub size : Number

abbrev pub shown_price : PriceLevel → Number
shown_price level = level.price

-- An entry for one side (01: "carries a level to set or to remove"): it sets a level, text included, or removes the level at a price.
pub data Edit (A : Type 0) : Type 0 where
  sets : A → Edit A
  removes : Number → Edit A

-- The price that it names; `priceOf` is the price of a level.
unfoldable pub named : {A : Type 0} → (A → Number) → Edit A → Number
named price_of (sets x) = price_of x
named price_of (removes p) = p

-- What an entry says in numbers.
pub record Numbers : Type 0 where
  pub side : Side
  pub price : Number
  pub size : Number

-- A size of zero removes the level at the price; any other sets it.
unfoldable pub edit_of : Numbers → Edit PriceLevel
edit_of e = cond (is_zero e.size) (removes e.price) (sets (record { price = e.price; size = e.size }))

-- Those of a list that are for one side.
unfoldable pub is_same : Side → Side → Bool
is_same Bids Bids = true
is_same Bids Asks = false
is_same Asks Bids = false
is_same Asks Asks = true

unfoldable pub for_side : {A : Type 0} → (A → Side) → Side → List A → List A
for_side side_of side [] = []
for_side side_of side (a ∷ l) = cond (is_same (side_of a) side) (a ∷ for_side side_of side l) (for_side side_of side l)

abbrev pub side_of : Numbers → Side
side_of e = e.side
