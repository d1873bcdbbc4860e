-- The words that orders are kept in: six an order. Assumes nothing: these are definitions.
use Rattle.std.specs.Prelude.{ℕ, ◌*◌, ◌≡◌, Bool, true, false, List, map, take, drop}
use Rattle.decimal.specs.Decimal.{Number}
use Rattle.decimal.specs.Limits.{Within}
use Rattle.settings.specs.declared.SumText.TheVariants.{Stripped}
use Rattle.edit.specs.Edit.{for_side}
use Rattle.edit.specs.declared.Side.{Side}
use Rattle.level.specs.Words.{level_of, level_price, level_size, no_level}
use Rattle.level.specs.declared.Level.{Level}
use Rattle.checksum.specs.Carried.{level_for}
use Rattle.order_edit.specs.Ids.{id_bytes, id_words, Packed}
use Rattle.order_edit.specs.Buffer.{OrderEntry, entry_side, three_words, by_sixes}
use Rattle.orders.specs.declared.Order.{Order}
use Rattle.orders.specs.Orders.{SingleOrder, View, Entry, adds, entry_of}

-- ---- an order of the code

abbrev pub order_price : Order → Number
order_price x = level_price x.level

abbrev pub order_size : Order → Number
order_size x = level_size x.level

-- The id as three words: two orders have one id where these are equal.
abbrev pub order_id : Order → List ℕ
order_id x = id_words x.id

-- The level of a price and a size, with the sum and the length of its piece of checksum text, "stripped as in K".
abbrev pub level_of_order : Number → Number → Level
level_of_order price size = level_for Stripped price size

-- An order with the size of another, and with the sum of its piece.
unfoldable pub resized_order : Order → Order → Order
resized_order x y = record { level = level_of_order (order_price x) (order_size y); id = x.id }

abbrev pub coded : View Order
coded = record { id = order_id; price = order_price; resized = resized_order }

-- What an order of the code shows.
unfoldable pub shown : Order → SingleOrder
shown x = record { id = id_bytes x.id; price = order_price x; size = order_size x }

-- What holds of every order that is kept: its numbers keep the limits, its level carries the sum of its own piece, and its id's words have the bytes of an id.
pub record Sound (x : Order) : Type 0 where
  pub price : Within (order_price x)
  pub size : Within (order_size x)
  pub carries : x.level ≡ level_of_order (order_price x) (order_size x)
  pub packed : Packed x.id

-- ---- words

abbrev pub six_words : ℕ → ℕ → ℕ → ℕ → ℕ → ℕ → Order
six_words price size rest first second third = record { level = level_of price size rest; id = three_words first second third }

-- The orders that a list of words holds, six words each: three of the level, three of the id.
unfoldable pub orders_in : List ℕ → List Order
orders_in words = by_sixes six_words words

-- The orders of a side, best first: the first n of the words.
unfoldable pub held : List ℕ → ℕ → List Order
held words n = take n (orders_in words)

-- The words past the first n orders.
abbrev pub words_past : ℕ → List ℕ → List ℕ
words_past n words = drop (6 * n) words

-- What stands past the last order of a list, where a definition has to say something.
abbrev pub no_order : Order
no_order = record { level = no_level; id = three_words 0 0 0 }

-- ---- entries

-- What holds of every entry that was read.
pub record EntrySound (e : OrderEntry) : Type 0 where
  pub price : Within e.price
  pub size : Within e.size
  pub packed : Packed e.id

-- The order that an entry names.
unfoldable pub order_for : OrderEntry → Order
order_for e = record { level = level_of_order e.price e.size; id = e.id }

-- What it does: in a snapshot, whose orders are listed, `event` is passed over.
unfoldable pub change_of : Bool → OrderEntry → Entry Order
change_of true e = adds (order_for e)
change_of false e = entry_of e.event (order_for e)

-- What the entries of a message do to one side: those for it, in their order.
unfoldable pub changes_for : Bool → Side → List OrderEntry → List (Entry Order)
changes_for listed side es = map (change_of listed) (for_side entry_side side es)

-- The orders that they name.
unfoldable pub orders_for : Side → List OrderEntry → List Order
orders_for side es = map order_for (for_side entry_side side es)

-- The same of orders as they are shown.
unfoldable pub shown_order : OrderEntry → SingleOrder
shown_order e = record { id = id_bytes e.id; price = e.price; size = e.size }

unfoldable pub shown_change : OrderEntry → Entry SingleOrder
shown_change e = entry_of e.event (shown_order e)

unfoldable pub shown_changes_for : Side → List OrderEntry → List (Entry SingleOrder)
shown_changes_for side es = map shown_change (for_side entry_side side es)

unfoldable pub shown_orders_for : Side → List OrderEntry → List SingleOrder
shown_orders_for side es = map shown_order (for_side entry_side side es)
