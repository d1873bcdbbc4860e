-- The orders of a message of dialect L, as request c has them: those of `bids` and of `asks` in the object that is `data`'s one element.
-- Assumes nothing: these are definitions.
use Rattle.std.specs.Prelude.{ℕ, ◌-◌, cond, List, [], ◌∷◌, map, Option, Some}
use Rattle.text.specs.Text.{ascii}
use Rattle.edit.specs.declared.Side.{Side}
use Rattle.edit.specs.declared.Side.TheVariants.{Bids, Asks}
use Rattle.json_values.specs.Json.{Span, Pair}
use Rattle.json_values.specs.Names.{means}
use Rattle.json_values.specs.Fold.{fold_from}
use Rattle.entries.specs.Places.{and_then, and_also}
use Rattle.layout.specs.Depths.{side_depth}
use Rattle.order_edit.specs.Buffer.{OrderEntry}
use Rattle.order_entries.specs.Rows.{OrderRow}
use Rattle.order_entries.specs.Saying.{entry_at}
use Rattle.order_arrays.specs.Tally.{orders_at, one_more, none_yet}
use Rattle.order_arrays.specs.declared.OrderTally.{OrderTally}

-- How deep arrays and objects may nest in the object in `data`, and in a member of it, as a side's array of orders is one.
abbrev pub object_depth : ℕ
object_depth = side_depth

abbrev pub orders_depth : ℕ
orders_depth = object_depth - 1

-- An order of a message, for its side.
pub record SidedOrder : Type 0 where
  pub side : Side
  pub row : OrderRow

abbrev pub sided_order : Side → OrderRow → SidedOrder
sided_order side r = record { side = side; row = r }

unfoldable pub sided_orders_at : Side → List ℕ → Span → Option (List SidedOrder)
sided_orders_at side s a = and_then (orders_at orders_depth s a) (λ rows. Some (map (sided_order side) rows))

-- The orders that a member holds, by its name.
unfoldable pub member_orders : List ℕ → Pair → Option (List SidedOrder)
member_orders s m =
    cond (means s m.name (ascii "bids")) (sided_orders_at Bids s m.value)
    (cond (means s m.name (ascii "asks")) (sided_orders_at Asks s m.value) (Some []))

-- Those that the members of an object hold, in their order.
unfoldable pub orders_in : List ℕ → List Pair → Option (List SidedOrder)
orders_in s [] = Some []
orders_in s (m ∷ ms) = and_also (member_orders s m) (orders_in s ms)

-- What an order says.
abbrev pub entry_of : List ℕ → SidedOrder → OrderEntry
entry_of s o = entry_at s o.side o.row

-- What is told of them.
abbrev pub one_sided : List ℕ → OrderTally → SidedOrder → OrderTally
one_sided s t o = one_more s o.side t o.row

abbrev pub tally_of : List ℕ → List SidedOrder → OrderTally
tally_of s os = fold_from (one_sided s) none_yet os
