-- The orders of an array in a message, and what is met of them, order by order: how many there are for each side, whether each has an event, the first text that
-- check 8 refuses in an update and in a snapshot, and the buffer that has what they say. Assumes nothing: these are definitions.
use Rattle.std.specs.Prelude.{ℕ, ◌+◌, ◌-◌, ◌≤◌, ◌≡◌, Bool, true, false, ◌&&◌, cond, List, ◌++◌, map, eqb, length, take, None, Option, Some, is_some}
use Rattle.edit.specs.declared.Side.{Side}
use Rattle.json_values.specs.Json.{Span, value}
use Rattle.json_values.specs.Fold.{fold_from}
use Rattle.entries.specs.Places.{and_then, all, array_at}
use Rattle.entries.specs.Tally.{one_bid, one_ask}
use Rattle.order_edit.specs.Buffer.{max_buffered, buffer_words, entries_in, Put}
use Rattle.order_entries.specs.Rows.{OrderRow, order_row}
use Rattle.order_entries.specs.Collected.{order_place_of}
use Rattle.order_entries.specs.Saying.{entry_at, bad_at}
use Rattle.order_entries.specs.declared.OrderPlace.{OrderPlace}
use Rattle.order_arrays.specs.declared.OrderTally.{OrderTally}
use Rattle.order_arrays.specs.declared.Orders.{Orders}

-- The orders of the array that a value is, perhaps none; the elements of it have one depth less.
unfoldable pub orders_at : ℕ → List ℕ → Span → Option (List OrderRow)
orders_at depth s a = and_then (array_at depth s a) (all (order_row (depth - 1) s))

-- ---- what is met

-- No order was met yet.
abbrev pub none_yet : OrderTally
none_yet = record { bids = 0; asks = 0; broken_at = 0; strict_at = 0; events = true; well_formed = true }

-- Something was met that is no array of orders.
abbrev pub not_orders : OrderTally
not_orders = record { bids = 0; asks = 0; broken_at = 0; strict_at = 0; events = false; well_formed = false }

abbrev pub told_not : ℕ → Orders
told_not end = record { end = end; tally = not_orders }

-- A position that is known, or else the next one; 0 is none.
unfoldable pub or_else : ℕ → ℕ → ℕ
or_else known next = cond (eqb known 0) next known

-- One order more, which has an event or not, and whose first bad text begins at `broken` in an update and at `strict` in a snapshot.
unfoldable pub counted : OrderTally → Side → Bool → ℕ → ℕ → OrderTally
counted t side event broken strict =
    record {
      bids = t.bids + one_bid side;
      asks = t.asks + one_ask side;
      broken_at = or_else t.broken_at broken;
      strict_at = or_else t.strict_at strict;
      events = t.events && event;
      well_formed = t.well_formed;
    }

-- Nothing is counted after something that is no array of orders.
unfoldable pub one_more : List ℕ → Side → OrderTally → OrderRow → OrderTally
one_more s side t r = cond t.well_formed (counted t side (is_some r.event) (bad_at false s r) (bad_at true s r)) t

-- ---- an array of orders

-- What is told of orders that were read, or not; t was told before.
unfoldable pub tallied : List ℕ → Side → OrderTally → Option (List OrderRow) → OrderTally
tallied s side t (Some rows) = fold_from (one_more s side) t rows
tallied s side t None = not_orders

-- The same of a single order.
unfoldable pub tallied_one : List ℕ → Side → OrderTally → Option OrderRow → OrderTally
tallied_one s side t (Some r) = one_more s side t r
tallied_one s side t None = not_orders

-- What is told of the value at a position as an array of orders.
unfoldable pub told_at : List ℕ → ℕ → Side → OrderTally → ℕ → Orders
told_at s depth side t at =
    elim (value depth s at) [ Some e ↦ record { end = e; tally = tallied s side t (orders_at depth s (record { from = at; to = e })) } | None ↦ told_not 0 ]

-- ---- what the readers promise

-- How many orders were met.
abbrev pub met : OrderTally → ℕ
met t = t.bids + t.asks

-- The order that was read, or not, was met: it is counted and put into the buffer.
pub record Counted (s : List ℕ) (side : Side) (t : OrderTally) (x : Option OrderRow) (before after : List ℕ) (r : OrderTally) : Type 0 where
  pub told : r ≡ tallied_one s side t x
  pub room : length after ≡ buffer_words
  pub put : t.well_formed ≡ true → (row : OrderRow) → x ≡ Some row → Put before (met t) (entry_at s side row) after

-- The same of what was found at a position.
abbrev pub CountedAt : List ℕ → Side → OrderTally → OrderPlace → List ℕ → List ℕ → OrderTally → Type 0
CountedAt s side t f before after r = (x : Option OrderRow) → f ≡ order_place_of f.end x → Counted s side t x before after r

-- The array of orders at a position was met.
pub record Met (s : List ℕ) (depth : ℕ) (side : Side) (t : OrderTally) (at : ℕ) (before after : List ℕ) (r : Orders) : Type 0 where
  pub told : r ≡ told_at s depth side t at
  -- each order takes a byte
  pub few : (r.end ≡ 0 → ⊥) → met r.tally ≤ r.end
  pub room : length after ≡ buffer_words
  -- behind those that were met before it has what the orders say, up to its end
  pub kept : t.well_formed ≡ true → (e : ℕ) → value depth s at ≡ Some e → (rows : List OrderRow) → orders_at depth s (record { from = at; to = e }) ≡ Some rows
      → take (met t + length rows) (entries_in after) ≡ take max_buffered (take (met t) (entries_in before) ++ map (entry_at s side) rows)
