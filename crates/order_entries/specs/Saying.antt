-- What an order of a message says in numbers, and which of its texts check 8 refuses. Assumes nothing: these are definitions.
use Rattle.std.specs.Prelude.{ℕ, ◌≡◌, Bool, true, false, ◌&&◌, ◌||◌, cond, List, ltb, None, Option, Some}
use Rattle.decimal.specs.Decimal.{number}
use Rattle.decimal.specs.Limits.{Within}
use Rattle.edit.specs.declared.Side.{Side}
use Rattle.json_values.specs.Names.{inner}
use Rattle.entries.specs.Rows.{bad_price, bad_size, number_at}
use Rattle.order_edit.specs.declared.Event.{Event}
use Rattle.order_edit.specs.declared.Event.TheVariants.{Add, Modify, Delete}
use Rattle.order_edit.specs.Ids.{id_of}
use Rattle.order_edit.specs.Buffer.{OrderEntry, order_entry}
use Rattle.order_entries.specs.Rows.{OrderRow}
use Rattle.order_entries.specs.Collected.{id_span, price_span, size_span}
use Rattle.order_entries.specs.declared.OrderPlace.{OrderPlace}
use Rattle.order_entries.specs.declared.OrderRead.{OrderRead}

-- ---- of a row

-- Its event, and to add it where it names none, as in a snapshot.
unfoldable pub event_or : Option Event → Event
event_or (Some event) = event
event_or None = Add

-- The entry that it is. A text that is no decimal gives 0; check 8 has refused it before.
unfoldable pub entry_at : List ℕ → Side → OrderRow → OrderEntry
entry_at s side r =
    record { side = side; event = event_or r.event; id = id_of (inner s r.id); price = number_at s r.price; size = number_at s r.size }

-- Whether the order stays on the book: a deleted one does not.
unfoldable pub stays_of : Event → Bool
stays_of Add = true
stays_of Modify = true
stays_of Delete = false

-- Check 8: a decimal rule broken, a price of zero, or a quantity of zero "unless deleted"; in a snapshot `event` is passed over.
unfoldable pub bad_quantity : Bool → List ℕ → OrderRow → Bool
bad_quantity snapshot s r = bad_size (snapshot || stays_of (event_or r.event)) s r.size

-- Where the first bad one of two texts begins, or 0 where none is bad.
unfoldable pub first_bad : Bool → ℕ → Bool → ℕ → ℕ
first_bad a i b j = cond a (cond (b && ltb j i) j i) (cond b j 0)

-- Where the first text of the order that check 8 refuses begins, or 0: "first bad text in message order", and members stand in any order.
unfoldable pub bad_at : Bool → List ℕ → OrderRow → ℕ
bad_at snapshot s r = first_bad (bad_price s r.price) r.price.from (bad_quantity snapshot s r) r.size.from

-- ---- of what was found

-- The row that was found at a position.
abbrev pub row_from : ℕ → OrderPlace → OrderRow
row_from at f = record { whole = record { from = at; to = f.end }; id = id_span f; price = price_span f; size = size_span f; event = f.event }

-- What was read of it, wherever it stands.
pub record ReadAs (s : List ℕ) (side : Side) (f : OrderPlace) (r : OrderRead) : Type 0 where
  pub says : (at : ℕ) → order_entry r.entry ≡ entry_at s side (row_from at f)
  pub broken : (at : ℕ) → r.broken_at ≡ bad_at false s (row_from at f)
  pub strict : (at : ℕ) → r.strict_at ≡ bad_at true s (row_from at f)
  pub price : Within (number r.entry.price)
  pub size : Within (number r.entry.size)
