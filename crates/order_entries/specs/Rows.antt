-- An order of a message, as request c has it: an object with `order_id`, `limit_price` and `order_qty` once each, strings all, and in an update with `event`, a
-- string, once. Members stand in any order, and others are passed over. Assumes nothing: these are definitions.
use Rattle.std.specs.Prelude.{ℕ, cond, List, None, Option, Some}
use Rattle.text.specs.Text.{ascii}
use Rattle.json_values.specs.Json.{Span, Pair}
use Rattle.json_values.specs.Names.{inner, means}
use Rattle.entries.specs.Places.{and_then, is_string, object_at, values_of, only}
use Rattle.order_edit.specs.Ids.{is_id}
use Rattle.order_edit.specs.declared.Event.{Event}
use Rattle.order_edit.specs.declared.Event.TheVariants.{Add, Modify, Delete}

-- Where an order lies, the texts of its id, its price and its size, quotes included, and its event, which a snapshot passes over.
pub record OrderRow : Type 0 where
  pub whole : Span
  pub id : Span
  pub price : Span
  pub size : Span
  pub event : Option Event

-- A value that is a string.
unfoldable pub string_at : List ℕ → Span → Option Span
string_at s a = cond (is_string s a) (Some a) None

-- The event that a string means.
unfoldable pub event_at : List ℕ → Span → Option Event
event_at s a =
    cond (means s a (ascii "add")) (Some Add)
    (cond (means s a (ascii "modify")) (Some Modify)
    (cond (means s a (ascii "delete")) (Some Delete) None))

-- The order of the values of its four names. An id has no escapes: its bytes stand for themselves.
unfoldable pub row_of : List ℕ → Span → Option Span → Option Span → Option Span → Option Span → Option OrderRow
row_of s a id price size event =
    and_then (and_then id (string_at s)) (λ i.
    and_then (and_then price (string_at s)) (λ p.
    and_then (and_then size (string_at s)) (λ z.
    cond (is_id (inner s i)) (Some (record { whole = a; id = i; price = p; size = z; event = and_then event (event_at s) })) None)))

-- The value of a name that stands once among members.
abbrev pub once_in : List ℕ → List ℕ → List Pair → Option Span
once_in s name ms = only (values_of s name ms)

unfoldable pub row_in : List ℕ → Span → List Pair → Option OrderRow
row_in s a ms = row_of s a (once_in s (ascii "order_id") ms) (once_in s (ascii "limit_price") ms) (once_in s (ascii "order_qty") ms) (once_in s (ascii "event") ms)

-- The order that a value is; depth is how deep arrays and objects may nest in it.
unfoldable pub order_row : ℕ → List ℕ → Span → Option OrderRow
order_row depth s a = and_then (object_at depth s a) (row_in s a)
