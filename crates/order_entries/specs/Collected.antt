-- What one walk over an order collects, member by member, and what is told of it in the end, in numbers. Assumes nothing: these are definitions.
use Rattle.std.specs.Prelude.{ℕ, ◌≤◌, ◌≡◌, Bool, true, false, ◌&&◌, List, eqb, length, None, Option, Some}
use Rattle.text.specs.Text.{ascii}
use Rattle.json_values.specs.Json.{Span, Pair, value}
use Rattle.entries.specs.Places.{and_then, is_string}
use Rattle.layout.specs.MemberSpans.{no_member_span, with_member_span, once_at, on_member}
use Rattle.layout.specs.declared.MemberSpan.{MemberSpan}
use Rattle.order_edit.specs.declared.Event.{Event}
use Rattle.order_entries.specs.Rows.{OrderRow, event_at, row_of, order_row}
use Rattle.order_entries.specs.declared.OrderPlace.{OrderPlace}
use Rattle.order_entries.specs.declared.OrderMembers.{OrderMembers}

-- ---- what is told of an order

-- The value ends at `end`, and is the order that was read of it, or none.
unfoldable pub order_place_of : ℕ → Option OrderRow → OrderPlace
order_place_of end (Some r) =
    record {
      end = end;
      well_formed = true;
      id_from = r.id.from;
      id_to = r.id.to;
      price_from = r.price.from;
      price_to = r.price.to;
      size_from = r.size.from;
      size_to = r.size.to;
      event = r.event;
    }
order_place_of end None =
    record { end = end; well_formed = false; id_from = 0; id_to = 0; price_from = 0; price_to = 0; size_from = 0; size_to = 0; event = None }

-- The value at a position as an order.
unfoldable pub order_place_at : ℕ → List ℕ → ℕ → OrderPlace
order_place_at depth s at = elim (value depth s at) [ Some e ↦ order_place_of e (order_row depth s (record { from = at; to = e })) | None ↦ order_place_of 0 None ]

-- ---- members

abbrev pub no_members : OrderMembers
no_members = record { id = no_member_span; price = no_member_span; size = no_member_span; event = no_member_span }

-- One member more.
unfoldable pub more_members : List ℕ → OrderMembers → Pair → OrderMembers
more_members s met m =
    record {
      id = on_member s (ascii "order_id") with_member_span met.id m;
      price = on_member s (ascii "limit_price") with_member_span met.price m;
      size = on_member s (ascii "order_qty") with_member_span met.size m;
      event = on_member s (ascii "event") with_member_span met.event m;
    }

-- A name was met once, and its value is a string.
unfoldable pub once_string : List ℕ → MemberSpan → Bool
once_string s m = eqb m.times 1 && is_string s (record { from = m.from; to = m.to })

-- The event of a name that was met once.
unfoldable pub event_of : List ℕ → MemberSpan → Option Event
event_of s m = and_then (once_at m) (event_at s)

-- The order from `at` to `end` that has these members.
unfoldable pub place_in : List ℕ → ℕ → ℕ → OrderMembers → OrderPlace
place_in s at end met = order_place_of end (row_of s (record { from = at; to = end }) (once_at met.id) (once_at met.price) (once_at met.size) (once_at met.event))

-- A part that lies in the text.
abbrev pub Placed : List ℕ → ℕ → ℕ → Type 0
Placed s from to = (from ≤ to) × (to ≤ length s)

-- The values of the three texts that were met last lie in the text.
pub record Inside (s : List ℕ) (met : OrderMembers) : Type 0 where
  pub id : Placed s met.id.from met.id.to
  pub price : Placed s met.price.from met.price.to
  pub size : Placed s met.size.from met.size.to

-- The texts of an order lie in the text.
pub record Laid (s : List ℕ) (f : OrderPlace) : Type 0 where
  pub id : Placed s f.id_from f.id_to
  pub price : Placed s f.price_from f.price_to
  pub size : Placed s f.size_from f.size_to

-- What is found, and that it lies in the text.
pub record Found (s : List ℕ) (told f : OrderPlace) : Type 0 where
  pub is : f ≡ told
  pub laid : Laid s f

-- The texts of what was found at a position.
abbrev pub id_span : OrderPlace → Span
id_span f = record { from = f.id_from; to = f.id_to }

abbrev pub price_span : OrderPlace → Span
price_span f = record { from = f.price_from; to = f.price_to }

abbrev pub size_span : OrderPlace → Span
size_span f = record { from = f.size_from; to = f.size_to }
