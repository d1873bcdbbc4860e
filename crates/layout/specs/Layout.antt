-- What is read of a message, in either dialect. Assumes nothing: these are definitions.
use Rattle.std.specs.Prelude.{ℕ, Bool, true, false, cond, List, [], ◌∷◌, Option, Some}
use Rattle.edit.specs.declared.Side.TheVariants.{Bids, Asks}
use Rattle.json_values.specs.Json.{Pair}
use Rattle.json_values.specs.Names.{means}
use Rattle.entries.specs.Places.{and_then, and_also}
use Rattle.entries.specs.Rows.{Entry, sided_at}
use Rattle.entries.specs.declared.Form.{Form}
use Rattle.layout.specs.declared.Kind.{Kind}
use Rattle.layout.specs.declared.Kind.TheVariants.{Snapshot, Update}

unfoldable pub is_snapshot : Kind → Bool
is_snapshot Snapshot = true
is_snapshot Update = false

-- How a message prints a checksum, if it does.
pub data Printed : Type 0 where
  printed : ℕ → Printed
  unprinted : Printed

-- What the layout of a message gives: its kind, its entries in the order in which they stand in it, the checksum, the sequence number, and the
-- sequence number before it, 0 where none is named.
pub record Layout : Type 0 where
  pub kind : Kind
  pub entries : List Entry
  pub checksum : Printed
  pub number : ℕ
  pub previous : ℕ

-- A message of the dialect's outer form: whether it is this book's (check 5), and its layout (check 6).
pub record Envelope : Type 0 where
  pub ours : Bool
  pub layout : Option Layout

-- The entries that a member holds, by its name: the bids' or the asks'. depth is how deep arrays and objects may nest in its value.
unfoldable pub member_entries : Form → ℕ → List ℕ → List ℕ → List ℕ → Pair → Option (List Entry)
member_entries form depth s bids asks m =
    cond (means s m.name bids) (sided_at Bids form depth s m.value)
    (cond (means s m.name asks) (sided_at Asks form depth s m.value) (Some []))

-- Those that the members of an object hold, in their order.
unfoldable pub entries_in : Form → ℕ → List ℕ → List ℕ → List ℕ → List Pair → Option (List Entry)
entries_in form depth s bids asks [] = Some []
entries_in form depth s bids asks (m ∷ ms) = and_also (member_entries form depth s bids asks m) (entries_in form depth s bids asks ms)

unfoldable pub laid : Kind → Printed → ℕ → Option (List Entry) → Option Layout
laid kind sum number entries = and_then entries (λ es. Some (record { kind = kind; entries = es; checksum = sum; number = number; previous = 0 }))
