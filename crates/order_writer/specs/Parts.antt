-- Parts of the text, as they are laid, and how long they are at the most. Assumes nothing: these are definitions.
use Rattle.std.specs.Prelude.{ℕ, ◌+◌, ◌*◌, ◌≤◌, List, ◌++◌, map, length}
use Rattle.text.specs.Text.{ascii}
use Rattle.decimal.specs.Decimal.{max_whole, max_decimals}
use Rattle.level.specs.Ranked.{All}
use Rattle.writer.specs.Snapshot.{comma_joined}
use Rattle.orders.specs.declared.Order.{Order}
use Rattle.orders.specs.Words.{shown, held, Sound}
use Rattle.orders.specs.Kept.{max_orders}
use Rattle.order_writer.specs.Snapshot.{order_text, order_snapshot}

-- ---- the parts

-- The text of an order of the code.
unfoldable pub entry : Order → List ℕ
entry x = order_text (shown x)

-- The same, with the comma that parts it from the one before it.
unfoldable pub next_entry : Order → List ℕ
next_entry x = ascii "," ++ entry x

-- The orders of a side, best and earliest first.
unfoldable pub entries : List ℕ → ℕ → List ℕ
entries words n = comma_joined (map entry (held words n))

-- The text of a book.
unfoldable pub snapshot_text : List ℕ → List ℕ → ℕ → List ℕ → ℕ → ℕ → List ℕ
snapshot_text name bids b asks a checksum = order_snapshot name (map shown (held bids b)) (map shown (held asks a)) checksum

-- ---- what a text needs, and how long it is at the most

pub record WritableSide (words : List ℕ) (n : ℕ) : Type 0 where
  pub few : n ≤ max_orders
  pub room : 6 * n ≤ length words
  pub orders : All Sound (held words n)

-- The bytes that the three words of an id have room for.
abbrev pub max_id_bytes : ℕ
max_id_bytes = 24

abbrev pub max_entry : ℕ
max_entry = 47 + max_id_bytes + 2 * (max_whole + 1 + max_decimals)

abbrev pub max_side : ℕ
max_side = (max_entry + 1) * max_orders
