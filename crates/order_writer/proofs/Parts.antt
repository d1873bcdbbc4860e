-- Laws of the orders of a side in words: the texts that they are laid from. Assumes nothing.
use mathlib.Core.Path.{◌≡◌, ap, ap₂, ◌∙◌, subst}
use mathlib.Core.List.{List, [], ◌++◌, map, map-map}
use Prim.Native.Nat.{ℕ, ◌+◌, ◌-◌, ◌≤◌, ◌<◌}
use native.Mathlib.Omega.{arith}
use lib.ListN.{length, get_or, drop}
use Rattle.text.specs.Text.{ascii}
use Rattle.decimal.specs.Digits.{written}
use Rattle.decimal.specs.Decimal.{text}
use Rattle.edit.specs.declared.Side.{Side}
use Rattle.level.proofs.All.{all-at}
use Rattle.order_edit.specs.Ids.{id_bytes}
use Rattle.writer.specs.Snapshot.{comma_joined}
use Rattle.writer.proofs.Joined.{Listed, listed}
use Rattle.writer.proofs.Joined as Joined
use Rattle.orders.specs.declared.Order.{Order}
use Rattle.orders.specs.Words.{order_price, order_size, shown, orders_in, held, no_order, Sound}
use Rattle.orders.specs.Kept.{Kept}
use Rattle.orders.proofs.Held.{held-length, held_at}
use Rattle.order_writer.specs.Snapshot.{order_text}
use Rattle.order_writer.specs.Parts.{entry, next_entry, entries, snapshot_text, WritableSide, max_entry}
use Rattle.order_writer.proofs.Ids.{id-short}
use Rattle.order_writer.proofs.Snapshot.{Short, from_id, order-parts, length-order, order-short, from_opening, snapshot-parts, length-snapshot}

-- ---- an order

module _ (x : Order) where
  pub entry-parts : entry x ≡ ascii "{\"order_id\":\"" ++ from_id (id_bytes x.id) (text (order_price x)) (text (order_size x))
  unfolding entry shown
  entry-parts = order-parts (shown x)

  pub length-entry : length (entry x) ≡ 47 + length (id_bytes x.id) + length (text (order_price x)) + length (text (order_size x))
  unfolding entry shown
  length-entry = length-order (shown x)

  pub sound-short : Sound x → Short (shown x)
  unfolding shown
  sound-short sound = record { id = id-short x.id; price = sound.price; size = sound.size }

  pub entry-short : Sound x → length (entry x) ≤ max_entry
  unfolding entry
  entry-short sound = order-short (shown x) (sound-short sound)

-- ---- the orders of a side, and from a place on

-- Each order after a comma.
abbrev pub led : List Order → List ℕ
led = Joined.led entry

-- The order at a place, as the code reads it.
abbrev pub order_in : List ℕ → ℕ → Order
order_in words i = get_or (orders_in words) i no_order

module _ (words : List ℕ) (n : ℕ) (writable : WritableSide words n) where
  orders : Listed (held words n) n (order_in words)
  orders = listed no_order (held-length words n writable.room) (held_at words n)

  module _ (i : ℕ) (inside : i < n) where
    pub sound-at : Sound (order_in words i)
    sound-at =
        let l = held-length words n writable.room in
        subst Sound (held_at words n i inside) (all-at Sound (held words n) i no_order (omega arith) writable.orders)

    pub led-next : led (drop i (held words n)) ≡ next_entry (order_in words i) ++ led (drop (i + 1) (held words n))
    unfolding next_entry
    led-next = Joined.led-next entry orders i inside

    pub length-led : length (led (drop i (held words n))) ≡ 1 + length (entry (order_in words i)) + length (led (drop (i + 1) (held words n)))
    length-led = Joined.length-led entry orders i inside

  pub led-end : (i : ℕ) → n ≤ i → led (drop i (held words n)) ≡ []
  led-end i past = Joined.led-end entry orders i past

  pub entries-some : 0 < n → entries words n ≡ entry (order_in words 0) ++ led (drop 1 (held words n))
  unfolding entries
  entries-some some = Joined.joined-some entry orders some

  pub entries_none : n ≡ 0 → entries words n ≡ []
  unfolding entries
  entries_none zero = Joined.joined-none entry orders zero

  pub length-entries : length (entries words n) ≡ length (led (held words n)) - 1
  unfolding entries
  length-entries = Joined.length-joined entry (held words n)

pub kept-writable : {side : Side} {words : List ℕ} {n : ℕ} → Kept side words n → WritableSide words n
kept-writable kept = record { few = kept.few; room = kept.good.room; orders = kept.good.sound }

-- ---- a book

shown-side : (words : List ℕ) (n : ℕ) → comma_joined (map order_text (map shown (held words n))) ≡ entries words n
unfolding entries entry
shown-side words n = ap comma_joined (map-map order_text shown (held words n))

module _ (name bids : List ℕ) (b : ℕ) (asks : List ℕ) (a checksum : ℕ) where
  pub text-parts : snapshot_text name bids b asks a checksum ≡ from_opening name checksum (entries bids b) (entries asks a)
  unfolding snapshot_text
  text-parts =
      snapshot-parts name (map shown (held bids b)) (map shown (held asks a)) checksum
      ∙ ap₂ (from_opening name checksum) (shown-side bids b) (shown-side asks a)

  pub length-text : length (snapshot_text name bids b asks a checksum) ≡ 93 + length (entries bids b) + length (entries asks a) + length (written checksum) + length name
  unfolding snapshot_text
  length-text =
      length-snapshot name (map shown (held bids b)) (map shown (held asks a)) checksum
      ∙ ap₂ (λ (x y : List ℕ). 93 + length x + length y + length (written checksum) + length name) (shown-side bids b) (shown-side asks a)
