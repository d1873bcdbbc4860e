-- Laws of the text of a snapshot: the texts that it is laid from, its length, and that a message has room for the longest. Assumes nothing.
use mathlib.Core.Path.{◌≡◌, refl, ap}
use mathlib.Core.List.{List, [], ◌∷◌, ◌++◌, map, append_assoc}
use Prim.Native.Nat.{ℕ, ◌+◌, ◌≤◌, ◌<◌, ◌^◌}
use native.Mathlib.Omega.{arith}
use lib.ListN.{length, length-append}
use Rattle.text.specs.Text.{ascii}
use Rattle.decimal.specs.Digits.{written}
use Rattle.decimal.specs.Decimal.{text}
use Rattle.decimal.specs.Limits.{Within}
use Rattle.decimal.proofs.Text.{length-text}
use Rattle.level.specs.Ranked.{All}
use Rattle.writer.specs.Snapshot.{quoted, comma_joined, array}
use Rattle.writer.specs.Parts.{max_name}
use Rattle.writer.proofs.Joined.{led-short, length-joined}
use Rattle.writer.proofs.Texts.{moved, checksum-short}
use Rattle.orders.specs.Orders.{SingleOrder}
use Rattle.orders.specs.Kept.{max_orders}
use Rattle.order_writer.specs.Snapshot.{order_text, order_snapshot}
use Rattle.order_writer.specs.Parts.{max_id_bytes, max_entry, max_side}

-- ---- an order

-- What bounds the length of its text.
pub record Short (x : SingleOrder) : Type 0 where
  pub id : length x.id ≤ max_id_bytes
  pub price : Within x.price
  pub size : Within x.size

-- Its text from a part on, where these are the texts of its id, its price and its size.
abbrev pub from_size : List ℕ → List ℕ
from_size size = size ++ ascii "\"}"

abbrev pub after_price : List ℕ → List ℕ
after_price size = ascii "\",\"order_qty\":\"" ++ from_size size

abbrev pub from_price : List ℕ → List ℕ → List ℕ
from_price price size = price ++ after_price size

abbrev pub after_id : List ℕ → List ℕ → List ℕ
after_id price size = ascii "\",\"limit_price\":\"" ++ from_price price size

abbrev pub from_id : List ℕ → List ℕ → List ℕ → List ℕ
from_id id price size = id ++ after_id price size

module _ (x : SingleOrder) where
  pub order-parts : order_text x ≡ ascii "{\"order_id\":\"" ++ from_id x.id (text x.price) (text x.size)
  unfolding order_text quoted
  order-parts = simp append_assoc

  pub length-order : length (order_text x) ≡ 47 + length x.id + length (text x.price) + length (text x.size)
  length-order = rw order-parts (simp length-append (omega arith))

  pub order-short : Short x → length (order_text x) ≤ max_entry
  order-short short =
      let e = length-order in
      let i = short.id in
      let p = length-text x.price short.price in
      let s = length-text x.size short.size in
      omega arith

-- ---- orders

all_short : (orders : List SingleOrder) → All Short orders → All (λ x. length (order_text x) ≤ max_entry) orders
unfolding All
all_short [] a = tt
all_short (x ∷ orders) a = (order-short x a.0, all_short orders a.1)

pub orders-short : (orders : List SingleOrder) → length orders ≤ max_orders → All Short orders → length (comma_joined (map order_text orders)) ≤ max_side
orders-short orders few a =
    let e = length-joined order_text orders in
    let l = led-short order_text max_entry orders (all_short orders a) in
    omega arith

-- ---- a book

-- Its text from a part on, where these are the texts of its bids and its asks.
abbrev pub from_asks : List ℕ → List ℕ
from_asks asks = (ascii "],\"asks\":[" ++ asks) ++ ascii "]}]}"

abbrev pub from_bids : List ℕ → List ℕ → List ℕ
from_bids bids asks = (ascii ",\"bids\":[" ++ bids) ++ from_asks asks

abbrev pub from_checksum : ℕ → List ℕ → List ℕ → List ℕ
from_checksum checksum bids asks = (ascii "\",\"checksum\":" ++ written checksum) ++ from_bids bids asks

abbrev pub from_opening : List ℕ → ℕ → List ℕ → List ℕ → List ℕ
from_opening name checksum bids asks = ascii "{\"channel\":\"level3\",\"type\":\"snapshot\",\"data\":[{\"symbol\":\"" ++ (name ++ from_checksum checksum bids asks)

module _ (name : List ℕ) (bids asks : List SingleOrder) (checksum : ℕ) where
  pub snapshot-parts : order_snapshot name bids asks checksum ≡ from_opening name checksum (comma_joined (map order_text bids)) (comma_joined (map order_text asks))
  unfolding order_snapshot array quoted
  snapshot-parts =
      ap (λ (l : List ℕ). ascii "{\"channel\":\"level3\",\"type\":\"snapshot\",\"data\":[{\"symbol\":\"" ++ l)
      (moved {x = name} refl (ascii "\"")
      (ap (λ (l : List ℕ). ascii ",\"checksum\":" ++ (written checksum ++ (ascii ",\"bids\":[" ++ l)))
      (moved {x = comma_joined (map order_text bids)} refl (ascii "]")
      (ap (λ (l : List ℕ). ascii ",\"asks\":[" ++ l)
      (moved {x = comma_joined (map order_text asks)} refl (ascii "]") {r = ascii "}]}"} refl)))))

  pub length-snapshot : length (order_snapshot name bids asks checksum)
      ≡ 93 + length (comma_joined (map order_text bids)) + length (comma_joined (map order_text asks)) + length (written checksum) + length name
  length-snapshot = rw snapshot-parts (simp length-append (omega arith))

  -- the longest is a message that a book takes: one of 65,536 bytes at the most
  pub snapshot-short : length name ≤ max_name → length bids ≤ max_orders → length asks ≤ max_orders → All Short bids → All Short asks → checksum < 2 ^ 32 → length (order_snapshot name bids asks checksum) ≤ 65536
  snapshot-short named few_bids few_asks short-bids short-asks low =
      let e = length-snapshot in
      let b = orders-short bids few_bids short-bids in
      let a = orders-short asks few_asks short-asks in
      let c = checksum-short checksum low in
      omega arith
