-- `lay_order` meets its contract: its texts are laid one after another.
use Prim.Native.Nat.{ℕ}
use mathlib.Core.Path.{refl, ap}
use mathlib.Core.List.{List, ◌++◌}
use Rattle.text.specs.Text.{ascii}
use Rattle.decimal.specs.Decimal.{text}
use Rattle.order_edit.specs.Ids.{id_bytes}
use Rattle.orders.specs.Words.{order_price, order_size}
use Rattle.writer.proofs.Owed.{Whole, owed-as, owed-rest, owed-rest-as, room-first, room-first-as, put_last, put-length}
use Rattle.order_writer.specs.Parts.{entry}
use Rattle.order_writer.proofs.Snapshot as Snapshot
use Rattle.order_writer.proofs.Parts.{entry-parts}
use Rattle.order_writer.proofs.laying.lay_order.Goals as goal
use Rattle.order_writer.proofs.laying.lay_order.Lts as lts
use Rattle.order_writer.proofs.laying.lay_order.Tie as tie
use Rattle.order_writer.proofs.laying.lay_order.Reads as reads

-- Places in the code.
abbrev Start : Type 0
Start = lts.Start tie.the-claims reads.Pre reads.Post

abbrev After-lay-before_id : Type 0
After-lay-before_id = lts.After-lay tie.the-claims reads.Pre reads.Post

abbrev After-lay_id-after_id : Type 0
After-lay_id-after_id = lts.After-lay_id tie.the-claims reads.Pre reads.Post

abbrev After-lay-before_price : Type 0
After-lay-before_price = lts.After-lay2 tie.the-claims reads.Pre reads.Post

abbrev After-lay_decimal-after_price : Type 0
After-lay_decimal-after_price = lts.After-lay_decimal tie.the-claims reads.Pre reads.Post

abbrev After-lay-before_size : Type 0
After-lay-before_size = lts.After-lay3 tie.the-claims reads.Pre reads.Post

abbrev After-lay_decimal-after_size : Type 0
After-lay_decimal-after_size = lts.After-lay_decimal2 tie.the-claims reads.Pre reads.Post

-- ---- the texts, and what is owed after each
abbrev id_text : Start → List ℕ
id_text s = id_bytes s.args.order.id

abbrev price_text : Start → List ℕ
price_text s = text (order_price s.args.order)

abbrev size_text : Start → List ℕ
size_text s = text (order_size s.args.order)

abbrev after_price : Start → List ℕ
after_price s = Snapshot.after_price (size_text s)

abbrev after_id : Start → List ℕ
after_id s = Snapshot.after_id (price_text s) (size_text s)

abbrev Left : Start → List ℕ → ℕ → List ℕ → Type 0
Left s = Whole s.args.buffer.now s.args.at (entry s.args.order)

left : (s : Start) → Left s s.args.buffer.now s.args.at (ascii "{\"order_id\":\"" ++ (id_text s ++ after_id s))
left s = owed-as (entry-parts s.args.order) s.requires.1

abbrev start₁ : After-lay-before_id → Start
start₁ c = c.before.before.before.before.before

before-id : (c : After-lay-before_id) → Left (start₁ c) c.lay-before_id.new.buffer c.lay-before_id.result (id_text (start₁ c) ++ after_id (start₁ c))
before-id c = owed-rest (left (start₁ c)) c.lay-before_id.ensures

abbrev start₂ : After-lay_id-after_id → Start
start₂ c = start₁ c.before.before.before.before.before

after-id : (c : After-lay_id-after_id) → Left (start₂ c) c.lay_id-after_id.new.buffer c.lay_id-after_id.result (after_id (start₂ c))
after-id c = owed-rest (before-id c.before.before.before.before.before) c.lay_id-after_id.ensures

abbrev start₃ : After-lay-before_price → Start
start₃ c = start₂ c.before.before.before.before.before.before

before-price : (c : After-lay-before_price) → Left (start₃ c) c.lay-before_price.new.buffer c.lay-before_price.result (price_text (start₃ c) ++ after_price (start₃ c))
before-price c = owed-rest (after-id c.before.before.before.before.before.before) c.lay-before_price.ensures

abbrev start₄ : After-lay_decimal-after_price → Start
start₄ c = start₃ c.before.before.before.before.before.before

after-price : (c : After-lay_decimal-after_price) → Left (start₄ c) c.lay_decimal-after_price.new.buffer c.lay_decimal-after_price.result (after_price (start₄ c))
after-price c = owed-rest-as (ap text c.price_of.ensures) (before-price c.before.before.before.before.before.before) c.lay_decimal-after_price.ensures

abbrev start₅ : After-lay-before_size → Start
start₅ c = start₄ c.before.before.before.before.before.before

before-size : (c : After-lay-before_size) → Left (start₅ c) c.lay-before_size.new.buffer c.lay-before_size.result (size_text (start₅ c) ++ ascii "\"}")
before-size c = owed-rest (after-price c.before.before.before.before.before.before) c.lay-before_size.ensures

abbrev start₆ : After-lay_decimal-after_size → Start
start₆ c = start₅ c.before.before.before.before.before.before

after-size : (c : After-lay_decimal-after_size) → Left (start₆ c) c.lay_decimal-after_size.new.buffer c.lay_decimal-after_size.result (ascii "\"}")
after-size c = owed-rest-as (ap text c.size_of.ensures) (before-size c.before.before.before.before.before.before) c.lay_decimal-after_size.ensures

-- ---- needs
pub lay-before_id-requires : goal.lay-before_id-requires
lay-before_id-requires c = let s = c.before.before.before.before in room-first (ascii "{\"order_id\":\"") (id_text s ++ after_id s) (left s)

pub lay_id-after_id-requires : goal.lay_id-after_id-requires
lay_id-after_id-requires c = let r = c.before.before.before.before in room-first (id_text (start₁ r)) (after_id (start₁ r)) (before-id r)

pub lay-before_price-requires : goal.lay-before_price-requires
lay-before_price-requires c = let r = c.before.before.before.before.before in room-first (ascii "\",\"limit_price\":\"") (price_text (start₂ r) ++ after_price (start₂ r)) (after-id r)

pub lay_decimal-after_price-requires : goal.lay_decimal-after_price-requires
lay_decimal-after_price-requires c =
    let r = c.before.before.before.before.before in
    let e = c.price_of.ensures in
    (rw e (start₃ r).requires.0.price, room-first-as (price_text (start₃ r)) (after_price (start₃ r)) (ap text e) (before-price r))

pub lay-before_size-requires : goal.lay-before_size-requires
lay-before_size-requires c = let r = c.before.before.before.before.before in room-first (ascii "\",\"order_qty\":\"") (size_text (start₄ r) ++ ascii "\"}") (after-price r)

pub lay_decimal-after_size-requires : goal.lay_decimal-after_size-requires
lay_decimal-after_size-requires c =
    let r = c.before.before.before.before.before in
    let e = c.size_of.ensures in
    (rw e (start₅ r).requires.0.size, room-first-as (size_text (start₅ r)) (ascii "\"}") (ap text e) (before-size r))

pub lay-requires : goal.lay-requires
lay-requires c = (after-size c.before.before.before.before.before).room

pub returns : goal.returns
returns c = put_last (after-size c.before.before.before.before.before.before.before.before.before) refl c.lay.ensures

pub shape_of-buffer : goal.shape_of-buffer
shape_of-buffer c = put-length (start₆ c.before.before.before.before.before.before.before.before.before).requires.1 (returns c)
