-- `lay_snapshot` meets its contract: its texts are laid one after another.
use Prim.Native.Nat.{ℕ}
use mathlib.Core.Path.{refl}
use mathlib.Core.List.{List, ◌++◌}
use Rattle.text.specs.Text.{ascii}
use Rattle.decimal.specs.Digits.{written}
use Rattle.writer.proofs.Owed.{Whole, owed-as, owed-rest, room-first, put_last}
use Rattle.order_writer.specs.Parts.{entries, snapshot_text}
use Rattle.order_writer.proofs.Snapshot as Snapshot
use Rattle.order_writer.proofs.Parts.{text-parts}
use Rattle.order_writer.proofs.lay_snapshot.Goals as goal
use Rattle.order_writer.proofs.lay_snapshot.Lts as lts
use Rattle.order_writer.proofs.lay_snapshot.Tie as tie
use Rattle.order_writer.proofs.lay_snapshot.Reads as reads

-- Places in the code.
abbrev Start : Type 0
Start = lts.Start tie.the-claims reads.Pre reads.Post

abbrev After-lay-before_name : Type 0
After-lay-before_name = lts.After-lay tie.the-claims reads.Pre reads.Post

abbrev After-lay-after_name : Type 0
After-lay-after_name = lts.After-lay2 tie.the-claims reads.Pre reads.Post

abbrev After-lay_number-after_checksum : Type 0
After-lay_number-after_checksum = lts.After-lay_number tie.the-claims reads.Pre reads.Post

abbrev After-lay_listed-after_bids : Type 0
After-lay_listed-after_bids = lts.After-lay_listed tie.the-claims reads.Pre reads.Post

abbrev After-lay_listed-after_asks : Type 0
After-lay_listed-after_asks = lts.After-lay_listed2 tie.the-claims reads.Pre reads.Post

-- ---- the texts, and what is owed after each
abbrev opening : List ℕ
opening = ascii "{\"channel\":\"level3\",\"type\":\"snapshot\",\"data\":[{\"symbol\":\""

abbrev closing : List ℕ
closing = ascii "]}]}"

abbrev name : Start → List ℕ
name s = s.args.name.now

abbrev checksum_text : Start → List ℕ
checksum_text s = ascii "\",\"checksum\":" ++ written s.args.checksum

abbrev bids_text : Start → List ℕ
bids_text s = ascii ",\"bids\":[" ++ entries s.args.bids.now s.args.b

abbrev asks_text : Start → List ℕ
asks_text s = ascii "],\"asks\":[" ++ entries s.args.asks.now s.args.a

abbrev from_asks : Start → List ℕ
from_asks s = Snapshot.from_asks (entries s.args.asks.now s.args.a)

abbrev from_bids : Start → List ℕ
from_bids s = Snapshot.from_bids (entries s.args.bids.now s.args.b) (entries s.args.asks.now s.args.a)

abbrev from_checksum : Start → List ℕ
from_checksum s = Snapshot.from_checksum s.args.checksum (entries s.args.bids.now s.args.b) (entries s.args.asks.now s.args.a)

abbrev Left : Start → List ℕ → ℕ → List ℕ → Type 0
Left s = Whole s.args.buffer.now 0 (snapshot_text (name s) s.args.bids.now s.args.b s.args.asks.now s.args.a s.args.checksum)

left : (s : Start) → Left s s.args.buffer.now 0 (opening ++ (name s ++ from_checksum s))
left s = owed-as (text-parts (name s) s.args.bids.now s.args.b s.args.asks.now s.args.a s.args.checksum) s.requires.2

abbrev start₁ : After-lay-before_name → Start
start₁ c = c.before.before.before.before.before.before.before.before

before-name : (c : After-lay-before_name) → Left (start₁ c) c.lay-before_name.new.buffer c.lay-before_name.result (name (start₁ c) ++ from_checksum (start₁ c))
before-name c = owed-rest (left (start₁ c)) c.lay-before_name.ensures

abbrev start₂ : After-lay-after_name → Start
start₂ c = start₁ c.before.before.before.before

after-name : (c : After-lay-after_name) → Left (start₂ c) c.lay-after_name.new.buffer c.lay-after_name.result (from_checksum (start₂ c))
after-name c = owed-rest (before-name c.before.before.before.before) c.lay-after_name.ensures

abbrev start₃ : After-lay_number-after_checksum → Start
start₃ c = start₂ c.before.before.before.before.before.before

after-checksum : (c : After-lay_number-after_checksum) → Left (start₃ c) c.lay_number-after_checksum.new.buffer c.lay_number-after_checksum.result (from_bids (start₃ c))
after-checksum c = owed-rest (after-name c.before.before.before.before.before.before) c.lay_number-after_checksum.ensures

abbrev start₄ : After-lay_listed-after_bids → Start
start₄ c = start₃ c.before.before.before.before.before.before

after-bids : (c : After-lay_listed-after_bids) → Left (start₄ c) c.lay_listed-after_bids.new.buffer c.lay_listed-after_bids.result (from_asks (start₄ c))
after-bids c = owed-rest (after-checksum c.before.before.before.before.before.before) c.lay_listed-after_bids.ensures

abbrev start₅ : After-lay_listed-after_asks → Start
start₅ c = start₄ c.before.before.before.before.before.before

after-asks : (c : After-lay_listed-after_asks) → Left (start₅ c) c.lay_listed-after_asks.new.buffer c.lay_listed-after_asks.result closing
after-asks c = owed-rest (after-bids c.before.before.before.before.before.before) c.lay_listed-after_asks.ensures

-- ---- needs
pub lay-before_name-requires : goal.lay-before_name-requires
lay-before_name-requires c = let s = c.before.before.before.before.before.before.before.before in room-first opening (name s ++ from_checksum s) (left s)

pub lay-after_name-requires : goal.lay-after_name-requires
lay-after_name-requires c = let r = c.before.before.before.before in room-first (name (start₁ r)) (from_checksum (start₁ r)) (before-name r)

pub lay_number-after_checksum-requires : goal.lay_number-after_checksum-requires
lay_number-after_checksum-requires c = let r = c.before.before.before.before.before.before in room-first (checksum_text (start₂ r)) (from_bids (start₂ r)) (after-name r)

pub lay_listed-after_bids-requires : goal.lay_listed-after_bids-requires
lay_listed-after_bids-requires c = let r = c.before.before.before.before.before.before in ((start₃ r).requires.0, room-first (bids_text (start₃ r)) (from_asks (start₃ r)) (after-checksum r))

pub lay_listed-after_asks-requires : goal.lay_listed-after_asks-requires
lay_listed-after_asks-requires c = let r = c.before.before.before.before.before.before in ((start₄ r).requires.1, room-first (asks_text (start₄ r)) closing (after-bids r))

pub lay-requires : goal.lay-requires
lay-requires c = (after-asks c.before.before.before.before.before.before).room

pub returns : goal.returns
returns c = put_last (after-asks c.before.before.before.before.before.before.before.before.before) refl c.lay.ensures
