-- `lay_m` meets its contract: its texts are laid one after another.
use Prim.Native.Nat.{ℕ}
use mathlib.Core.Path.{refl}
use mathlib.Core.Bool.{false}
use mathlib.Core.List.{List, ◌++◌}
use Rattle.text.specs.Text.{ascii}
use Rattle.decimal.specs.Digits.{written}
use Rattle.writer.specs.Parts.{entries, m_snapshot_text, Put}
use Rattle.writer.proofs.Owed.{Whole, owed-as, owed-rest, room-first, put_last, put-length}
use Rattle.writer.proofs.Texts.{m_from_bids, m_from_asks, m_from_checksum, m_from_number, m-parts}
use Rattle.writer.proofs.lay_m.Goals as goal
use Rattle.writer.proofs.lay_m.Lts as lts
use Rattle.writer.proofs.lay_m.Tie as tie
use Rattle.writer.proofs.lay_m.Reads as reads

-- Places in the code.
abbrev Start : Type 0
Start = lts.Start tie.the-claims reads.Pre reads.Post

abbrev After-lay-before_name : Type 0
After-lay-before_name = lts.After-lay tie.the-claims reads.Pre reads.Post

abbrev After-lay-after_name : Type 0
After-lay-after_name = lts.After-lay2 tie.the-claims reads.Pre reads.Post

abbrev After-lay_listed-after_bids : Type 0
After-lay_listed-after_bids = lts.After-lay_listed tie.the-claims reads.Pre reads.Post

abbrev After-lay_listed-after_asks : Type 0
After-lay_listed-after_asks = lts.After-lay_listed2 tie.the-claims reads.Pre reads.Post

abbrev After-lay_number-after_checksum : Type 0
After-lay_number-after_checksum = lts.After-lay_number tie.the-claims reads.Pre reads.Post

abbrev After-lay_number-after_number : Type 0
After-lay_number-after_number = lts.After-lay_number2 tie.the-claims reads.Pre reads.Post

abbrev After-lay : Type 0
After-lay = lts.After-lay3 tie.the-claims reads.Pre reads.Post

-- ---- the texts, and what is owed after each
abbrev whole : Start → List ℕ
whole s = m_snapshot_text s.args.name.now s.args.bids s.args.asks s.args.checksum s.args.number

abbrev opening : Start → List ℕ
opening s = ascii "{\"channel\":\"book\",\"product\":\""

abbrev bids_text : Start → List ℕ
bids_text s = ascii "\",\"type\":\"snapshot\",\"data\":{\"bids\":[" ++ entries false s.args.bids

abbrev asks_text : Start → List ℕ
asks_text s = ascii "],\"asks\":[" ++ entries false s.args.asks

abbrev checksum_text : Start → List ℕ
checksum_text s = ascii "]},\"checksum\":" ++ written s.args.checksum

abbrev number_text : Start → List ℕ
number_text s = ascii ",\"gsn\":" ++ written s.args.number

abbrev from_bids : Start → List ℕ
from_bids s = m_from_bids s.args.name.now s.args.bids s.args.asks s.args.checksum s.args.number

abbrev from_asks : Start → List ℕ
from_asks s = m_from_asks s.args.name.now s.args.bids s.args.asks s.args.checksum s.args.number

abbrev from_checksum : Start → List ℕ
from_checksum s = m_from_checksum s.args.name.now s.args.bids s.args.asks s.args.checksum s.args.number

abbrev from_number : Start → List ℕ
from_number s = m_from_number s.args.name.now s.args.bids s.args.asks s.args.checksum s.args.number

abbrev from_name : Start → List ℕ
from_name s = s.args.name.now ++ from_bids s

abbrev Left : Start → List ℕ → ℕ → List ℕ → Type 0
Left s = Whole s.args.buffer.now 0 (whole s)

left : (s : Start) → Left s s.args.buffer.now 0 (opening s ++ from_name s)
left s = owed-as (m-parts s.args.name.now s.args.bids s.args.asks s.args.checksum s.args.number) s.requires.2

abbrev start₁ : After-lay-before_name → Start
start₁ c = c.before.before.before.before.before.before

before-name : (c : After-lay-before_name) → Left (start₁ c) c.lay-before_name.new.buffer c.lay-before_name.result (from_name (start₁ c))
before-name c = owed-rest (left (start₁ c)) c.lay-before_name.ensures

abbrev start₂ : After-lay-after_name → Start
start₂ c = start₁ c.before.before.before.before

after-name : (c : After-lay-after_name) → Left (start₂ c) c.lay-after_name.new.buffer c.lay-after_name.result (from_bids (start₂ c))
after-name c = owed-rest (before-name c.before.before.before.before) c.lay-after_name.ensures

abbrev start₃ : After-lay_listed-after_bids → Start
start₃ c = start₂ c.before.before.before.before.before.before

after-bids : (c : After-lay_listed-after_bids) → Left (start₃ c) c.lay_listed-after_bids.new.buffer c.lay_listed-after_bids.result (from_asks (start₃ c))
after-bids c = owed-rest (after-name c.before.before.before.before.before.before) c.lay_listed-after_bids.ensures

abbrev start₄ : After-lay_listed-after_asks → Start
start₄ c = start₃ c.before.before.before.before.before.before

after-asks : (c : After-lay_listed-after_asks) → Left (start₄ c) c.lay_listed-after_asks.new.buffer c.lay_listed-after_asks.result (from_checksum (start₄ c))
after-asks c = owed-rest (after-bids c.before.before.before.before.before.before) c.lay_listed-after_asks.ensures

abbrev start₅ : After-lay_number-after_checksum → Start
start₅ c = start₄ c.before.before.before.before.before.before

after-checksum : (c : After-lay_number-after_checksum) → Left (start₅ c) c.lay_number-after_checksum.new.buffer c.lay_number-after_checksum.result (from_number (start₅ c))
after-checksum c = owed-rest (after-asks c.before.before.before.before.before.before) c.lay_number-after_checksum.ensures

abbrev start₆ : After-lay_number-after_number → Start
start₆ c = start₅ c.before.before.before.before.before.before

after-number : (c : After-lay_number-after_number) → Left (start₆ c) c.lay_number-after_number.new.buffer c.lay_number-after_number.result (ascii "}")
after-number c = owed-rest (after-checksum c.before.before.before.before.before.before) c.lay_number-after_number.ensures

all_laid : (c : After-lay) → Put (start₆ c.before.before.before.before.before.before).args.buffer.now 0 (whole (start₆ c.before.before.before.before.before.before)) c.lay.new.buffer c.lay.result
all_laid c = put_last (after-number c.before.before.before.before.before.before) refl c.lay.ensures

-- ---- needs
pub lay-before_name-requires : goal.lay-before_name-requires
lay-before_name-requires c = room-first (opening c.before.before.before.before.before.before) (from_name c.before.before.before.before.before.before) (left c.before.before.before.before.before.before)

pub lay-after_name-requires : goal.lay-after_name-requires
lay-after_name-requires c = room-first (start₁ c.before.before.before.before).args.name.now (from_bids (start₁ c.before.before.before.before)) (before-name c.before.before.before.before)

pub lay_listed-after_bids-requires : goal.lay_listed-after_bids-requires
lay_listed-after_bids-requires c = ((start₂ c.before.before.before.before.before.before).requires.0, room-first (bids_text (start₂ c.before.before.before.before.before.before)) (from_asks (start₂ c.before.before.before.before.before.before)) (after-name c.before.before.before.before.before.before))

pub lay_listed-after_asks-requires : goal.lay_listed-after_asks-requires
lay_listed-after_asks-requires c = ((start₃ c.before.before.before.before.before.before).requires.1, room-first (asks_text (start₃ c.before.before.before.before.before.before)) (from_checksum (start₃ c.before.before.before.before.before.before)) (after-bids c.before.before.before.before.before.before))

pub lay_number-after_checksum-requires : goal.lay_number-after_checksum-requires
lay_number-after_checksum-requires c = room-first (checksum_text (start₄ c.before.before.before.before.before.before)) (from_number (start₄ c.before.before.before.before.before.before)) (after-asks c.before.before.before.before.before.before)

pub lay_number-after_number-requires : goal.lay_number-after_number-requires
lay_number-after_number-requires c = room-first (number_text (start₅ c.before.before.before.before.before.before)) (ascii "}") (after-checksum c.before.before.before.before.before.before)

pub lay-requires : goal.lay-requires
lay-requires c = (after-number c.before.before.before.before.before.before).room

pub shape_of-buffer : goal.shape_of-buffer
shape_of-buffer c = put-length (start₆ c.before.before.before.before.before.before.before.before.before).requires.2 (all_laid c.before.before.before)

pub returns : goal.returns
returns c = all_laid c.before.before.before
