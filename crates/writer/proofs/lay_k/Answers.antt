-- `lay_k` meets its contract: its texts are laid one after another.
use Prim.Native.Nat.{ℕ}
use mathlib.Core.Path.{refl}
use mathlib.Core.Bool.{true}
use mathlib.Core.List.{List, ◌++◌}
use Rattle.text.specs.Text.{ascii}
use Rattle.decimal.specs.Digits.{written}
use Rattle.writer.specs.Parts.{entries, k_snapshot_text}
use Rattle.writer.proofs.Owed.{Whole, owed-as, owed-rest, room-first, put_last}
use Rattle.writer.proofs.Texts.{k_from_bids, k_from_depth, k_from_names, k-parts}
use Rattle.writer.proofs.lay_k.Goals as goal
use Rattle.writer.proofs.lay_k.Lts as lts
use Rattle.writer.proofs.lay_k.Tie as tie
use Rattle.writer.proofs.lay_k.Reads as reads

-- Places in the code.
abbrev Start : Type 0
Start = lts.Start tie.the-claims reads.Pre reads.Post

abbrev After-lay_listed-after_asks : Type 0
After-lay_listed-after_asks = lts.After-lay_listed tie.the-claims reads.Pre reads.Post

abbrev After-lay_listed-after_bids : Type 0
After-lay_listed-after_bids = lts.After-lay_listed2 tie.the-claims reads.Pre reads.Post

abbrev After-lay_number-after_depth : Type 0
After-lay_number-after_depth = lts.After-lay_number tie.the-claims reads.Pre reads.Post

abbrev After-lay-before_name : Type 0
After-lay-before_name = lts.After-lay tie.the-claims reads.Pre reads.Post

abbrev After-lay-after_name : Type 0
After-lay-after_name = lts.After-lay2 tie.the-claims reads.Pre reads.Post

-- ---- the texts, and what is owed after each
abbrev whole : Start → List ℕ
whole s = k_snapshot_text s.args.depth s.args.name.now s.args.bids s.args.asks

abbrev asks_text : Start → List ℕ
asks_text s = ascii "[0,{\"as\":[" ++ entries true s.args.asks

abbrev bids_text : Start → List ℕ
bids_text s = ascii "],\"bs\":[" ++ entries true s.args.bids

abbrev depth_text : Start → List ℕ
depth_text s = ascii "]},\"book-" ++ written s.args.depth

abbrev from_bids : Start → List ℕ
from_bids s = k_from_bids s.args.depth s.args.name.now s.args.bids s.args.asks

abbrev from_depth : Start → List ℕ
from_depth s = k_from_depth s.args.depth s.args.name.now s.args.bids s.args.asks

abbrev from_names : Start → List ℕ
from_names s = k_from_names s.args.depth s.args.name.now s.args.bids s.args.asks

abbrev from_name : Start → List ℕ
from_name s = s.args.name.now ++ ascii "\"]"

abbrev Left : Start → List ℕ → ℕ → List ℕ → Type 0
Left s = Whole s.args.buffer.now 0 (whole s)

left : (s : Start) → Left s s.args.buffer.now 0 (asks_text s ++ from_bids s)
left s = owed-as (k-parts s.args.depth s.args.name.now s.args.bids s.args.asks) s.requires.2

abbrev start₁ : After-lay_listed-after_asks → Start
start₁ c = c.before.before.before.before.before.before

after-asks : (c : After-lay_listed-after_asks) → Left (start₁ c) c.lay_listed-after_asks.new.buffer c.lay_listed-after_asks.result (from_bids (start₁ c))
after-asks c = owed-rest (left (start₁ c)) c.lay_listed-after_asks.ensures

abbrev start₂ : After-lay_listed-after_bids → Start
start₂ c = start₁ c.before.before.before.before.before.before

after-bids : (c : After-lay_listed-after_bids) → Left (start₂ c) c.lay_listed-after_bids.new.buffer c.lay_listed-after_bids.result (from_depth (start₂ c))
after-bids c = owed-rest (after-asks c.before.before.before.before.before.before) c.lay_listed-after_bids.ensures

abbrev start₃ : After-lay_number-after_depth → Start
start₃ c = start₂ c.before.before.before.before.before.before

after-depth : (c : After-lay_number-after_depth) → Left (start₃ c) c.lay_number-after_depth.new.buffer c.lay_number-after_depth.result (from_names (start₃ c))
after-depth c = owed-rest (after-bids c.before.before.before.before.before.before) c.lay_number-after_depth.ensures

abbrev start₄ : After-lay-before_name → Start
start₄ c = start₃ c.before.before.before.before.before.before

before-name : (c : After-lay-before_name) → Left (start₄ c) c.lay-before_name.new.buffer c.lay-before_name.result (from_name (start₄ c))
before-name c = owed-rest (after-depth c.before.before.before.before.before.before) c.lay-before_name.ensures

abbrev start₅ : After-lay-after_name → Start
start₅ c = start₄ c.before.before.before.before

after-name : (c : After-lay-after_name) → Left (start₅ c) c.lay-after_name.new.buffer c.lay-after_name.result (ascii "\"]")
after-name c = owed-rest (before-name c.before.before.before.before) c.lay-after_name.ensures

-- ---- needs
pub lay_listed-after_asks-requires : goal.lay_listed-after_asks-requires
lay_listed-after_asks-requires c = (c.requires.1, room-first (asks_text c.before.before.before.before.before.before) (from_bids c.before.before.before.before.before.before) (left c.before.before.before.before.before.before))

pub lay_listed-after_bids-requires : goal.lay_listed-after_bids-requires
lay_listed-after_bids-requires c = ((start₁ c.before.before.before.before.before.before).requires.0, room-first (bids_text (start₁ c.before.before.before.before.before.before)) (from_depth (start₁ c.before.before.before.before.before.before)) (after-asks c.before.before.before.before.before.before))

pub lay_number-after_depth-requires : goal.lay_number-after_depth-requires
lay_number-after_depth-requires c = room-first (depth_text (start₂ c.before.before.before.before.before.before)) (from_names (start₂ c.before.before.before.before.before.before)) (after-bids c.before.before.before.before.before.before)

pub lay-before_name-requires : goal.lay-before_name-requires
lay-before_name-requires c = room-first (ascii "\",\"") (from_name (start₃ c.before.before.before.before.before.before)) (after-depth c.before.before.before.before.before.before)

pub lay-after_name-requires : goal.lay-after_name-requires
lay-after_name-requires c = room-first (start₄ c.before.before.before.before).args.name.now (ascii "\"]") (before-name c.before.before.before.before)

pub lay-requires : goal.lay-requires
lay-requires c = (after-name c.before.before.before.before.before.before).room

pub returns : goal.returns
returns c = put_last (after-name c.before.before.before.before.before.before.before.before.before) refl c.lay.ensures
