-- `lay_counts` meets its contract: its texts are laid one after another.
use Prim.Native.Nat.{ℕ}
use mathlib.Core.Path.{refl}
use mathlib.Core.List.{List, ◌++◌}
use Rattle.text.specs.Text.{ascii}
use Rattle.decimal.specs.Digits.{written}
use Rattle.writer.proofs.Owed.{Whole, owed-as, owed-rest, room-first, put_last}
use Rattle.line_text.specs.Reply.{counts_text}
use Rattle.line_text.proofs.lay_counts.Goals as goal
use Rattle.line_text.proofs.lay_counts.Lts as lts
use Rattle.line_text.proofs.lay_counts.Tie as tie
use Rattle.line_text.proofs.lay_counts.Reads as reads

-- Places in the code.
abbrev Start : Type 0
Start = lts.Start tie.the-claims reads.Pre reads.Post

abbrev After-lay_number-after_bids : Type 0
After-lay_number-after_bids = lts.After-lay_number tie.the-claims reads.Pre reads.Post

abbrev After-lay_number-after_asks : Type 0
After-lay_number-after_asks = lts.After-lay_number2 tie.the-claims reads.Pre reads.Post

-- ---- the texts, and what is owed after each
abbrev bids_text : Start → List ℕ
bids_text s = ascii " " ++ written s.args.bids

abbrev asks_text : Start → List ℕ
asks_text s = ascii " " ++ written s.args.asks

abbrev from_asks : Start → List ℕ
from_asks s = asks_text s ++ ascii "\n"

abbrev Left : Start → List ℕ → ℕ → List ℕ → Type 0
Left s = Whole s.args.buffer.now s.args.at (counts_text s.args.bids s.args.asks)

left : (s : Start) → Left s s.args.buffer.now s.args.at (bids_text s ++ from_asks s)
unfolding counts_text
left s = owed-as refl s.requires

abbrev start₁ : After-lay_number-after_bids → Start
start₁ c = c.before.before.before.before.before

after-bids : (c : After-lay_number-after_bids) → Left (start₁ c) c.lay_number-after_bids.new.buffer c.lay_number-after_bids.result (from_asks (start₁ c))
after-bids c = owed-rest (left (start₁ c)) c.lay_number-after_bids.ensures

abbrev start₂ : After-lay_number-after_asks → Start
start₂ c = start₁ c.before.before.before.before.before.before

after-asks : (c : After-lay_number-after_asks) → Left (start₂ c) c.lay_number-after_asks.new.buffer c.lay_number-after_asks.result (ascii "\n")
after-asks c = owed-rest (after-bids c.before.before.before.before.before.before) c.lay_number-after_asks.ensures

-- ---- needs
pub lay_number-after_bids-requires : goal.lay_number-after_bids-requires
lay_number-after_bids-requires c = room-first (bids_text c.before.before.before.before) (from_asks c.before.before.before.before) (left c.before.before.before.before)

pub lay_number-after_asks-requires : goal.lay_number-after_asks-requires
lay_number-after_asks-requires c = room-first (asks_text (start₁ c.before.before.before.before.before)) (ascii "\n") (after-bids c.before.before.before.before.before)

pub lay-requires : goal.lay-requires
lay-requires c = (after-asks c.before.before.before.before.before).room

pub returns : goal.returns
returns c = put_last (after-asks c.before.before.before.before.before.before.before.before.before) refl c.lay.ensures
