-- `lay_entry` meets its contract: its texts are laid one after another.
use Prim.Native.Nat.{ℕ}
use mathlib.Core.Path.{ap}
use mathlib.Core.List.{List, ◌++◌}
use Rattle.text.specs.Text.{ascii}
use Rattle.decimal.specs.Decimal.{text}
use Rattle.level.specs.Words.{level_price, level_size}
use Rattle.writer.specs.Parts.{entry}
use Rattle.writer.proofs.Owed.{Whole, owed-as, owed-rest, owed-rest-as, room-first, room-first-as, room-all, put_last}
use Rattle.writer.proofs.Entries.{closing, stamped-closing, plain-closing, entry-parts}
use Rattle.writer.proofs.laying.lay_entry.Goals as goal
use Rattle.writer.proofs.laying.lay_entry.Lts as lts
use Rattle.writer.proofs.laying.lay_entry.Tie as tie
use Rattle.writer.proofs.laying.lay_entry.Reads as reads

-- Places in the code.
abbrev Start : Type 0
Start = lts.Start tie.the-claims reads.Pre reads.Post

abbrev After-lay-before_price : Type 0
After-lay-before_price = lts.After-lay tie.the-claims reads.Pre reads.Post

abbrev After-lay_decimal-after_price : Type 0
After-lay_decimal-after_price = lts.After-lay_decimal tie.the-claims reads.Pre reads.Post

abbrev After-lay-before_size : Type 0
After-lay-before_size = lts.After-lay2 tie.the-claims reads.Pre reads.Post

abbrev After-lay_decimal-after_size : Type 0
After-lay_decimal-after_size = lts.After-lay_decimal2 tie.the-claims reads.Pre reads.Post

-- ---- the texts, and what is owed after each
abbrev price_text : Start → List ℕ
price_text s = text (level_price s.args.level)

abbrev size_text : Start → List ℕ
size_text s = text (level_size s.args.level)

abbrev end : Start → List ℕ
end s = closing s.args.stamped

abbrev from_size : Start → List ℕ
from_size s = size_text s ++ end s

abbrev from_comma : Start → List ℕ
from_comma s = ascii "\",\"" ++ from_size s

abbrev from_price : Start → List ℕ
from_price s = price_text s ++ from_comma s

abbrev Left : Start → List ℕ → ℕ → List ℕ → Type 0
Left s = Whole s.args.buffer.now s.args.at (entry s.args.stamped s.args.level)

left : (s : Start) → Left s s.args.buffer.now s.args.at (ascii "[\"" ++ from_price s)
left s = owed-as (entry-parts s.args.stamped s.args.level) s.requires.1

abbrev start₁ : After-lay-before_price → Start
start₁ c = c.before.before.before.before.before

left-price : (c : After-lay-before_price) → Left (start₁ c) c.lay-before_price.new.buffer c.lay-before_price.result (from_price (start₁ c))
left-price c = owed-rest (left (start₁ c)) c.lay-before_price.ensures

abbrev start₂ : After-lay_decimal-after_price → Start
start₂ c = start₁ c.before.before.before.before.before

left-comma : (c : After-lay_decimal-after_price) → Left (start₂ c) c.lay_decimal-after_price.new.buffer c.lay_decimal-after_price.result (from_comma (start₂ c))
left-comma c = owed-rest-as (ap text c.price_of.ensures) (left-price c.before.before.before.before.before) c.lay_decimal-after_price.ensures

abbrev start₃ : After-lay-before_size → Start
start₃ c = start₂ c.before.before.before.before.before.before

left-size : (c : After-lay-before_size) → Left (start₃ c) c.lay-before_size.new.buffer c.lay-before_size.result (from_size (start₃ c))
left-size c = owed-rest (left-comma c.before.before.before.before.before.before) c.lay-before_size.ensures

abbrev start₄ : After-lay_decimal-after_size → Start
start₄ c = start₃ c.before.before.before.before.before

left_end : (c : After-lay_decimal-after_size) → Left (start₄ c) c.lay_decimal-after_size.new.buffer c.lay_decimal-after_size.result (end (start₄ c))
left_end c = owed-rest-as (ap text c.size_of.ensures) (left-size c.before.before.before.before.before) c.lay_decimal-after_size.ensures

-- ---- needs
pub lay-before_price-requires : goal.lay-before_price-requires
lay-before_price-requires c = room-first (ascii "[\"") (from_price c.before.before.before.before) (left c.before.before.before.before)

pub lay_decimal-after_price-requires : goal.lay_decimal-after_price-requires
lay_decimal-after_price-requires c = (rw c.price_of.ensures (start₁ c.before.before.before.before).requires.0.price, room-first-as (price_text (start₁ c.before.before.before.before)) (from_comma (start₁ c.before.before.before.before)) (ap text c.price_of.ensures) (left-price c.before.before.before.before))

pub lay-before_size-requires : goal.lay-before_size-requires
lay-before_size-requires c = room-first (ascii "\",\"") (from_size (start₂ c.before.before.before.before.before)) (left-comma c.before.before.before.before.before)

pub lay_decimal-after_size-requires : goal.lay_decimal-after_size-requires
lay_decimal-after_size-requires c = (rw c.size_of.ensures (start₃ c.before.before.before.before).requires.0.size, room-first-as (size_text (start₃ c.before.before.before.before)) (end (start₃ c.before.before.before.before)) (ap text c.size_of.ensures) (left-size c.before.before.before.before))

pub lay-requires : goal.lay-requires
lay-requires c = room-all (left_end c.before.before.before.before.before.before) (stamped-closing c.if-stamped.true)

pub returns-then-stamped : goal.returns-then-stamped
returns-then-stamped c = put_last (left_end c.before.before.before.before.before.before.before.before.before.before) (stamped-closing c.if-stamped.true) c.lay.ensures

pub lay-requires-2 : goal.lay-requires-2
lay-requires-2 c = room-all (left_end c.before.before.before.before.before.before) (plain-closing c.if-stamped.false)

pub returns : goal.returns
returns c = put_last (left_end c.before.before.before.before.before.before.before.before.before.before) (plain-closing c.if-stamped.false) c.lay-2.ensures
