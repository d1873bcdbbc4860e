-- `lay_listed` meets its contract: the text is laid, and then the orders.
use Prim.Native.Nat.{ℕ}
use mathlib.Core.Path.{refl}
use mathlib.Core.List.{List, ◌++◌}
use Rattle.writer.proofs.Owed.{Whole, owed_all, owed-rest, room-first, put_last}
use Rattle.order_writer.specs.Parts.{entries}
use Rattle.order_writer.proofs.laying.lay_listed.Goals as goal
use Rattle.order_writer.proofs.laying.lay_listed.Lts as lts
use Rattle.order_writer.proofs.laying.lay_listed.Tie as tie
use Rattle.order_writer.proofs.laying.lay_listed.Reads as reads

-- Places in the code.
abbrev Start : Type 0
Start = lts.Start tie.the-claims reads.Pre reads.Post

abbrev After-lay-start : Type 0
After-lay-start = lts.After-lay tie.the-claims reads.Pre reads.Post

-- ---- the texts, and what is owed after each
abbrev text : Start → List ℕ
text s = s.args.before.now

abbrev rest : Start → List ℕ
rest s = entries s.args.words.now s.args.n

abbrev Left : Start → List ℕ → ℕ → List ℕ → Type 0
Left s = Whole s.args.buffer.now s.args.at (text s ++ rest s)

left : (s : Start) → Left s s.args.buffer.now s.args.at (text s ++ rest s)
left s = owed_all s.requires.1

abbrev start : After-lay-start → Start
start c = c.before.before.before.before.before

left-rest : (c : After-lay-start) → Left (start c) c.lay-start.new.buffer c.lay-start.result (rest (start c))
left-rest c = owed-rest (left (start c)) c.lay-start.ensures

-- ---- needs
pub lay-start-requires : goal.lay-start-requires
lay-start-requires c = let s = c.before.before.before.before.before in room-first (text s) (rest s) (left s)

pub lay_side-requires : goal.lay_side-requires
lay_side-requires c = let r = c.before.before.before.before in ((start r).requires.0, (left-rest r).room)

pub returns : goal.returns
returns c = put_last (left-rest c.before.before.before.before.before.before.before) refl c.lay_side.ensures
