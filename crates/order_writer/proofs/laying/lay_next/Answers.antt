-- `lay_next` meets its contract: a comma is laid, and then the order.
use Prim.Native.Nat.{ℕ}
use mathlib.Core.Path.{refl}
use mathlib.Core.List.{List, ◌++◌}
use Rattle.text.specs.Text.{ascii}
use Rattle.writer.proofs.Owed.{Whole, owed_all, owed-rest, room-first, put_last}
use Rattle.order_writer.specs.Parts.{entry, next_entry}
use Rattle.order_writer.proofs.laying.lay_next.Goals as goal
use Rattle.order_writer.proofs.laying.lay_next.Lts as lts
use Rattle.order_writer.proofs.laying.lay_next.Tie as tie
use Rattle.order_writer.proofs.laying.lay_next.Reads as reads

-- Places in the code.
abbrev Start : Type 0
Start = lts.Start tie.the-claims reads.Pre reads.Post

abbrev After-lay-past_comma : Type 0
After-lay-past_comma = lts.After-lay tie.the-claims reads.Pre reads.Post

-- ---- the texts, and what is owed after each
abbrev rest : Start → List ℕ
rest s = entry s.args.order

abbrev Left : Start → List ℕ → ℕ → List ℕ → Type 0
Left s = Whole s.args.buffer.now s.args.at (next_entry s.args.order)

left : (s : Start) → Left s s.args.buffer.now s.args.at (ascii "," ++ rest s)
unfolding next_entry
left s = owed_all s.requires.1

abbrev start : After-lay-past_comma → Start
start c = c.before.before.before.before.before

left-rest : (c : After-lay-past_comma) → Left (start c) c.lay-past_comma.new.buffer c.lay-past_comma.result (rest (start c))
left-rest c = owed-rest (left (start c)) c.lay-past_comma.ensures

-- ---- needs
pub lay-past_comma-requires : goal.lay-past_comma-requires
lay-past_comma-requires c = let s = c.before.before.before.before in room-first (ascii ",") (rest s) (left s)

pub lay_order-requires : goal.lay_order-requires
lay_order-requires c = let r = c.before.before.before in ((start r).requires.0, (left-rest r).room)

pub returns : goal.returns
returns c = put_last (left-rest c.before.before.before.before.before.before.before) refl c.lay_order.ensures
