-- `lay_next` meets its contract: a comma is laid, and then the entry.
use Prim.Native.Nat.{ℕ}
use mathlib.Core.Path.{refl}
use mathlib.Core.List.{List, ◌++◌}
use Rattle.text.specs.Text.{ascii}
use Rattle.writer.specs.Parts.{entry, next_entry}
use Rattle.writer.proofs.Owed.{Whole, owed_all, owed-rest, room-first, put_last}
use Rattle.writer.proofs.laying.lay_next.Goals as goal
use Rattle.writer.proofs.laying.lay_next.Lts as lts
use Rattle.writer.proofs.laying.lay_next.Tie as tie
use Rattle.writer.proofs.laying.lay_next.Reads as reads

-- Places in the code.
abbrev Start : Type 0
Start = lts.Start tie.the-claims reads.Pre reads.Post

abbrev After-lay-past_comma : Type 0
After-lay-past_comma = lts.After-lay tie.the-claims reads.Pre reads.Post

-- ---- the texts, and what is owed after each
abbrev text : Start → List ℕ
text s = ascii ","

abbrev rest : Start → List ℕ
rest s = entry s.args.stamped s.args.level

abbrev Left : Start → List ℕ → ℕ → List ℕ → Type 0
Left s = Whole s.args.buffer.now s.args.at (next_entry s.args.stamped s.args.level)

left : (s : Start) → Left s s.args.buffer.now s.args.at (text s ++ rest s)
unfolding next_entry
left s = owed_all s.requires.1

abbrev start₁ : After-lay-past_comma → Start
start₁ c = c.before.before.before.before.before

left-rest : (c : After-lay-past_comma) → Left (start₁ c) c.lay-past_comma.new.buffer c.lay-past_comma.result (rest (start₁ c))
left-rest c = owed-rest (left (start₁ c)) c.lay-past_comma.ensures

-- ---- needs
pub lay-past_comma-requires : goal.lay-past_comma-requires
lay-past_comma-requires c = room-first (text c.before.before.before.before) (rest c.before.before.before.before) (left c.before.before.before.before)

pub lay_entry-requires : goal.lay_entry-requires
lay_entry-requires c = ((start₁ c.before.before.before).requires.0, (left-rest c.before.before.before).room)

pub returns : goal.returns
returns c = put_last (left-rest c.before.before.before.before.before.before.before) refl c.lay_entry.ensures
