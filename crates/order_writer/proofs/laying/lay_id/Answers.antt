-- `lay_id` meets its contract: the bytes of its words are laid one after another.
use Prim.Native.Nat.{ℕ}
use mathlib.Core.Path.{refl}
use mathlib.Core.List.{List, ◌++◌}
use Rattle.order_edit.specs.Ids.{bytes_of, id_bytes}
use Rattle.writer.proofs.Owed.{Whole, owed_all, owed-rest, room-first, put_last}
use Rattle.order_writer.proofs.laying.lay_id.Goals as goal
use Rattle.order_writer.proofs.laying.lay_id.Lts as lts
use Rattle.order_writer.proofs.laying.lay_id.Tie as tie
use Rattle.order_writer.proofs.laying.lay_id.Reads as reads

-- Places in the code.
abbrev Start : Type 0
Start = lts.Start tie.the-claims reads.Pre reads.Post

abbrev After-lay_word-after_first : Type 0
After-lay_word-after_first = lts.After-lay_word tie.the-claims reads.Pre reads.Post

abbrev After-lay_word-after_second : Type 0
After-lay_word-after_second = lts.After-lay_word2 tie.the-claims reads.Pre reads.Post

-- ---- the texts, and what is owed after each
abbrev first : Start → List ℕ
first s = bytes_of 8 s.args.id.first

abbrev second : Start → List ℕ
second s = bytes_of 8 s.args.id.second

abbrev third : Start → List ℕ
third s = bytes_of 8 s.args.id.third

abbrev Left : Start → List ℕ → ℕ → List ℕ → Type 0
Left s = Whole s.args.buffer.now s.args.at (id_bytes s.args.id)

left : (s : Start) → Left s s.args.buffer.now s.args.at (first s ++ (second s ++ third s))
unfolding id_bytes
left s = owed_all s.requires

abbrev start₁ : After-lay_word-after_first → Start
start₁ c = c.before.before.before

left-second : (c : After-lay_word-after_first) → Left (start₁ c) c.lay_word-after_first.new.buffer c.lay_word-after_first.result (second (start₁ c) ++ third (start₁ c))
left-second c = owed-rest (left (start₁ c)) c.lay_word-after_first.ensures

abbrev start₂ : After-lay_word-after_second → Start
start₂ c = start₁ c.before.before.before.before

left-third : (c : After-lay_word-after_second) → Left (start₂ c) c.lay_word-after_second.new.buffer c.lay_word-after_second.result (third (start₂ c))
left-third c = owed-rest (left-second c.before.before.before.before) c.lay_word-after_second.ensures

-- ---- needs
pub lay_word-after_first-requires : goal.lay_word-after_first-requires
lay_word-after_first-requires c = let s = c.before.before in room-first (first s) (second s ++ third s) (left s)

pub lay_word-after_second-requires : goal.lay_word-after_second-requires
lay_word-after_second-requires c = let r = c.before.before.before in room-first (second (start₁ r)) (third (start₁ r)) (left-second r)

pub lay_word-requires : goal.lay_word-requires
lay_word-requires c = (left-third c.before.before.before).room

pub returns : goal.returns
returns c = put_last (left-third c.before.before.before.before.before.before.before) refl c.lay_word.ensures
