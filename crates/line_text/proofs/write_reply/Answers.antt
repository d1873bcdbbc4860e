-- `write_reply` meets its contract: the number is laid, then what follows it in a book that is live or is not.
use Prim.Native.Nat.{ℕ}
use mathlib.Core.Path.{◌≡◌, refl, ap}
use mathlib.Core.Bool.{Bool, true, false, cond}
use mathlib.Core.List.{List, ◌++◌}
use Rattle.text.specs.Text.{ascii}
use Rattle.decimal.specs.Digits.{written}
use Rattle.answer.specs.Answers.{answer_number}
use Rattle.writer.proofs.Owed.{Whole, owed-as, owed-rest-as, room-first-as, room-all, put_last}
use Rattle.line_text.specs.Reply.{counts_text, reply_text}
use Rattle.line_text.proofs.write_reply.Goals as goal
use Rattle.line_text.proofs.write_reply.Lts as lts
use Rattle.line_text.proofs.write_reply.Tie as tie
use Rattle.line_text.proofs.write_reply.Reads as reads

-- Places in the code.
abbrev Start : Type 0
Start = lts.Start tie.the-claims reads.Pre reads.Post

abbrev After-lay_whole-end : Type 0
After-lay_whole-end = lts.After-lay_whole tie.the-claims reads.Pre reads.Post

-- ---- the texts, and what is owed after the number
abbrev number_text : Start → List ℕ
number_text s = written (answer_number s.args.answer)

abbrev from_counts : Start → List ℕ
from_counts s = cond s.args.live (counts_text s.args.bids s.args.asks) (ascii " - -\n")

abbrev Left : Start → List ℕ → ℕ → List ℕ → Type 0
Left s = Whole s.args.buffer.now s.args.at (reply_text s.args.answer s.args.live s.args.bids s.args.asks)

left : (s : Start) → Left s s.args.buffer.now s.args.at (number_text s ++ from_counts s)
unfolding reply_text
left s = owed-as refl s.requires

abbrev start₁ : After-lay_whole-end → Start
start₁ c = c.before.before.before.before

after-number : (c : After-lay_whole-end) → Left (start₁ c) c.lay_whole-end.new.buffer c.lay_whole-end.result (from_counts (start₁ c))
after-number c = owed-rest-as (ap written c.number_of.ensures) (left (start₁ c)) c.lay_whole-end.ensures

follows : Start → Bool → List ℕ
follows s b = cond b (counts_text s.args.bids s.args.asks) (ascii " - -\n")

is_live : (s : Start) → s.args.live ≡ true → from_counts s ≡ counts_text s.args.bids s.args.asks
unfolding follows
is_live s e = ap (follows s) e

not_live : (s : Start) → s.args.live ≡ false → from_counts s ≡ ascii " - -\n"
unfolding follows
not_live s e = ap (follows s) e

-- ---- needs
pub lay_whole-end-requires : goal.lay_whole-end-requires
lay_whole-end-requires c = room-first-as (number_text c.before.before.before) (from_counts c.before.before.before) (ap written c.number_of.ensures) (left c.before.before.before)

pub lay_counts-requires : goal.lay_counts-requires
lay_counts-requires c = room-all (after-number c.before.before.before.before) (is_live (start₁ c.before.before.before.before) c.if-live.true)

pub returns-then-live : goal.returns-then-live
returns-then-live c = put_last (after-number c.before.before.before.before.before.before.before.before) (is_live (start₁ c.before.before.before.before.before.before.before.before) c.if-live.true) c.lay_counts.ensures

pub lay-requires : goal.lay-requires
lay-requires c = room-all (after-number c.before.before.before.before.before.before) (not_live (start₁ c.before.before.before.before.before.before) c.if-live.false)

pub returns : goal.returns
returns c = put_last (after-number c.before.before.before.before.before.before.before.before.before.before) (not_live (start₁ c.before.before.before.before.before.before.before.before.before.before) c.if-live.false) c.lay.ensures
