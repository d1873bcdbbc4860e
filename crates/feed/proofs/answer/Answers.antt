-- `answer` meets its contract: what was read so far stays accounted for.
use Prim.Native.Nat.{◌+◌, ◌≤◌}
use native.Mathlib.Omega.{arith}
use borrow.Author.Rules.{rules}
use Rattle.feed.proofs.Streaming.{answered-within, full_block, last_block}
use Rattle.feed.proofs.answer.Goals as goal
use Rattle.feed.proofs.answer.Lts as lts
use Rattle.feed.proofs.answer.Tie as tie
use Rattle.feed.proofs.answer.Reads as reads

-- Places in the code.
abbrev Start : Type 0
Start = lts.Start tie.the-claims reads.Pre reads.Post

abbrev After-answer_lines-answered : Type 0
After-answer_lines-answered = lts.After-answer_lines tie.the-claims reads.Pre reads.Post

abbrev entry : After-answer_lines-answered → Start
entry c = c.before.before.before.before.before.before.before.before

within : (c : After-answer_lines-answered) → (entry c).args.stream.from + c.answer_lines-answered.result.next ≤ (entry c).args.stream.to + (entry c).args.got
within c = let s = entry c in answered-within s.args.stream s.args.input.now s.args.got s.requires.0 s.requires.1 c.answer_lines-answered.ensures

pub overflow_add-next : goal.overflow_add-next
overflow_add-next c = let w = within c.before.before.before.before in let p = (entry c.before.before.before.before).requires.1 in let g = (entry c.before.before.before.before).well_formed in omega arith

pub overflow_sub-buffer : goal.overflow_sub-buffer
overflow_sub-buffer c = let r = c.answer_lines-answered.ensures.room in search rules

pub returns-then-buffer-written-lt-MAX_REPLY : goal.returns-then-buffer-written-lt-MAX_REPLY
returns-then-buffer-written-lt-MAX_REPLY c =
    let a = c.before.before.before.before.before.before in
    let s = entry a in
    full_block s.args.stream s.args.input.now s.args.got s.requires.0 s.requires.1 a.answer_lines-answered.ensures c.if-buffer-written-lt-MAX_REPLY.true

pub move_to_front-held-requires : goal.move_to_front-held-requires
move_to_front-held-requires c = let a = c.before.before.before.before.before.before.before in (within a, (entry a).requires.1)

pub returns : goal.returns
returns c =
    let a = c.before.before.before.before.before.before.before.before.before.before in
    let s = entry a in
    let m = c.move_to_front-held in
    let e = m.ensures.0 in
    let w = s.requires.1 in
    last_block s.args.stream s.args.input.now s.args.got s.requires.0 s.requires.1 a.answer_lines-answered.ensures m.result m.new.buffer c.if-buffer-written-lt-MAX_REPLY.false m.ensures.0 m.ensures.1 (search rules)
