-- `finish` meets its contract: with a line end behind it, the last line is answered as any other.
use Prim.Native.Nat.{ℕ, ◌+◌, ◌≤◌}
use mathlib.Core.Path.{◌≡◌, ◌∙◌}
use mathlib.Core.List.{List}
use native.Mathlib.Omega.{arith}
use lib.ListN.{length, get_or, set, length-set}
use lib.Seq.{set-set, set-get_or}
use Rattle.lines.specs.Lines.{line_end}
use Rattle.feed.proofs.Streaming.{finished-none, finished-last}
use Rattle.feed.proofs.finish.Goals as goal
use Rattle.feed.proofs.finish.Lts as lts
use Rattle.feed.proofs.finish.Tie as tie
use Rattle.feed.proofs.finish.Reads as reads

-- Places in the code.
abbrev Start : Type 0
Start = lts.Start tie.the-claims reads.Pre reads.Post

-- the byte behind the line is stored back
restored : (s : List ℕ) (i b : ℕ) → set (set s i b) i (get_or s i 0) ≡ s
restored s i b = set-set s i b (get_or s i 0) ∙ set-get_or s i 0

fits : (s : Start) (b : ℕ) → s.args.stream.to + 1 ≤ length (set s.args.input.now s.args.stream.to b)
fits s b = let h = s.requires.1 in simp length-set (omega arith)

pub returns-then-to-from : goal.returns-then-to-from
returns-then-to-from c = let s = c in finished-none s.args.stream s.args.input.now c.if-to-from.true

pub slice_bounds-answer_lines-end : goal.slice_bounds-answer_lines-end
slice_bounds-answer_lines-end c = fits c.before.before.before.before.before.before.before _

pub returns : goal.returns
returns c =
    let s = c in
    finished-last s.args.stream s.args.input.now s.requires.0 s.requires.1 c.if-to-from.false s.requires.2
    (restored s.args.input.now s.args.stream.to line_end) c.answer_lines-answered.ensures
