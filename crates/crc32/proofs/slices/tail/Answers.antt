-- `crc32::text::tail` meets its contract: what is left is one word, the upper bytes of the text's last eight where it has eight.
-- Assumes nothing.
use native.Mathlib.Omega.{arith}
use Rattle.crc32.proofs.Texts.{at-end, last-absorbed, last-load}
use Rattle.crc32.proofs.slices.tail.Goals as goal

pub returns-then-n-eq0 : goal.returns-then-n-eq0
returns-then-n-eq0 c = at-end c.args.t.now c.args.s c.args.at (omega arith)

pub returns-then-t-ge8 : goal.returns-then-t-ge8
returns-then-t-ge8 c =
    last-absorbed c.args.t.now c.args.at (λ k. (c.shared_slice_known-1.given k).fits) c.args.s _ _
    (last-load c.args.t.now c.args.at (λ k. (c.shared_slice_known-1.given k).fits) c.word_at.result (omega arith) (omega arith) (omega arith) c.word_at.ensures)
    c.absorb.ensures

pub returns : goal.returns
returns c =
    last-absorbed c.args.t.now c.args.at (λ k. (c.shared_slice_known-1.given k).fits) c.args.s _ _ c.load_few.ensures c.absorb-2.ensures
