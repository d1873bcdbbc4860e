-- `text::word_at` meets its contract: a word is its bytes times powers of 256.
-- Assumes nothing.
use native.Mathlib.Omega.{arith}
use Rattle.text.proofs.Words.{eight-bytes}
use Rattle.text.proofs.word_at.Goals as goal

pub returns : goal.returns
returns c = omega (arith, eight-bytes c.args.s.now c.args.at (omega arith))
