-- `crc32::text::run` meets its contract: a turn takes eight bytes in, and the state after the rest stays the same.
-- Assumes nothing.
use mathlib.Core.Path.{refl, ◌∙◌}
use native.Mathlib.Omega.{arith}
use Rattle.crc32.proofs.Texts.{eight-absorbed}
use Rattle.crc32.proofs.slices.run.Goals as goal

pub loop-i-init : goal.loop-i-init
loop-i-init c = (omega arith, refl)

pub loop-i-preserved : goal.loop-i-preserved
loop-i-preserved c = (
  omega arith,
  eight-absorbed c.args.t.now c.loop-i.i (omega arith) c.loop-i.state c.word_at.result c.absorb8-state.result
      (λ k. (c.shared_slice_known-1.given k).fits) c.word_at.ensures c.absorb8-state.ensures
      ∙ c.loop-i.invariant.1,
)

pub returns : goal.returns
returns c = c.tail.ensures ∙ c.loop-i.invariant.1
