-- `crc32::words::step` meets its contract: it is the definition.
-- Assumes nothing.
use Prim.Native.Nat.{ℕ}
use mathlib.Core.Path.{ap, ◌∙◌}
use lib.Bits.{bit_xor}
use Rattle.crc32_spec.specs.Crc.{bits, step}
use Rattle.crc32.proofs.words.step.Goals as goal

pub returns : goal.returns
unfolding step
returns c = c.shift.ensures ∙ ap (λ (b : ℕ). bits 8 (bit_xor c.args.s b)) c.from.ensures
