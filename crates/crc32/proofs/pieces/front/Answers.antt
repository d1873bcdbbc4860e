-- `crc32::pieces::front` meets its contract: the byte is moved past itself and the n bytes that follow, at once or by one byte and then n.
-- Assumes nothing.
use Prim.Native.Nat.{ℕ, ◌+◌, ◌*◌}
use lib.Bits.{bit_xor}
use mathlib.Core.Path.{ap, ◌∙◌}
use Rattle.crc32_spec.specs.Crc.{bits, step}
use Rattle.crc32.proofs.Moves.{moved_on}
use Rattle.crc32.proofs.pieces.front.Goals as goal

pub returns-then-n-lt55 : goal.returns-then-n-lt55
returns-then-n-lt55 c = ap (λ (x : ℕ). bit_xor x c.args.s) (c.shift.ensures ∙ ap (bits (8 * (c.args.n + 1))) c.from.ensures)

pub returns : goal.returns
unfolding step
returns c =
    ap (λ (x : ℕ). bit_xor x c.args.s)
    (c.shift-2.ensures ∙ ap (bits (8 * c.args.n)) c.step.ensures ∙ moved_on c.args.n 1 c.args.b)
