-- `crc32::words::absorb` meets its contract: fewer than four bytes are in the lower half, up to eight in both, and more are eight and then bytes that are 0.
-- Assumes nothing.
use Prim.Native.Nat.{◌*◌, ◌-◌}
use lib.Bits.{bit_xor}
use mathlib.Core.Path.{ap, ◌∙◌}
use native.Mathlib.Omega.{arith}
use Rattle.crc32_spec.specs.Crc.{bits}
use Rattle.crc32.proofs.Moves.{long-word, short-word, two-halves}
use Rattle.crc32.proofs.words.absorb.Goals as goal

pub returns-then-n-gt8 : goal.returns-then-n-gt8
returns-then-n-gt8 c =
    c.shift.ensures ∙ ap (bits (8 * (c.args.n - 8))) c.absorb8.ensures
    ∙ long-word c.args.n c.args.s c.args.w (omega arith) c.ranges.w.fits

pub returns-then-n-lt4 : goal.returns-then-n-lt4
returns-then-n-lt4 c =
    short-word c.args.n c.args.s c.args.w _ _ _ c.if-n-lt4.true c.low_bytes-piece.ensures c.lower_half.ensures c.shift-first.ensures

pub returns : goal.returns
returns c =
    two-halves c.args.n c.args.s c.low_bytes-piece.result _ _ _ _ (omega arith) c.ranges.s.fits
    c.lower_half.ensures c.upper_half.ensures c.shift-2.ensures c.shift-first.ensures
    ∙ ap (λ x. bits (8 * c.args.n) (bit_xor c.args.s x)) c.low_bytes-piece.ensures
