-- `crc32::words::absorb8` meets its contract: the word's upper half is not mixed with the state, so the halves are moved apart.
-- Assumes nothing.
use native.Mathlib.Omega.{arith}
use Rattle.crc32.proofs.Moves.{two-halves}
use Rattle.crc32.proofs.words.absorb8.Goals as goal

pub returns : goal.returns
returns c =
    two-halves 8 c.args.s c.args.w _ _ _ _ (omega arith) c.ranges.s.fits
    c.lower_half.ensures c.upper_half.ensures c.shift.ensures c.shift-2.ensures
