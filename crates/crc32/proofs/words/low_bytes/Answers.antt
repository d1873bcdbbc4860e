-- `crc32::words::low_bytes` meets its contract: the other bytes are moved out at the top.
-- Assumes nothing.
use Prim.Native.Nat.{◌*◌}
use native.Mathlib.Omega.{arith}
use Rattle.crc32.proofs.Moves.{no_bytes, up-and-down}
use Rattle.crc32.proofs.words.low_bytes.Goals as goal

pub returns-then-n-eq0 : goal.returns-then-n-eq0
returns-then-n-eq0 c = no_bytes c.args.n c.args.w c.if-n-eq0.true

pub returns : goal.returns
returns c = up-and-down (8 * c.args.n) c.args.w (omega arith)
