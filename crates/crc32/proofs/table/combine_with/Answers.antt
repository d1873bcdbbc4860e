-- `crc32::table::combine_with` meets its contract: it is the law of a joined text, with the first part's state moved past the second.
-- Assumes nothing.
use Prim.Native.Nat.{ℕ}
use lib.Bits.{bit_xor}
use mathlib.Core.Path.{ap}
use Rattle.crc32.proofs.table.combine_with.Goals as goal

pub returns : goal.returns
returns c = ap (λ (x : ℕ). bit_xor x c.args.b) c.shift_with.ensures
