-- `json_tokens::special_bytes` meets its contract: it is what the definition says, and no byte of a sum goes past 255, so that no sum goes past 64 bits.
-- Assumes nothing.
use lib.Bits.{and_le_r, bit_and, xor_lt}
use mathlib.Core.Path.{refl}
use native.Mathlib.Omega.{arith}
use Rattle.json_tokens.specs.Words.{special_bytes}
use Rattle.json_tokens.proofs.special_bytes.Goals as goal

pub overflow_add-above : goal.overflow_add-above
overflow_add-above c =
    let x = c.args.x in
    omega (arith, and_le_r x 9187201950435737471)

pub overflow_add-no_quote : goal.overflow_add-no_quote
overflow_add-no_quote c =
    let x = c.args.x in
    let y = and_le_r x 9187201950435737471 in
    omega (arith, xor_lt 63 (bit_and x 9187201950435737471) 2459565876494606882 (omega arith) (omega arith))

pub overflow_add-no_backslash : goal.overflow_add-no_backslash
overflow_add-no_backslash c =
    let x = c.args.x in
    let y = and_le_r x 9187201950435737471 in
    omega (arith, xor_lt 63 (bit_and x 9187201950435737471) 6655295901103053916 (omega arith) (omega arith))

pub returns : goal.returns
unfolding special_bytes
returns c = refl
