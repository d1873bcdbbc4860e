-- `json_tokens::exponent_end` meets its contract: the first byte decides.
-- Assumes nothing.
use native.Mathlib.Omega.{arith}
use Rattle.json_tokens.proofs.Laws.{exponent-lower, exponent-none, exponent-upper, in_some}
use Rattle.json_tokens.proofs.exponent_end.Goals as goal

pub overflow_add-at : goal.overflow_add-at
overflow_add-at c = grind (arith, in_some)

pub returns-in-101 : goal.returns-in-101
returns-in-101 c = grind (arith, exponent-lower, exponent-upper)

pub returns-in_default : goal.returns-in_default
returns-in_default c = grind (arith, exponent-none)
