-- `json_tokens::scalar_end` meets its contract: the first byte decides.
-- Assumes nothing.
use native.Mathlib.Omega.{arith}
use Rattle.json_tokens.proofs.Laws.{scalar-false, scalar-null, scalar-number, scalar-string, scalar-true}
use Rattle.json_tokens.proofs.scalar_end.Goals as goal

pub returns-in-34 : goal.returns-in-34
returns-in-34 c = grind (arith, scalar-string)

pub returns-in-116 : goal.returns-in-116
returns-in-116 c = grind (arith, scalar-true)

pub returns-in-102 : goal.returns-in-102
returns-in-102 c = grind (arith, scalar-false)

pub returns-in-110 : goal.returns-in-110
returns-in-110 c = grind (arith, scalar-null)

pub returns-in_default : goal.returns-in_default
returns-in_default c = grind (arith, scalar-number)
