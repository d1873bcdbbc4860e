-- `json_tokens::skip_sign` meets its contract: the byte there decides, and where it is a sign it lies in the text.
-- Assumes nothing.
use native.Mathlib.Omega.{arith}
use Rattle.json_tokens.proofs.Laws.{in_some, sign-minus, sign-none, sign-plus}
use Rattle.json_tokens.proofs.skip_sign.Goals as goal

pub overflow_add-result : goal.overflow_add-result
overflow_add-result c = grind (arith, in_some)

pub returns-in-43 : goal.returns-in-43
returns-in-43 c = grind (arith, sign-plus, sign-minus)

pub returns-in_default : goal.returns-in_default
returns-in_default c = grind (arith, sign-none)
