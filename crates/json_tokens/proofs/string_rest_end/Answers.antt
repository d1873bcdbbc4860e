-- `json_tokens::string_rest_end` meets its contract: wherever the loop stands, the string from there ends where the whole does, and the byte there decides.
-- Assumes nothing.
use mathlib.Core.Path.{◌∙◌, sym}
use native.Mathlib.Omega.{arith}
use Rattle.json_tokens.proofs.Laws.{in-byte, rest-quote}
use Rattle.json_tokens.proofs.string_rest_end.Goals as goal

pub overflow_add-result : goal.overflow_add-result
overflow_add-result c = omega (arith, in-byte c.args.s.now c.loop-i.i 34 (omega arith) (sym c.byte_at.ensures ∙ c.loop-i-test.false))

pub returns : goal.returns
returns c = sym (rest-quote c.args.s.now c.loop-i.i (sym c.byte_at.ensures ∙ c.loop-i-test.false)) ∙ c.loop-i.invariant
