-- `json_tokens::skip_minus` meets its contract: the byte there decides, and where it is a sign it lies in the text.
-- Assumes nothing.
use mathlib.Core.Path.{◌∙◌, sym}
use native.Mathlib.Omega.{arith}
use Rattle.json_tokens.proofs.Laws.{in-byte, minus-no, minus-yes}
use Rattle.json_tokens.proofs.skip_minus.Goals as goal

pub overflow_add-result : goal.overflow_add-result
overflow_add-result c =
    let a = c.args in
    omega (arith, in-byte a.s.now a.at 45 (omega arith) (sym c.byte_at.ensures ∙ c.if-byte_at-eq45.true))

pub returns-then-byte_at-eq45 : goal.returns-then-byte_at-eq45
returns-then-byte_at-eq45 c =
    let a = c.args in
    sym (minus-yes a.s.now a.at (sym c.byte_at.ensures ∙ c.if-byte_at-eq45.true))

pub returns-else-byte_at-eq45 : goal.returns-else-byte_at-eq45
returns-else-byte_at-eq45 c =
    let a = c.args in
    sym (minus-no a.s.now a.at (λ e. c.if-byte_at-eq45.false (c.byte_at.ensures ∙ e)))
