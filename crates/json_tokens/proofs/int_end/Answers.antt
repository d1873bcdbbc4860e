-- `json_tokens::int_end` meets its contract: the first byte decides.
-- Assumes nothing.
use mathlib.Core.Path.{◌∙◌, sym}
use native.Mathlib.Omega.{arith}
use Rattle.json_tokens.proofs.Laws.{in-byte, int-more, int-zero}
use Rattle.json_tokens.proofs.int_end.Goals as goal

pub overflow_add-result : goal.overflow_add-result
overflow_add-result c =
    let a = c.args in
    let s = a.s.now in
    let i = a.at in
    omega (arith, in-byte s i 48 (omega arith) (sym c.byte_at.ensures ∙ c.if-byte_at-eq48.true))

pub returns-then-byte_at-eq48 : goal.returns-then-byte_at-eq48
returns-then-byte_at-eq48 c =
    let a = c.args in
    let s = a.s.now in
    let i = a.at in
    sym (int-zero s i (sym c.byte_at.ensures ∙ c.if-byte_at-eq48.true))

pub returns-else-byte_at-eq48 : goal.returns-else-byte_at-eq48
returns-else-byte_at-eq48 c =
    let a = c.args in
    let s = a.s.now in
    let i = a.at in
    c.some_digits_end.ensures ∙ sym ((int-more s i (λ e. c.if-byte_at-eq48.false (c.byte_at.ensures ∙ e))))
