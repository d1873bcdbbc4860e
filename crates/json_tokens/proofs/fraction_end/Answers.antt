-- `json_tokens::fraction_end` meets its contract: the first byte decides.
-- Assumes nothing.
use mathlib.Core.Path.{◌∙◌, sym}
use native.Mathlib.Omega.{arith}
use Rattle.json_tokens.proofs.Laws.{fraction-none, fraction-point, in-byte}
use Rattle.json_tokens.proofs.fraction_end.Goals as goal

pub overflow_add-at : goal.overflow_add-at
overflow_add-at c =
    let a = c.args in
    let s = a.s.now in
    let i = a.at in
    omega (arith, in-byte s i 46 (omega arith) (sym c.byte_at.ensures ∙ c.if-byte_at-eq46.true))

pub returns-then-byte_at-eq46 : goal.returns-then-byte_at-eq46
returns-then-byte_at-eq46 c =
    let a = c.args in
    let s = a.s.now in
    let i = a.at in
    c.some_digits_end.ensures ∙ sym ((fraction-point s i (sym c.byte_at.ensures ∙ c.if-byte_at-eq46.true)))

pub returns-else-byte_at-eq46 : goal.returns-else-byte_at-eq46
returns-else-byte_at-eq46 c =
    let a = c.args in
    let s = a.s.now in
    let i = a.at in
    sym (fraction-none s i (λ e. c.if-byte_at-eq46.false (c.byte_at.ensures ∙ e)))
