-- `json_tokens::closing_end` meets its contract: the byte past the blanks decides, and where it is the one asked for it lies in the text.
-- Assumes nothing.
use Rattle.std.specs.Prelude.{Some}
use Prim.Native.Nat.{◌+◌}
use mathlib.Core.Path.{◌∙◌, ap, sym}
use native.Mathlib.Omega.{arith}
use Rattle.json_tokens.proofs.Laws.{closing-no, closing-yes, in-byte}
use Rattle.text.specs.Text.{byte_at}
use Rattle.json_tokens.proofs.closing_end.Goals as goal

pub overflow_add-result : goal.overflow_add-result
overflow_add-result c =
    let a = c.args in
    let s = a.s.now in
    let i = a.at in
    omega (arith, in-byte s c.skip_blanks-k.result a.close c.requires (sym c.byte_at.ensures ∙ c.if-byte_at-close.true))

pub returns-then-byte_at-close : goal.returns-then-byte_at-close
returns-then-byte_at-close c =
    let a = c.args in
    let s = a.s.now in
    let i = a.at in
    ap (λ n. Some (n + 1)) c.skip_blanks-k.ensures ∙ sym (closing-yes a.close s i (ap (byte_at s) (sym c.skip_blanks-k.ensures) ∙ sym c.byte_at.ensures ∙ c.if-byte_at-close.true))

pub returns-else-byte_at-close : goal.returns-else-byte_at-close
returns-else-byte_at-close c =
    let a = c.args in
    let s = a.s.now in
    let i = a.at in
    sym (closing-no a.close s i (λ e. c.if-byte_at-close.false (c.byte_at.ensures ∙ ap (byte_at s) c.skip_blanks-k.ensures ∙ e)))
