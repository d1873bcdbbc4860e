-- `json_tokens::separator_end` meets its contract: the byte past the blanks decides, and where it is the one asked for it lies in the text.
-- Assumes nothing.
use Rattle.std.specs.Prelude.{Some}
use Prim.Native.Nat.{◌+◌}
use mathlib.Core.Path.{◌∙◌, ap, sym}
use native.Mathlib.Omega.{arith}
use Rattle.json_tokens.proofs.Laws.{in-byte, separator-no, separator-yes}
use Rattle.text.specs.Text.{byte_at}
use Rattle.json_tokens.specs.Tokens.{blanks}
use Rattle.json_tokens.proofs.separator_end.Goals as goal

pub overflow_add-k : goal.overflow_add-k
overflow_add-k c =
    let a = c.args in
    let s = a.s.now in
    let i = a.at in
    omega (arith, in-byte s c.skip_blanks-k.result a.byte c.requires (sym c.byte_at.ensures ∙ c.if-byte_at-byte.true))

pub returns-then-byte_at-byte : goal.returns-then-byte_at-byte
returns-then-byte_at-byte c =
    let a = c.args in
    let s = a.s.now in
    let i = a.at in
    ap Some (c.skip_blanks.ensures ∙ ap (λ n. blanks s (n + 1)) c.skip_blanks-k.ensures) ∙ sym (separator-yes a.byte s i (ap (byte_at s) (sym c.skip_blanks-k.ensures) ∙ sym c.byte_at.ensures ∙ c.if-byte_at-byte.true))

pub returns-else-byte_at-byte : goal.returns-else-byte_at-byte
returns-else-byte_at-byte c =
    let a = c.args in
    let s = a.s.now in
    let i = a.at in
    sym (separator-no a.byte s i (λ e. c.if-byte_at-byte.false (c.byte_at.ensures ∙ ap (byte_at s) c.skip_blanks-k.ensures ∙ e)))
