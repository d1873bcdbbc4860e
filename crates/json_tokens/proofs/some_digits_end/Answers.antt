-- `json_tokens::some_digits_end` meets its contract: the first byte decides.
-- Assumes nothing.
use Rattle.std.specs.Prelude.{Some}
use mathlib.Core.Path.{◌∙◌, ap, sym}
use Rattle.json_tokens.proofs.Laws.{some-no, some-yes}
use Rattle.text.specs.Text.{is_digit}
use Rattle.json_tokens.proofs.some_digits_end.Goals as goal

pub returns-then-is_digit : goal.returns-then-is_digit
returns-then-is_digit c =
    let a = c.args in
    let s = a.s.now in
    let i = a.at in
    ap Some c.skip_digits.ensures ∙ sym (some-yes s i (ap is_digit (sym c.byte_at.ensures) ∙ sym c.is_digit.ensures ∙ c.if-is_digit.true))

pub returns-else-is_digit : goal.returns-else-is_digit
returns-else-is_digit c =
    let a = c.args in
    let s = a.s.now in
    let i = a.at in
    sym (some-no s i (ap is_digit (sym c.byte_at.ensures) ∙ sym c.is_digit.ensures ∙ c.if-is_digit.false))
