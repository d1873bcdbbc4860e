-- `json_values::item_end` meets its contract: by the first byte.
-- Assumes nothing.
use mathlib.Core.Bool.{true}
use mathlib.Core.Path.{◌≡◌, sym, ◌∙◌}
use borrow.Author.Tests.{le-leb}
use native.Mathlib.Omega.{arith}
use Rattle.text.specs.Text.{byte_at, is_digit}
use Rattle.json_values.proofs.Laws.{value-string, value-number}
use Rattle.json_values.proofs.item_end.Goals as goal

pub returns-in-34 : goal.returns-in-34
returns-in-34 c =
    let a = c.args in
    c.string_end.ensures ∙ sym (value-string a.s.now a.at a.depth (sym c.byte_at.ensures ∙ c.in-34.is))

pub returns-in-48-to-57 : goal.returns-in-48-to-57
unfolding is_digit
returns-in-48-to-57 c =
    let a = c.args in
    let b = byte_at a.s.now a.at in
    let h : is_digit b ≡ true = simp (le-leb 48 b (omega arith), le-leb b 57 (omega arith)) in
    c.number_end.ensures ∙ sym (value-number a.s.now a.at a.depth h)
