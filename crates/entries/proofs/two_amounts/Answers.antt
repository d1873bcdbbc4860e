-- `entries::two_amounts` meets its contract: an array begins with two decimals in quotes and a comma between; at any other way out there are none.
-- Assumes nothing.
use mathlib.Core.Path.{◌∙◌, sym}
use native.Mathlib.Omega.{arith}
use Rattle.json_tokens.proofs.Laws.{in-byte}
use Rattle.entries.proofs.Decimals.{two-decimals}
use Rattle.entries.proofs.two_amounts.Goals as goal

pub overflow_add-at : goal.overflow_add-at
overflow_add-at c =
    let a = c.args in
    let l = in-byte a.s.now a.at 91 (omega arith) (sym c.byte_at.ensures ∙ c.if-byte_at-ne-OPEN_ARRAY.false) in
    omega arith

pub returns : goal.returns
returns c =
    let a = c.args in
    let p = c.in_ok-first in
    let j = c.in_ok-next in
    let z = c.in_ok-second in
    two-decimals a.s.now a.at (sym c.byte_at.ensures ∙ c.if-byte_at-ne-OPEN_ARRAY.false) c.skip_blanks.result c.skip_blanks.ensures p.first p.ensures j.next (sym j.ensures) z.second z.ensures
