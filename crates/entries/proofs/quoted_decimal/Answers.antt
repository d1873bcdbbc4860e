-- `entries::quoted_decimal` meets its contract: a decimal with a quote on each side is the string that stands there; at any other way out there is none.
-- Assumes nothing.
use mathlib.Core.Path.{◌∙◌, ap, sym}
use native.Mathlib.Omega.{arith}
use Rattle.decimal.specs.Reads.{parsed_front}
use Rattle.json_tokens.proofs.Laws.{in-byte}
use Rattle.entries.proofs.Decimals.{decimal-quoted}
use Prim.Native.Nat.{◌+◌}
use Rattle.entries.proofs.quoted_decimal.Goals as goal

pub overflow_add-at : goal.overflow_add-at
overflow_add-at c =
    let a = c.args in
    let l = in-byte a.s.now a.at 34 (omega arith) (sym c.byte_at.ensures ∙ c.if-byte_at-ne-QUOTE.false) in
    omega arith

pub overflow_add-result : goal.overflow_add-result
overflow_add-result c =
    let e = c.in_ok-front.front.end in
    let l = in-byte c.args.s.now e 34 (omega arith) (sym c.byte_at-2.ensures ∙ c.if-byte_at-ne-QUOTE-2.false) in
    record { fits = omega arith }

pub returns : goal.returns
returns c =
    let a = c.args in
    let d = c.in_ok-front in
    let h = sym (ap (parsed_front (a.at + 1)) d.was) ∙ c.parse_at.ensures in
    let opens = sym c.byte_at.ensures ∙ c.if-byte_at-ne-QUOTE.false in
    decimal-quoted a.s.now a.at d.front.end d.front.decimal h opens (sym c.byte_at-2.ensures ∙ c.if-byte_at-ne-QUOTE-2.false)
