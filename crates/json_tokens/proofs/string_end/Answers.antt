-- `json_tokens::string_end` meets its contract: the first byte decides, and past bytes that stand for themselves the string ends where it did.
-- Assumes nothing.
use mathlib.Core.Path.{◌∙◌, sym}
use native.Mathlib.Omega.{arith}
use Rattle.json_tokens.proofs.Laws.{in-byte, in_some, rest-quote, string-no, string-yes}
use Rattle.json_tokens.proofs.string_end.Goals as goal

pub returns-then-byte_at-ne-QUOTE : goal.returns-then-byte_at-ne-QUOTE
returns-then-byte_at-ne-QUOTE c = sym (string-no c.args.s.now c.args.at (λ e. c.if-byte_at-ne-QUOTE.true (c.byte_at.ensures ∙ e)))

pub overflow_add-at : goal.overflow_add-at
overflow_add-at c = omega (arith, in-byte c.args.s.now c.args.at 34 (omega arith) (sym c.byte_at.ensures ∙ c.if-byte_at-ne-QUOTE.false))

pub skip_plain-k-requires : goal.skip_plain-k-requires
skip_plain-k-requires c = omega (arith, in-byte c.args.s.now c.args.at 34 (omega arith) (sym c.byte_at.ensures ∙ c.if-byte_at-ne-QUOTE.false))

pub overflow_add-result : goal.overflow_add-result
overflow_add-result c = grind (arith, in_some)

pub returns-then-byte_at-eq-QUOTE : goal.returns-then-byte_at-eq-QUOTE
returns-then-byte_at-eq-QUOTE c = grind (arith, rest-quote, string-yes)

pub returns-else-byte_at-eq-QUOTE : goal.returns-else-byte_at-eq-QUOTE
returns-else-byte_at-eq-QUOTE c = grind (arith, string-yes)
