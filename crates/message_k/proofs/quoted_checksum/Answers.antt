-- `quoted_checksum` meets its contract: what stands between the quotes is read, if the value is a string.
-- Assumes nothing.
use mathlib.Core.Path.{sym, ◌∙◌}
use native.Mathlib.Omega.{arith}
use Rattle.message_k.proofs.Numbers.{quoted-room, checksum-other, checksum-read}
use Rattle.message_k.proofs.quoted_checksum.Goals as goal

pub returns-then-byte_at-ne-QUOTE : goal.returns-then-byte_at-ne-QUOTE
returns-then-byte_at-ne-QUOTE c = let a = c.args in checksum-other a.s.now a.from a.to (λ h. c.if-byte_at-ne-QUOTE.true (c.byte_at.ensures ∙ h))

pub overflow_add-from : goal.overflow_add-from
overflow_add-from c = let a = c.args in let q = quoted-room 14 a.s.now a.from a.to c.requires (sym c.byte_at.ensures ∙ c.if-byte_at-ne-QUOTE.false) in omega arith

pub overflow_sub-to : goal.overflow_sub-to
overflow_sub-to c = let a = c.args in let q = quoted-room 14 a.s.now a.from a.to c.requires (sym c.byte_at.ensures ∙ c.if-byte_at-ne-QUOTE.false) in omega arith

pub slice_bounds-parse_checksum-count : goal.slice_bounds-parse_checksum-count
slice_bounds-parse_checksum-count c = let a = c.args in let q = quoted-room 14 a.s.now a.from a.to c.requires (sym c.byte_at.ensures ∙ c.if-byte_at-ne-QUOTE.false) in omega arith

pub slice_bounds-parse_checksum-start : goal.slice_bounds-parse_checksum-start
slice_bounds-parse_checksum-start c = let a = c.args in let q = quoted-room 14 a.s.now a.from a.to c.requires (sym c.byte_at.ensures ∙ c.if-byte_at-ne-QUOTE.false) in omega arith

pub slice_bounds-parse_checksum-end : goal.slice_bounds-parse_checksum-end
slice_bounds-parse_checksum-end c = let a = c.args in let q = quoted-room 14 a.s.now a.from a.to c.requires (sym c.byte_at.ensures ∙ c.if-byte_at-ne-QUOTE.false) in omega arith

pub returns : goal.returns
returns c = let a = c.args in c.parse_checksum.ensures ∙ checksum-read a.s.now a.from a.to (sym c.byte_at.ensures ∙ c.if-byte_at-ne-QUOTE.false)
