-- `json_values::is_name` meets its contract: a string begins with a quote, and then with what its name begins with, or with an escape.
-- Assumes nothing.
use mathlib.Core.Bool.{not}
use mathlib.Core.Path.{sym, ap, ◌∙◌}
use Prim.Native.Nat.{ℕ}
use native.Mathlib.Omega.{arith}
use Rattle.json_tokens.proofs.Laws.{in-byte}
use Rattle.json_values.specs.Escapes.{begins_otherwise}
use Rattle.json_values.proofs.Names.{means-no-quote, means-otherwise, means-between}
use Rattle.json_values.proofs.is_name.Goals as goal

pub returns-then-byte_at-ne-QUOTE : goal.returns-then-byte_at-ne-QUOTE
returns-then-byte_at-ne-QUOTE c =
    let a = c.args in
    sym (means-no-quote a.s.now a.from a.to a.name.now (λ h. c.if-byte_at-ne-QUOTE.true (c.byte_at.ensures ∙ h)))

pub overflow_add-first : goal.overflow_add-first
overflow_add-first c =
    let a = c.args in
    let h = in-byte a.s.now a.from 34 (omega arith) (sym c.byte_at.ensures ∙ c.if-byte_at-ne-QUOTE.false) in
    omega arith

pub returns-else-not-begins_otherwise : goal.returns-else-not-begins_otherwise
returns-else-not-begins_otherwise c =
    let a = c.args in
    let h = c.if-not-begins_otherwise.false in
    ap not h
    ∙ sym
    (means-otherwise a.s.now a.from a.to a.name.now (sym c.byte_at.ensures ∙ c.if-byte_at-ne-QUOTE.false)
    (ap (λ (x : ℕ). begins_otherwise x a.name.now) (sym c.byte_at-2.ensures) ∙ sym c.begins_otherwise.ensures ∙ h))

pub is_between-requires : goal.is_between-requires
is_between-requires c =
    let a = c.args in
    let h = in-byte a.s.now a.from 34 (omega arith) (sym c.byte_at.ensures ∙ c.if-byte_at-ne-QUOTE.false) in
    omega arith

pub returns-then-not-begins_otherwise : goal.returns-then-not-begins_otherwise
returns-then-not-begins_otherwise c =
    let a = c.args in
    c.is_between.ensures
    ∙ means-between a.s.now a.from a.to a.name.now (sym c.byte_at.ensures ∙ c.if-byte_at-ne-QUOTE.false)
