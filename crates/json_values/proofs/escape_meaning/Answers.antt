-- `json_values::escape_meaning` meets its contract: four hex digits, or one character.
-- Assumes nothing.
use mathlib.Core.Path.{sym, ap, ◌∙◌}
use Rattle.json_values.specs.Names.{short_meaning, hex_value, long_meaning}
use Rattle.json_values.proofs.Names.{escape-long, escape-short}
use Rattle.json_values.proofs.escape_meaning.Goals as goal

pub returns-then-c-eq-LONG_ESCAPE : goal.returns-then-c-eq-LONG_ESCAPE
unfolding long_meaning
returns-then-c-eq-LONG_ESCAPE c =
    let t = c.args.t.now in
    let a = c.hex_value.ensures.0 ∙ ap hex_value c.byte_at.ensures in
    let b = c.hex_value-then-c-eq-LONG_ESCAPE.ensures.0 ∙ ap hex_value c.byte_at-then-c-eq-LONG_ESCAPE.ensures in
    let d = c.hex_value-then-c-eq-LONG_ESCAPE-2.ensures.0 ∙ ap hex_value c.byte_at-then-c-eq-LONG_ESCAPE-2.ensures in
    let e = c.hex_value-then-c-eq-LONG_ESCAPE-3.ensures.0 ∙ ap hex_value c.byte_at-then-c-eq-LONG_ESCAPE-3.ensures in
    rw (a, b, d, e) (sym (escape-long t (sym c.byte_at-c.ensures ∙ c.if-c-eq-LONG_ESCAPE.true)))

pub returns : goal.returns
returns c =
    let t = c.args.t.now in
    c.short_meaning.ensures ∙ ap short_meaning c.byte_at-c.ensures ∙ sym (escape-short t (λ h. c.if-c-eq-LONG_ESCAPE.false (c.byte_at-c.ensures ∙ h)))
