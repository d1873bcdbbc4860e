-- `json_values::past_character` meets its contract: an escape, or a byte that stands for itself.
-- Assumes nothing.
use mathlib.Core.Path.{sym, ap, ◌∙◌}
use Prim.Native.Nat.{◌+◌}
use Rattle.text.specs.Text.{byte_at}
use Rattle.json_values.specs.Names.{escape_meaning}
use Rattle.json_values.proofs.Names.{part-all, spelled-escape, other-escape, spelled-plain, other-plain}
use Rattle.json_values.proofs.past_character.Goals as goal

pub returns-then-escape_meaning-from : goal.returns-then-escape_meaning-from
unfolding byte_at
returns-then-escape_meaning-from c =
    let s = c in
    spelled-escape s.args.t.now s.args.i s.args.b s.requires c.if-t-i-eq-BACKSLASH.true
    (sym (c.escape_meaning.ensures ∙ ap escape_meaning (part-all s.args.t.now (s.args.i + 1))) ∙ c.if-escape_meaning-from.true ∙ c.from.ensures) _ c.past_escape.ensures

pub returns-then-t-i-eq-BACKSLASH : goal.returns-then-t-i-eq-BACKSLASH
unfolding byte_at
returns-then-t-i-eq-BACKSLASH c =
    let s = c in
    other-escape s.args.t.now s.args.i s.args.b s.requires c.if-t-i-eq-BACKSLASH.true
    (λ h. c.if-escape_meaning-from.false (c.escape_meaning.ensures ∙ ap escape_meaning (part-all s.args.t.now (s.args.i + 1)) ∙ h ∙ sym c.from.ensures))

pub returns-then-t-i : goal.returns-then-t-i
unfolding byte_at
returns-then-t-i c =
    let s = c in
    spelled-plain s.args.t.now s.args.i s.args.b s.requires c.if-t-i-eq-BACKSLASH.false c.if-t-i.true

pub returns-else-t-i : goal.returns-else-t-i
unfolding byte_at
returns-else-t-i c =
    let s = c in
    other-plain s.args.t.now s.args.i s.args.b s.requires c.if-t-i-eq-BACKSLASH.false c.if-t-i.false
