-- `more_spans` meets its contract: the mark takes the place of a member of its name.
use mathlib.Core.Path.{◌∙◌, sym}
use Rattle.json_values.specs.Names.{means}
use Rattle.layout.specs.MemberSpans.{with_member_span}
use Rattle.layout.proofs.MemberSpans.{hit-yes, hit-no}
use Rattle.order_entries.proofs.more_spans.Goals as goal

pub returns-then-is_name : goal.returns-then-is_name
returns-then-is_name c =
    let a = c.args in
    let h = means a.s.now (record { from = a.first; to = a.past }) a.name.now in
    c.with_member_span.ensures ∙ sym (hit-yes h with_member_span a.mark (record { from = a.from; to = a.to }) (sym c.is_name.ensures ∙ c.if-is_name.true))

pub returns-else-is_name : goal.returns-else-is_name
returns-else-is_name c =
    let a = c.args in
    let h = means a.s.now (record { from = a.first; to = a.past }) a.name.now in
    sym (hit-no h with_member_span a.mark (record { from = a.from; to = a.to }) (sym c.is_name.ensures ∙ c.if-is_name.false))
