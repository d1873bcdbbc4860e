-- `event_of` meets its contract: one event after the other.
use mathlib.Core.Path.{◌∙◌, sym}
use Rattle.order_entries.proofs.Placing.{no-event, event-added, event-modified, event-deleted, event-other}
use Rattle.order_entries.proofs.event_of.Goals as goal

pub returns-then-mark-ne1 : goal.returns-then-mark-ne1
returns-then-mark-ne1 c = no-event c.args.s.now c.args.mark c.if-mark-ne1.true

pub returns-then-is_name : goal.returns-then-is_name
returns-then-is_name c =
    let a = c.args in
    event-added a.s.now a.mark c.if-mark-ne1.false (sym c.is_name.ensures ∙ c.if-is_name.true)

pub returns-then-is_name-2 : goal.returns-then-is_name-2
returns-then-is_name-2 c =
    let a = c.args in
    event-modified a.s.now a.mark c.if-mark-ne1.false (sym c.is_name.ensures ∙ c.if-is_name.false) (sym c.is_name-else-is_name.ensures ∙ c.if-is_name-2.true)

pub returns-then-is_name-3 : goal.returns-then-is_name-3
returns-then-is_name-3 c =
    let a = c.args in
    event-deleted a.s.now a.mark c.if-mark-ne1.false (sym c.is_name.ensures ∙ c.if-is_name.false) (sym c.is_name-else-is_name.ensures ∙ c.if-is_name-2.false) (sym c.is_name-else-is_name-2.ensures ∙ c.if-is_name-3.true)

pub returns-else-is_name-3 : goal.returns-else-is_name-3
returns-else-is_name-3 c =
    let a = c.args in
    event-other a.s.now a.mark c.if-mark-ne1.false (sym c.is_name.ensures ∙ c.if-is_name.false) (sym c.is_name-else-is_name.ensures ∙ c.if-is_name-2.false) (sym c.is_name-else-is_name-2.ensures ∙ c.if-is_name-3.false)
