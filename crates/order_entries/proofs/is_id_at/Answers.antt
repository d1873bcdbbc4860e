-- `is_id_at` meets its contract: the id is what stands between the quotes.
use mathlib.Core.Path.{◌∙◌, sym, ap}
use Rattle.entries.proofs.Found.{inner-part}
use Rattle.order_edit.specs.Ids.{is_id}
use Rattle.order_entries.proofs.Placing.{short-id}
use Rattle.order_entries.proofs.is_id_at.Goals as goal

pub returns-then-to-from-lt2 : goal.returns-then-to-from-lt2
returns-then-to-from-lt2 c =
    let a = c.args in
    sym (short-id a.s.now (record { from = a.from; to = a.to }) c.if-to-from-lt2.true)

pub returns : goal.returns
returns c =
    let a = c.args in
    c.is_id.ensures ∙ ap is_id (inner-part a.s.now a.from a.to)
