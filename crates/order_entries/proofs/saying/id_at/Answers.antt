-- `id_at` meets its contract: the words of what stands between the quotes.
use mathlib.Core.Path.{◌∙◌, sym, ap}
use Rattle.entries.proofs.Found.{inner-part}
use Rattle.order_edit.specs.Ids.{id_of}
use Rattle.order_entries.proofs.Texts.{short-words}
use Rattle.order_entries.proofs.saying.id_at.Goals as goal

pub returns-then-to-from-lt2 : goal.returns-then-to-from-lt2
returns-then-to-from-lt2 c =
    let a = c.args in
    c.id_of.ensures ∙ sym (short-words a.s.now (record { from = a.from; to = a.to }) c.if-to-from-lt2.true)

pub returns : goal.returns
returns c =
    let a = c.args in
    c.id_of-2.ensures ∙ ap id_of (inner-part a.s.now a.from a.to)
