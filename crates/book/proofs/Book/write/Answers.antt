-- `write` meets its contract: a live book is laid into the buffer, or there is no room; any other is refused.
use Rattle.book.proofs.Snapshots.{wrote-to, wrote-full, wrote-not}
use mathlib.Core.Path.{refl, sym, subst, ◌∙◌}
use Rattle.book.specs.Shown.{Wrote}
use Rattle.book.proofs.Book.write.Goals as goal

pub returns-in-Some : goal.returns-in-Some
returns-in-Some c =
    let a = c.args in
    wrote-to a.self a.buffer.now c.lay.new.buffer (sym c.stands.ensures ∙ c.if-stands.true) c.lay.result c.lay.ensures c.in-Some.n c.in-Some.is

pub returns-in-None : goal.returns-in-None
returns-in-None c =
    let a = c.args in
    subst (Wrote a.self _ _) (sym c.no_value.ensures) (wrote-full a.self a.buffer.now c.lay.new.buffer (sym c.stands.ensures ∙ c.if-stands.true) c.lay.result c.lay.ensures c.in-None.is)

pub returns : goal.returns
returns c =
    let a = c.args in
    subst (Wrote a.self _ _) (sym c.no_value-2.ensures) (wrote-not a.self a.buffer.now a.buffer.now (sym c.stands.ensures ∙ c.if-stands.false) c.refusal.result c.refusal.ensures refl)
