-- `level` meets its contract: by whether the question is answered, and the level is there.
use Rattle.book.proofs.Asking.{level-here, level-none, level-no}
use mathlib.Core.Path.{sym, ◌∙◌}
use Rattle.book.proofs.Book.level.Goals as goal

pub returns-in-Some : goal.returns-in-Some
returns-in-Some c =
    let a = c.args in
    level-here a.self a.scope a.side a.i (sym c.stands.ensures ∙ c.if-stands.true) c.in-Some.level (sym c.level_in.ensures ∙ c.in-Some.is) c.price_of.result c.size_of.result c.price_of.ensures c.size_of.ensures

pub returns-in-None : goal.returns-in-None
returns-in-None c =
    let a = c.args in
    level-none a.self a.scope a.side a.i (sym c.stands.ensures ∙ c.if-stands.true) (sym c.level_in.ensures ∙ c.in-None.is) c.no_level.ensures

pub returns : goal.returns
returns c =
    let a = c.args in
    level-no a.self a.scope a.side a.i (sym c.stands.ensures ∙ c.if-stands.false) c.refusal.result c.refusal.ensures c.no_level-2.ensures
