-- `updates` meets its contract: what is told of that number.
use mathlib.Core.Path.{sym, subst}
use Rattle.book.specs.Shown.{AnswersAmount}
use Rattle.book.proofs.Asking.{updates-told}
use Rattle.book.proofs.Book.updates.Goals as goal

pub returns : goal.returns
returns c = let a = c.args in subst (AnswersAmount a.self _) (sym c.told-answer.ensures) (updates-told a.self a.scope)
