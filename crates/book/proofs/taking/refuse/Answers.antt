-- `refuse` meets its contract: all but how the book stands stays, and no level is moved.
use Rattle.book.proofs.taking.refuse.Goals as goal

pub returns : goal.returns
returns c = rw c.refused-after.ensures
