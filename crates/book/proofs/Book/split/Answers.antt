-- `split` meets its contract: the words of the sides, and the header.
use Rattle.book.proofs.Book.split.Goals as goal

pub returns : goal.returns
returns c = rw c.header.ensures
