-- `level_in` meets its contract: side by side.
use Rattle.book.specs.Asking.{level_in}
use Rattle.book.proofs.level_in.Goals as goal

pub returns-in-Bids : goal.returns-in-Bids
unfolding level_in
returns-in-Bids c = rw c.in-Bids.is c.level_at.ensures

pub returns-in-Asks : goal.returns-in-Asks
unfolding level_in
returns-in-Asks c = rw c.in-Asks.is c.level_at-in-Asks.ensures
