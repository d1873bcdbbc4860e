-- `side_number` meets its contract, by cases.
use borrow.Author.Rules.{rules}
use Rattle.edit.specs.Buffer.{side_number}
use Rattle.edit.proofs.side_number.Goals as goal

pub returns-in-Bids : goal.returns-in-Bids
unfolding side_number
returns-in-Bids c = search rules

pub returns-in-Asks : goal.returns-in-Asks
unfolding side_number
returns-in-Asks c = search rules
