-- `event_number` meets its contract, by cases.
use borrow.Author.Rules.{rules}
use Rattle.order_edit.specs.Buffer.{event_number}
use Rattle.order_edit.proofs.event_number.Goals as goal

pub returns-in-Add : goal.returns-in-Add
unfolding event_number
returns-in-Add c = search rules

pub returns-in-Modify : goal.returns-in-Modify
unfolding event_number
returns-in-Modify c = search rules

pub returns-in-Delete : goal.returns-in-Delete
unfolding event_number
returns-in-Delete c = search rules
