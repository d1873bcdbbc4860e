-- `enter` meets its contract: a listed order is added, and else each event is the entry that the definition has.
use Rattle.orders.specs.Orders.{entry_of, clashes, apply}
use Rattle.orders.specs.Words.{order_for, change_of}
use Rattle.orders.proofs.applying.enter.Goals as goal

pub returns-then-listed : goal.returns-then-listed
unfolding change_of clashes apply
returns-then-listed c = rw c.if-listed.true c.add.ensures

pub returns-in-Add : goal.returns-in-Add
unfolding change_of entry_of clashes apply order_for
returns-in-Add c = rw (c.if-listed.false, c.in-Add.is) c.add-in-Add.ensures

pub returns-in-Modify : goal.returns-in-Modify
unfolding change_of entry_of clashes apply order_for
returns-in-Modify c = rw (c.if-listed.false, c.in-Modify.is) c.modify.ensures

pub returns-in-Delete : goal.returns-in-Delete
unfolding change_of entry_of clashes apply order_for
returns-in-Delete c = rw (c.if-listed.false, c.in-Delete.is) c.delete.ensures
