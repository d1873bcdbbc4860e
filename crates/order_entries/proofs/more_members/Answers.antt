-- `more_members` meets its contract, name by name.
use Rattle.order_entries.specs.Collected.{more_members}
use Rattle.order_entries.proofs.more_members.Goals as goal

pub returns : goal.returns
unfolding more_members
returns c = rw (c.more_spans.ensures, c.more_spans-2.ensures, c.more_spans-3.ensures, c.more_spans-4.ensures)
