-- `no_members` meets its contract: nothing was met.
use Rattle.order_entries.proofs.no_members.Goals as goal

pub returns : goal.returns
returns c = rw (c.no_member_span.ensures, c.no_member_span-2.ensures, c.no_member_span-3.ensures, c.no_member_span-4.ensures)
