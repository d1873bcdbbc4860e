-- `message_l::no_listing` meets its contract: nothing was met.
-- Assumes nothing.
use Rattle.message_l.proofs.no_listing.Goals as goal

pub returns : goal.returns
returns c = rw (c.none_yet.ensures, c.no_member_span.ensures, c.no_member_span-2.ensures)
