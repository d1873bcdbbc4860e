-- `no_members` meets its contract: it is the definition.
-- Assumes nothing.
use Rattle.message_k.proofs.no_members.Goals as goal

pub returns : goal.returns
returns c = rw (c.none_yet.ensures, c.no_member_span.ensures)
