-- `no_parts` meets its contract: it is the definition.
-- Assumes nothing.
use Rattle.message_k.proofs.no_parts.Goals as goal

pub returns : goal.returns
returns c = rw (c.no_members-2.ensures, c.no_members.ensures, c.no_outer.ensures)
