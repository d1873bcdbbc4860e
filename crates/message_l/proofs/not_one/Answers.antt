-- `message_l::not_one` meets its contract: nothing was met.
-- Assumes nothing.
use Rattle.message_l.proofs.not_one.Goals as goal

pub returns : goal.returns
returns c = rw c.no_listing.ensures
