-- `counts_replied` meets its contract: field by field.
use Rattle.replay.specs.Calls.{counts_replied}
use Rattle.replay.proofs.asking.counts_replied.Goals as goal

pub returns : goal.returns
unfolding counts_replied
returns c = rw c.number_of.ensures
