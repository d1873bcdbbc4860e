-- `number_replied` meets its contract: field by field.
use Rattle.replay.specs.Calls.{number_replied}
use Rattle.replay.proofs.asking.number_replied.Goals as goal

pub returns : goal.returns
unfolding number_replied
returns c = rw c.number_of.ensures
