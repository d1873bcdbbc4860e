-- `step_replied` meets its contract: field by field.
use Rattle.replay.specs.Calls.{step_replied}
use Rattle.replay.proofs.asking.step_replied.Goals as goal

pub returns : goal.returns
unfolding step_replied
returns c = rw c.number_of.ensures
