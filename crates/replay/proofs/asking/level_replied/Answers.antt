-- `level_replied` meets its contract: field by field.
use Rattle.replay.specs.Calls.{level_replied}
use Rattle.replay.proofs.asking.level_replied.Goals as goal

pub returns : goal.returns
unfolding level_replied
returns c = rw (c.number_of.ensures, c.split_of-size.ensures, c.split_of-price.ensures)
