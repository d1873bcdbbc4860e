-- `sum_of` meets its contract: it is cut out as the definition has it.
use mathlib.Core.Path.{refl}
use Rattle.level.specs.Words.{level_sum}
use Rattle.level.proofs.sum_of.Goals as goal

pub returns : goal.returns
unfolding level_sum
returns c = refl
