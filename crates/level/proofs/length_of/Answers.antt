-- `length_of` meets its contract: it is cut out as the definition has it.
use mathlib.Core.Path.{refl}
use Rattle.level.specs.Words.{level_length}
use Rattle.level.proofs.length_of.Goals as goal

pub returns : goal.returns
unfolding level_length
returns c = refl
