-- `size_code` meets its contract: it is cut out as the definition has it.
use mathlib.Core.Path.{refl}
use Rattle.level.specs.Words.{size_code}
use Rattle.level.proofs.words.size_code.Goals as goal

pub returns : goal.returns
unfolding size_code
returns c = refl
