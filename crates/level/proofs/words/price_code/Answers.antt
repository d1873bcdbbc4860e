-- `price_code` meets its contract: it is cut out as the definition has it.
use mathlib.Core.Path.{refl}
use Rattle.level.specs.Words.{price_code}
use Rattle.level.proofs.words.price_code.Goals as goal

pub returns : goal.returns
unfolding price_code
returns c = refl
