-- `pack` meets its contract: it makes the word that the definition has.
use mathlib.Core.Path.{refl}
use Rattle.level.specs.Words.{packed}
use Rattle.level.proofs.words.pack.Goals as goal

pub returns : goal.returns
unfolding packed
returns c = refl
