-- `of_parts` meets its contract: the words are the struct's.
use Rattle.std.proofs.Common.{refl}
use Rattle.decimal.specs.Decimal.{number}
use Rattle.decimal.proofs.of_parts.Goals as goal

pub returns : goal.returns
unfolding number
returns c = refl
