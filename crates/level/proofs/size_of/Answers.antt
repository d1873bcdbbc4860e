-- `size_of` meets its contract: it has the digits of the level's size, and its code.
use mathlib.Core.Path.{ap, ◌∙◌}
use Rattle.decimal.specs.Decimal.{number_of}
use Rattle.level.specs.Words.{level_size}
use Rattle.level.proofs.size_of.Goals as goal

pub returns : goal.returns
unfolding level_size
returns c = c.of_parts.ensures ∙ ap (number_of c.args.level.size) c.size_code.ensures
