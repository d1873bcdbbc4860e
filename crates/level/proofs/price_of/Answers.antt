-- `price_of` meets its contract: it has the digits of the level's price, and its code.
use mathlib.Core.Path.{ap, ◌∙◌}
use Rattle.decimal.specs.Decimal.{number_of}
use Rattle.level.specs.Words.{level_price}
use Rattle.level.proofs.price_of.Goals as goal

pub returns : goal.returns
unfolding level_price
returns c = c.of_parts.ensures ∙ ap (number_of c.args.level.price) c.price_code.ensures
