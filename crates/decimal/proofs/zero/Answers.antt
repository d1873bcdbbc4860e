-- `zero` meets its contract: it is 0 with no decimals.
use Rattle.std.proofs.Common.{lit<}
use Rattle.decimal.specs.Decimal.{number}
use Rattle.decimal.proofs.Words.{number-near}
use Rattle.decimal.proofs.zero.Goals as goal

pub returns : goal.returns
unfolding number
returns c = number-near 0 0 (lit< tt)
