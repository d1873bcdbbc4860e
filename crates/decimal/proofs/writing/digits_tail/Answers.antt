-- `digits_tail` meets its contract: the tail that it makes stands for that text.
use Rattle.std.proofs.Common.{zero-le}
use Rattle.decimal.specs.Digits.{significant}
use Rattle.decimal.specs.Tail.{remaining, front_of}
use Rattle.decimal.proofs.Text.{none-past}
use Rattle.decimal.proofs.writing.digits_tail.Goals as goal

pub returns : goal.returns
unfolding remaining front_of
returns c = none-past (significant c.args.n) 0 zero-le
