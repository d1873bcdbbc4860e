-- `whole_tail` meets its contract: the tail that it makes stands for that text.
use Rattle.std.proofs.Common.{zero-le}
use Rattle.decimal.specs.Digits.{written}
use Rattle.decimal.specs.Tail.{remaining, front_of}
use Rattle.decimal.proofs.Text.{none-past}
use Rattle.decimal.proofs.writing.whole_tail.Goals as goal

pub returns : goal.returns
unfolding remaining front_of
returns c = none-past (written c.args.n) 0 zero-le
