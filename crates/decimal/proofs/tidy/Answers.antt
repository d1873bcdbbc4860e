-- `tidy` meets its contract: each arm is a code with so many digits.
use Rattle.std.proofs.Common.{arith, lit<, lit≤}
use Rattle.decimal.proofs.Words.{far-one, far-two, far-three, tidied-near, tidied-far}
use Rattle.decimal.proofs.tidy.Goals as goal

pub returns-in-0-to-9 : goal.returns-in-0-to-9
returns-in-0-to-9 c = tidied-near c.args.code (omega arith)

pub returns-in-10-to-99 : goal.returns-in-10-to-99
returns-in-10-to-99 c = tidied-far c.args.code 1 (omega arith) (far-one c.args.code (omega arith) (omega arith)) (lit< tt) (lit≤ tt)

pub returns-in-100-to-999 : goal.returns-in-100-to-999
returns-in-100-to-999 c = tidied-far c.args.code 2 (omega arith) (far-two c.args.code (omega arith) (omega arith)) (lit< tt) (lit≤ tt)

pub returns-in_default : goal.returns-in_default
returns-in_default c = tidied-far c.args.code 3 (omega arith) (far-three c.args.code (omega arith)) (lit< tt) (lit≤ tt)
