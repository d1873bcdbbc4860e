-- `past` meets its contract: each arm is a code with so many digits.
use Rattle.std.proofs.Common.{sym, arith}
use Rattle.decimal.proofs.Words.{far-one, far-two, far-three, past-none, past-at}
use Rattle.decimal.proofs.past.Goals as goal

pub returns-in-0-to-9 : goal.returns-in-0-to-9
returns-in-0-to-9 c = sym (past-none c.args.code (omega arith))

pub returns-in-10-to-99 : goal.returns-in-10-to-99
returns-in-10-to-99 c = sym (past-at c.args.code 1 (far-one c.args.code (omega arith) (omega arith)))

pub returns-in-100-to-999 : goal.returns-in-100-to-999
returns-in-100-to-999 c = sym (past-at c.args.code 2 (far-two c.args.code (omega arith) (omega arith)))

pub returns-in_default : goal.returns-in_default
returns-in_default c = sym (past-at c.args.code 3 (far-three c.args.code (omega arith)))
