-- `lower` meets its contract: each arm is a code with so many digits.
use Rattle.std.proofs.Common.{sym, ◌∙◌, mul-one, arith}
use Rattle.decimal.proofs.Words.{far-one, far-two, far-three, lower-none, lower-at}
use Rattle.decimal.proofs.lower.Goals as goal

pub returns-in-0-to-9 : goal.returns-in-0-to-9
returns-in-0-to-9 c = sym (lower-none c.args.code (omega arith))

pub returns-in-10-to-99 : goal.returns-in-10-to-99
returns-in-10-to-99 c = sym (lower-at c.args.code 1 (far-one c.args.code (omega arith) (omega arith)))

pub returns-in-100-to-999 : goal.returns-in-100-to-999
returns-in-100-to-999 c = sym (lower-at c.args.code 2 (far-two c.args.code (omega arith) (omega arith)))

pub returns-in_default : goal.returns-in_default
returns-in_default c = sym (lower-at c.args.code 3 (far-three c.args.code (omega arith)) ∙ mul-one _)
