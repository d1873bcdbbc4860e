-- `decimals` meets its contract: each arm is a code with so many digits.
use Rattle.std.proofs.Common.{ℕ, ◌+◌, sym, ap, ◌∙◌, arith}
use Rattle.decimal.specs.Decimal.{near}
use Rattle.decimal.proofs.Words.{far-one, far-two, far-three, decimals-near, decimals-far}
use Rattle.decimal.proofs.decimals.Goals as goal

pub returns-in-0-to-9 : goal.returns-in-0-to-9
returns-in-0-to-9 c = sym (decimals-near c.args.code (omega arith))

pub returns-in-10-to-99 : goal.returns-in-10-to-99
returns-in-10-to-99 c = sym (decimals-far c.args.code (omega arith) ∙ ap (λ (n : ℕ). near + n) (far-one c.args.code (omega arith) (omega arith)))

pub returns-in-100-to-999 : goal.returns-in-100-to-999
returns-in-100-to-999 c = sym (decimals-far c.args.code (omega arith) ∙ ap (λ (n : ℕ). near + n) (far-two c.args.code (omega arith) (omega arith)))

pub returns-in_default : goal.returns-in_default
returns-in_default c = sym (decimals-far c.args.code (omega arith) ∙ ap (λ (n : ℕ). near + n) (far-three c.args.code (omega arith)))
