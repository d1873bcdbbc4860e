-- `digit_at` meets its contract: a byte less 48 is below ten for the digits alone, and past the end there is none.
use Rattle.std.proofs.Common.{ℕ, sym, subst, arith}
use lib.ListN.{get_or-eq_default}
use Rattle.decimal.specs.Reads.{DigitOf}
use Rattle.decimal.proofs.Scan.{wrapped-digit, no-digit-here}
use Rattle.decimal.proofs.reading.digit_at.Goals as goal

pub returns-then-at-s : goal.returns-then-at-s
returns-then-at-s c = wrapped-digit _ _ (omega arith) (let e = c.wide.ensures.0 in omega arith)

pub returns-else-at-s : goal.returns-else-at-s
returns-else-at-s c = subst (λ (b : ℕ). DigitOf b 10) (sym (get_or-eq_default c.args.s.now 0 c.if-at-s.false)) no-digit-here
