-- `stripped_tail` meets its contract: what the point and leading zeros leave are the significant digits.
use Rattle.std.proofs.Common.{ℕ, List, ◌++◌, sym, ap, ◌∙◌, arith}
use Rattle.decimal.specs.Digits.{significant}
use Rattle.decimal.specs.Decimal.{number}
use Rattle.decimal.specs.Tail.{remaining, front_of}
use Rattle.decimal.proofs.Text.{past-tidied, stripped-near, stripped-zeros, stripped-far}
use Rattle.decimal.proofs.writing.stripped_tail.Goals as goal

pub returns-then-a-lt10 : goal.returns-then-a-lt10
unfolding number
returns-then-a-lt10 c = let a = c.args.a in c.digits_tail.ensures ∙ sym (stripped-near a.digits a.code c.if-a-lt10.true)

pub returns-then-a-eq0 : goal.returns-then-a-eq0
unfolding number
returns-then-a-eq0 c =
    let a = c.args.a in
    c.digits_tail-then-a-eq0.ensures ∙ ap significant c.past.ensures ∙ sym (stripped-zeros a.digits a.code c.if-a-eq0.true)

pub returns : goal.returns
unfolding number remaining front_of
returns c =
    let a = c.args.a in
    ap (λ (l : List ℕ). significant a.digits ++ l) (past-tidied a.code c.tidy.result c.tidy.ensures c.if-a-lt10.false)
    ∙ sym (stripped-far a.digits a.code c.if-a-eq0.false)

pub overflow_cast-result : goal.overflow_cast-result
overflow_cast-result c = omega (arith, c.tidy.ensures.low)
