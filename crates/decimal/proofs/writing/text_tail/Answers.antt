-- `text_tail` meets its contract: the text has no part after the point, or one of up to nine decimals, or more than nine.
use Rattle.std.proofs.Common.{ℕ, List, ◌++◌, sym, ap, ◌∙◌, zero-le, arith}
use Rattle.decimal.specs.Decimal.{number, text, near}
use Rattle.decimal.specs.Tail.{remaining, front_of}
use Rattle.decimal.specs.declared.Part.TheVariants.{Fraction}
use Rattle.decimal.proofs.Words.{number-near}
use Rattle.decimal.proofs.Text.{none-past, past-tidied, text-whole, text-fraction, text-far}
use Rattle.decimal.proofs.writing.text_tail.Goals as goal

pub returns-then-a-eq0 : goal.returns-then-a-eq0
unfolding number
returns-then-a-eq0 c =
    let a = c.args.a in
    let z = c.if-a-eq0.true in
    c.whole_tail.ensures ∙ sym (ap text (number-near a.digits a.code (omega arith)) ∙ text-whole (record { digits = a.digits; decimals = a.code }) z)

pub returns-then-a-lt10 : goal.returns-then-a-lt10
unfolding number remaining
returns-then-a-lt10 c =
    let a = c.args.a in
    none-past (front_of Fraction a.digits a.code) 0 zero-le
    ∙ sym (ap text (number-near a.digits a.code c.if-a-lt10.true) ∙ text-fraction (record { digits = a.digits; decimals = a.code }) c.if-a-eq0.false)

pub returns : goal.returns
unfolding number remaining
returns c =
    let a = c.args.a in
    ap (λ (l : List ℕ). front_of Fraction a.digits near ++ l) (past-tidied a.code c.tidy.result c.tidy.ensures c.if-a-lt10.false)
    ∙ sym (text-far a.digits a.code c.if-a-lt10.false)

pub overflow_cast-result : goal.overflow_cast-result
overflow_cast-result c = omega (arith, c.tidy.ensures.low)
