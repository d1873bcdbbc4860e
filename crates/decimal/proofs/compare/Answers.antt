-- `compare` meets its contract: of one code, two decimals are ordered as their digits are; else by what counts in the ninth decimal, and where that
-- is one, by what is left.
use Rattle.std.proofs.Common.{ℕ, sym, ap, ◌∙◌, ap₂}
use Rattle.decimal.specs.Decimal.{number, number_of}
use Rattle.decimal.specs.Limits.{order, order_of}
use Rattle.decimal.proofs.Words.{value-upper, order_same, order-parts-upper, order-parts-lower}
use Rattle.decimal.proofs.compare.Goals as goal

pub returns-then-a-b : goal.returns-then-a-b
unfolding number order_of
returns-then-a-b c =
    let a = c.args.a in
    let b = c.args.b in
    c.cmp.ensures ∙ sym (order_same a.digits b.digits a.code) ∙ ap (λ (k : ℕ). order (number_of a.digits a.code) (number_of b.digits k)) c.if-a-b.true

pub returns-then-x-y : goal.returns-then-x-y
unfolding number order_of
returns-then-x-y c =
    let a = c.args.a in
    let b = c.args.b in
    let x = c.upper-x.ensures ∙ value-upper a.digits a.code in
    let y = c.upper-y.ensures ∙ value-upper b.digits b.code in
    c.cmp-then-x-y.ensures
    ∙ ap₂ order_of c.lower.ensures c.lower-then-x-y.ensures
    ∙ sym (order-parts-lower a.digits a.code b.digits b.code (sym x ∙ c.if-x-y.true ∙ y))

pub returns : goal.returns
unfolding number order_of
returns c =
    let a = c.args.a in
    let b = c.args.b in
    let x = c.upper-x.ensures ∙ value-upper a.digits a.code in
    let y = c.upper-y.ensures ∙ value-upper b.digits b.code in
    c.cmp-2.ensures
    ∙ ap₂ order_of x y
    ∙ sym (order-parts-upper a.digits a.code b.digits b.code (λ e. c.if-x-y.false (x ∙ e ∙ sym y)))
