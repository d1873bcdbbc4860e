-- `upper` meets its contract: digits of fewer decimals are raised to nine, and nine decimals are all that the digits have.
use Rattle.std.proofs.Common.{◌≡◌, ℕ, ◌-◌, ◌*◌, ◌^◌, ◌<◌, sym, ap, ◌∙◌, subst, mul-one, arith}
use Rattle.decimal.specs.Decimal.{number, near}
use Rattle.decimal.specs.Words.{upper_of}
use Rattle.decimal.proofs.Words.{upper_fits, value-upper}
use Rattle.decimal.proofs.upper.Goals as goal

pub overflow_mul-result : goal.overflow_mul-result
unfolding number
overflow_mul-result c =
    let a = c.args.a in
    record { fits = subst (λ (n : ℕ). a.digits * n < 2 ^ 64) (sym c.power.ensures) (upper_fits a.digits a.code c.requires c.if-a-lt-NEAR.true) }

pub returns-then-a-lt-NEAR : goal.returns-then-a-lt-NEAR
unfolding number upper_of
returns-then-a-lt-NEAR c =
    let a = c.args.a in
    ap (λ (n : ℕ). a.digits * n) c.power.ensures ∙ sym (value-upper a.digits a.code)

pub returns : goal.returns
unfolding number upper_of
returns c =
    let a = c.args.a in
    let l = c.if-a-lt-NEAR.false in
    let z : near - a.code ≡ 0 = omega arith in
    sym (value-upper a.digits a.code ∙ ap (λ (n : ℕ). a.digits * 10 ^ n) z ∙ mul-one a.digits)
