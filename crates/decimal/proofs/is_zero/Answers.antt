-- `is_zero` meets its contract: the digits up to the ninth decimal are zeros, and so are those past it.
use Rattle.std.proofs.Common.{ℕ, eqb, sym, ap, ◌∙◌, ne_eqb}
use Rattle.decimal.specs.Decimal.{number}
use Rattle.decimal.proofs.Words.{zero-digits, some-digits}
use Rattle.decimal.proofs.is_zero.Goals as goal

pub returns-then-a-eq0 : goal.returns-then-a-eq0
unfolding number
returns-then-a-eq0 c = let a = c.args.a in ap (λ (n : ℕ). eqb n 0) c.past.ensures ∙ sym (zero-digits a.digits a.code c.if-a-eq0.true)

pub returns-else-a-eq0 : goal.returns-else-a-eq0
unfolding number
returns-else-a-eq0 c = let a = c.args.a in ne_eqb a.digits 0 c.if-a-eq0.false ∙ sym (some-digits a.digits a.code c.if-a-eq0.false)
