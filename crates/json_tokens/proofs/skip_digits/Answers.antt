-- `json_tokens::skip_digits` meets its contract: wherever the loop stands, what is left to pass ends where the whole does.
-- Assumes nothing.
use mathlib.Core.Path.{◌∙◌, ap, refl, sym}
use native.Mathlib.Omega.{arith}
use Rattle.json_tokens.proofs.Laws.{digits-on, digits-stop, in-digit}
use Rattle.text.specs.Text.{is_digit}
use Rattle.json_tokens.proofs.skip_digits.Goals as goal

pub loop-i-init : goal.loop-i-init
loop-i-init c = refl

pub overflow_add-i : goal.overflow_add-i
overflow_add-i c = omega (arith, in-digit c.args.s.now c.loop-i.i (ap is_digit (sym c.byte_at.ensures) ∙ sym c.is_digit.ensures ∙ c.loop-i-test.true))

pub loop-i-smaller : goal.loop-i-smaller
loop-i-smaller c = omega (arith, in-digit c.args.s.now c.loop-i.i (ap is_digit (sym c.byte_at.ensures) ∙ sym c.is_digit.ensures ∙ c.loop-i-test.true))

pub loop-i-preserved : goal.loop-i-preserved
loop-i-preserved c = sym (digits-on c.args.s.now c.loop-i.i (ap is_digit (sym c.byte_at.ensures) ∙ sym c.is_digit.ensures ∙ c.loop-i-test.true)) ∙ c.loop-i.invariant

pub returns : goal.returns
returns c = sym (digits-stop c.args.s.now c.loop-i.i (ap is_digit (sym c.byte_at.ensures) ∙ sym c.is_digit.ensures ∙ c.loop-i-test.false)) ∙ c.loop-i.invariant
