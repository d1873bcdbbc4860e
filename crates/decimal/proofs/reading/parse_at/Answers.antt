-- `parse_at` meets its contract: each way out is one case of the decimal at the front of a text, by the runs of digits found.
use Rattle.std.proofs.Common.{drop, sym, ap, ◌∙◌, arith}
use Rattle.text.specs.Text.{byte_at, is_digit}
use Rattle.decimal.specs.Decimal.{number}
use Rattle.decimal.proofs.Scan.{prefix-refused}
use Rattle.decimal.proofs.Prefix.{run-within, not-whole, whole_part, front-empty, front_long, front-plain, fraction-empty, fraction-more, front-more, front-fraction, point-within, whole_room}
use Rattle.decimal.proofs.reading.parse_at.Goals as goal
use Rattle.decimal.proofs.reading.parse_at.Goals.{then-end-at-via-then-end-at, then-end-at-via-else-end-at+then-is_digit, then-end-at-via-else-end-at+else-is_digit+then-needless_zero}

pub needless_zero-requires : goal.needless_zero-requires
unfolding byte_at
needless_zero-requires c = run-within c.digits_at-whole.ensures c.if-end-at.false (sym (ap is_digit c.byte_at.ensures) ∙ sym c.is_digit.ensures ∙ c.if-is_digit.false)

pub returns-then-end-at : goal.returns-then-end-at
unfolding byte_at
returns-then-end-at c = elim c.then-end-at.branch [
  | then-end-at-via-then-end-at w ↦ sym (front-empty c.digits_at-whole.ensures w.if-end-at.true)
  | then-end-at-via-else-end-at+then-is_digit w ↦ sym (front_long c.digits_at-whole.ensures (sym (ap is_digit w.byte_at.ensures) ∙ sym w.is_digit.ensures ∙ w.if-is_digit.true))
  | then-end-at-via-else-end-at+else-is_digit+then-needless_zero w ↦ sym (prefix-refused (drop c.args.at c.args.s.now) (not-whole c.digits_at-whole.ensures w.if-end-at.false (sym (ap is_digit w.byte_at.ensures) ∙ sym w.is_digit.ensures ∙ w.if-is_digit.false) (sym w.needless_zero.ensures ∙ w.if-needless_zero.true)))
]

pub returns-then-byte_at-ne-POINT : goal.returns-then-byte_at-ne-POINT
unfolding number byte_at
returns-then-byte_at-ne-POINT c = front-plain (whole_part c.digits_at-whole.ensures c.if-end-at.false (sym (ap is_digit c.byte_at.ensures) ∙ sym c.is_digit.ensures ∙ c.if-is_digit.false) (sym c.needless_zero.ensures ∙ c.if-needless_zero.false)) (λ e. c.if-byte_at-ne-POINT.true (c.byte_at-2.ensures ∙ e))

pub overflow_add-start : goal.overflow_add-start
unfolding byte_at
overflow_add-start c = let h = point-within (whole_part c.digits_at-whole.ensures c.if-end-at.false (sym (ap is_digit c.byte_at.ensures) ∙ sym c.is_digit.ensures ∙ c.if-is_digit.false) (sym c.needless_zero.ensures ∙ c.if-needless_zero.false)) (sym c.byte_at-2.ensures ∙ c.if-byte_at-ne-POINT.false) in omega (arith, c.well_formed)

pub digits_at-fraction-requires : goal.digits_at-fraction-requires
unfolding byte_at
digits_at-fraction-requires c = whole_room (whole_part c.digits_at-whole.ensures c.if-end-at.false (sym (ap is_digit c.byte_at.ensures) ∙ sym c.is_digit.ensures ∙ c.if-is_digit.false) (sym c.needless_zero.ensures ∙ c.if-needless_zero.false))

pub returns-then-stop-start : goal.returns-then-stop-start
unfolding byte_at
returns-then-stop-start c = sym (fraction-empty (whole_part c.digits_at-whole.ensures c.if-end-at.false (sym (ap is_digit c.byte_at.ensures) ∙ sym c.is_digit.ensures ∙ c.if-is_digit.false) (sym c.needless_zero.ensures ∙ c.if-needless_zero.false)) (sym c.byte_at-2.ensures ∙ c.if-byte_at-ne-POINT.false) c.digits_at-fraction.ensures c.if-stop-start.true)

pub returns-then-is_digit-3 : goal.returns-then-is_digit-3
unfolding byte_at
returns-then-is_digit-3 c = sym (fraction-more (whole_part c.digits_at-whole.ensures c.if-end-at.false (sym (ap is_digit c.byte_at.ensures) ∙ sym c.is_digit.ensures ∙ c.if-is_digit.false) (sym c.needless_zero.ensures ∙ c.if-needless_zero.false)) (sym c.byte_at-2.ensures ∙ c.if-byte_at-ne-POINT.false) c.digits_at-fraction.ensures (sym (ap is_digit c.byte_at-3.ensures) ∙ sym c.is_digit-2.ensures ∙ c.if-is_digit-2.true) c.digits_at-past.ensures (sym (ap is_digit c.byte_at-then-is_digit-2.ensures) ∙ sym c.is_digit-then-is_digit-2.ensures ∙ c.if-is_digit-3.true))

pub returns-then-is_digit-2 : goal.returns-then-is_digit-2
unfolding number byte_at
returns-then-is_digit-2 c = front-more (whole_part c.digits_at-whole.ensures c.if-end-at.false (sym (ap is_digit c.byte_at.ensures) ∙ sym c.is_digit.ensures ∙ c.if-is_digit.false) (sym c.needless_zero.ensures ∙ c.if-needless_zero.false)) (sym c.byte_at-2.ensures ∙ c.if-byte_at-ne-POINT.false) c.digits_at-fraction.ensures (sym (ap is_digit c.byte_at-3.ensures) ∙ sym c.is_digit-2.ensures ∙ c.if-is_digit-2.true) c.digits_at-past.ensures (sym (ap is_digit c.byte_at-then-is_digit-2.ensures) ∙ sym c.is_digit-then-is_digit-2.ensures ∙ c.if-is_digit-3.false)

pub returns : goal.returns
unfolding number byte_at
returns c = front-fraction (whole_part c.digits_at-whole.ensures c.if-end-at.false (sym (ap is_digit c.byte_at.ensures) ∙ sym c.is_digit.ensures ∙ c.if-is_digit.false) (sym c.needless_zero.ensures ∙ c.if-needless_zero.false)) (sym c.byte_at-2.ensures ∙ c.if-byte_at-ne-POINT.false) c.digits_at-fraction.ensures c.if-stop-start.false (sym (ap is_digit c.byte_at-3.ensures) ∙ sym c.is_digit-2.ensures ∙ c.if-is_digit-2.false)
