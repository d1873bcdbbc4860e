-- `parse_whole` meets its contract: the run of digits goes to the end of the text, or the text is refused.
use Rattle.std.proofs.Common.{sym, ◌∙◌}
use Rattle.decimal.proofs.WholeNumber.{whole-none, whole-more, whole-within, whole-bad, whole-read}
use Rattle.decimal.proofs.reading.parse_whole.Goals as goal
use Rattle.decimal.proofs.reading.parse_whole.Goals.{then-end-eq0-via-then-end-eq0, then-end-eq0-via-else-end-eq0+then-end-s, then-end-eq0-via-else-end-eq0+else-end-s+then-needless_zero}

pub needless_zero-requires : goal.needless_zero-requires
needless_zero-requires c = whole-within c.args.s.now c.digits_at-w.ensures c.if-end-eq0.false c.if-end-s.false

pub returns-then-end-eq0 : goal.returns-then-end-eq0
returns-then-end-eq0 c = elim c.then-end-eq0.branch [
  | then-end-eq0-via-then-end-eq0 w ↦ sym (whole-none c.args.s.now c.digits_at-w.ensures w.if-end-eq0.true)
  | then-end-eq0-via-else-end-eq0+then-end-s w ↦ sym (whole-more c.args.s.now c.digits_at-w.ensures w.if-end-s.true)
  | then-end-eq0-via-else-end-eq0+else-end-s+then-needless_zero w ↦ sym (whole-bad c.args.s.now c.digits_at-w.ensures w.if-end-eq0.false w.if-end-s.false (sym w.needless_zero.ensures ∙ w.if-needless_zero.true))
]

pub returns : goal.returns
returns c = whole-read c.args.s.now c.digits_at-w.ensures c.if-end-eq0.false c.if-end-s.false (sym c.needless_zero.ensures ∙ c.if-needless_zero.false)
