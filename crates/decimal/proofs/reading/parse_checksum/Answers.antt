-- `parse_checksum` meets its contract: it is a whole number up to a bound.
use Rattle.std.proofs.Common.{sym, ap, ◌∙◌}
use Rattle.decimal.specs.Whole.{at_most, read_checksum, max_checksum}
use Rattle.decimal.proofs.WholeNumber.{below-bound, above-bound}
use Rattle.decimal.proofs.reading.parse_checksum.Goals as goal

pub returns-then-n-le-MAX_CHECKSUM : goal.returns-then-n-le-MAX_CHECKSUM
unfolding read_checksum at_most
returns-then-n-le-MAX_CHECKSUM c = sym (ap (at_most max_checksum) (sym c.in_ok-n.ensures) ∙ below-bound max_checksum c.in_ok-n.n c.if-n-le-MAX_CHECKSUM.true)

pub returns-else-n-le-MAX_CHECKSUM : goal.returns-else-n-le-MAX_CHECKSUM
unfolding read_checksum at_most
returns-else-n-le-MAX_CHECKSUM c = sym (ap (at_most max_checksum) (sym c.in_ok-n.ensures) ∙ above-bound max_checksum c.in_ok-n.n c.if-n-le-MAX_CHECKSUM.false)

pub returns-in_err-n : goal.returns-in_err-n
unfolding read_checksum at_most
returns-in_err-n c = c.from_residual.ensures ∙ ap (at_most max_checksum) c.in_err-n.ensures
