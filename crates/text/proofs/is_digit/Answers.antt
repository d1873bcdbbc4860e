-- `text::is_digit` meets its contract: std's test of a digit is that of the definition.
-- Assumes nothing.
use Rattle.text.specs.Text.{is_digit}
use Rattle.text.proofs.is_digit.Goals as goal

pub returns : goal.returns
unfolding is_digit
returns c = c.is_ascii_digit.ensures.value
