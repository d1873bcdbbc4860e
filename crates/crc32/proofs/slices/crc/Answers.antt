-- `crc32::text::crc` meets its contract: it is the definition, with the state after the text.
-- Assumes nothing.
use mathlib.Core.Path.{ap}
use Rattle.crc32_spec.specs.Crc.{crc, finish}
use Rattle.crc32.proofs.slices.crc.Goals as goal

pub returns : goal.returns
unfolding crc
returns c = ap finish c.run.ensures
