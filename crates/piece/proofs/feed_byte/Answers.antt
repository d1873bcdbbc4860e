-- `feed_byte` meets its contract: the byte stands in front, and the piece is one byte longer.
use mathlib.Core.Path.{refl}
use Rattle.piece.proofs.feed_byte.Goals as goal

pub returns : goal.returns
returns c = record { sum = c.front_with.ensures; long = refl }
