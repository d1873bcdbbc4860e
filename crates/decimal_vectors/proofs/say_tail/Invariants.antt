-- `say_tail` ends: each turn takes a byte off the text.
use Rattle.std.proofs.Common.{length}
use Rattle.decimal.specs.Tail.{remaining}
use Rattle.decimal_vectors.proofs.say_tail.Given as goal

abbrev pub decreases-loop-byte : goal.decreases-loop-byte
decreases-loop-byte g l = length (remaining l.rest)
