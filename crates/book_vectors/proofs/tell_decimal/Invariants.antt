-- The text keeps its length.
use Rattle.std.proofs.Common.{◌≡◌, length}
use Rattle.book_vectors.proofs.tell_decimal.Given as goal

abbrev pub invariant-loop-at : goal.invariant-loop-at
invariant-loop-at g l = length l.text ≡ 24
