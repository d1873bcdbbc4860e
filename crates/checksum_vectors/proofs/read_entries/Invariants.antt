-- Each turn puts one entry more into the buffer.
use Rattle.checksum_vectors.specs.Book.{Filled}
use Rattle.checksum_vectors.proofs.read_entries.Given as goal

abbrev pub invariant-loop-k : goal.invariant-loop-k
invariant-loop-k l = Filled l.buffer l.k
