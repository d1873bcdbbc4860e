-- As many lengths are compared as were passed, and no more of them differ.
use Rattle.std.proofs.Common.{◌≡◌, ◌≤◌}
use Rattle.crc32_vectors.proofs.tally.Given as goal

abbrev pub invariant-loop-n : goal.invariant-loop-n
invariant-loop-n l = (l.made ≡ l.n) × (l.differing ≤ l.n)
