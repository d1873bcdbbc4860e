-- What is held stays within the buffer.
use Rattle.std.proofs.Common.{◌≡◌, length, ◌≤◌}
use Rattle.whyrefused.proofs.run.Given as goal

abbrev pub invariant-loop : goal.invariant-loop
invariant-loop g l = (l.held ≤ length l.buffer) × (length l.buffer ≡ length l.initial.buffer)
