-- The feed stays within the buffer.
use Rattle.std.proofs.Common.{length, ◌+◌, ◌≤◌}
use Rattle.feed.specs.Stream.{Holds}
use Rattle.booklines.proofs.serve.Given as goal

abbrev pub invariant-loop : goal.invariant-loop
invariant-loop l = Holds l.stream l.input × (l.stream.to + l.fresh ≤ length l.input)
