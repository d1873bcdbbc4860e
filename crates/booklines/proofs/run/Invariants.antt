-- What is held leaves room in the buffer.
use Rattle.std.proofs.Common.{◌≤◌}
use Rattle.feed.specs.Feed.{carried}
use Rattle.feed.specs.Stream.{Holds}
use Rattle.booklines.proofs.run.Given as goal

abbrev pub invariant-loop : goal.invariant-loop
invariant-loop l = Holds l.stream l.input × (l.stream.to ≤ carried)
