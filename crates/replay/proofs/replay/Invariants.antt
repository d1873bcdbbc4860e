use Prim.Native.Nat.{◌-◌}
use lib.ListN.{length}
use Rattle.book.specs.Shown.{shows}
use Rattle.replay.proofs.Replaying.{Going}
use Rattle.replay.proofs.replay.Given as goal

abbrev pub invariant-loop-book : goal.invariant-loop-book
invariant-loop-book l = Going (shows l.initial.book) l.script l.initial.out l.out l.book l.at l.done l.calls

abbrev pub decreases-loop-book : goal.decreases-loop-book
decreases-loop-book l = length l.script - l.at
