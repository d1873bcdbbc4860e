use Prim.Native.Nat.{◌-◌}
use lib.ListN.{length}
use Rattle.book.specs.Shown.{shows, book_of}
use Rattle.feed.proofs.Processing.{Walk}
use Rattle.feed.proofs.process_lines.Given as goal

abbrev pub invariant-loop-buffer : goal.invariant-loop-buffer
invariant-loop-buffer l = Walk l.s (shows (book_of l.initial.bids l.initial.asks l.initial.header)) l.initial.buffer l.buffer (book_of l.bids l.asks l.header) l.next l.written

abbrev pub decreases-loop-buffer : goal.decreases-loop-buffer
decreases-loop-buffer l = length l.s - l.next
