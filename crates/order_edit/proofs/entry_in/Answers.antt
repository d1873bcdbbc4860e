-- `entry_in` meets its contract: entry k is the six words from 6k on.
use native.Mathlib.Omega.{arith}
use Rattle.order_edit.specs.Buffer.{entry_of, entries_in, no_entry}
use Rattle.order_edit.proofs.Sixes.{sixes-at}
use Rattle.order_edit.proofs.entry_in.Goals as goal

pub returns : goal.returns
unfolding entries_in entry_of
returns c =
    let b = c in
    rw (c.of_parts-price.ensures, c.of_parts-size.ensures, c.side_in.ensures, c.event_in.ensures)
    (sixes-at entry_of b.args.k b.args.buffer.now no_entry (omega (arith, b.requires.0, b.requires.1)))
